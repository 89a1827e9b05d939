-- `turn` meets its contract. Assumes nothing.
use mathlib.Core.{Bool.{not, false≢true}, Path.{refl, sym, ◌∙◌}}
use native.Mathlib.Omega.{arith}
use Rattle.replay.proofs.Laws.{both, rests, answered-flushed, input-ends, version-ends}
use Rattle.replay.proofs.turn.Goals as goal

pub returns-in-Ok-eq0 : goal.returns-in-Ok-eq0
returns-in-Ok-eq0 c = let f = c.flush-p.ensures in let l = c.replay_last_line-q.ensures in
    let r = rests _ _ f (omega (arith, l.1.pending, c.requires.0.pending)) l.1.answer in let a = r.answer in (
      record { pending = r.pending; waiting = r.waiting; answer = record { starts = a.starts; ends = a.ends } },
      λ e. absurd (false≢true e),
      λ e. (0, input-ends _ _ _ _ _ refl (answered-flushed _ _ _ _ _ _ _ f l.0)),
    )

pub returns-in-Ok : goal.returns-in-Ok
returns-in-Ok c = let q = c.take_piece-p.result in let t = c.take_piece-p.ensures in let a = t.0.answer in
    let ended = c.is_some-ended in (
      record { pending = t.0.pending; waiting = t.0.waiting; answer = record { starts = a.starts; ends = a.ends } },
      λ e. (c.in-Ok.n, t.1 (both q.goes (not ended.result) e).0),
      λ e. let b = both q.goes ended.result e in (c.in-Ok.n, version-ends _ _ _ (t.1 b.0) (sym ended.ensures ∙ b.1)),
    )
