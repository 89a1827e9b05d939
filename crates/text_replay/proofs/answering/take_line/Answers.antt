-- `take_line` meets its contract. Assumes nothing.
use mathlib.Core.Path.{refl}
use native.Mathlib.Omega.{arith}
use Rattle.text_replay.proofs.TurnLaws.{ended-took, line-took}
use Rattle.text_replay.proofs.answering.take_line.Goals as goal

pub returns-then-is_some : goal.returns-then-is_some
returns-then-is_some c = let start = c in (
  record { pending = refl; at = refl; waiting = omega (arith, start.requires.0); answer = start.requires.1.0 },
  ended-took _ start.args.p _ _ (cc),
)

pub returns : goal.returns
returns c = let at-act = c in
    let at-parse = at-act in
    let at-if1 = at-parse in let start = at-if1 in
    let t = at-act.act.ensures in (
      record { pending = t.0.pending; at = t.0.at; waiting = t.0.waiting; answer = t.0.answer },
      line-took start.args.line.now _ _ start.args.p _ _ _ _ (cc)
          at-parse.parse_entry-said.ensures.means t.1,
    )
