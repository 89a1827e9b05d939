-- `commit_conflicts::lengths::length_sighters` meets its contract. The loop's invariant: those who have sighted a length that is
-- raised of the files passed.
use mathlib.Core.{List.List, Path.{◌≡◌, ap, ◌∙◌}}
use lib.ListN.{get_or}
use Prim.Native.Nat.{ℕ, ◌<◌}
use native.Mathlib.Omega.{arith}
use Rattle.limits.specs.Limits.{file_count}
use Rattle.buffers.specs.Marks.{contains}
use Rattle.commit_apply.specs.Apply.{lengths_landed_in}
use Rattle.commit_conflicts.proofs.ConflictLaws.{no_lengths, length-hits-none, length_more, length-less}
use borrow.Author.{Tests.not-true}
use mathlib.Core.Bool.{not}
use Rattle.commit_conflicts.proofs.lengths.length_sighters.Goals as goal
use Rattle.commit_conflicts.proofs.lengths.length_sighters.Goals.{else-length_at-after, then-length_at-after}

pub returns-then-not-any_sighted : goal.returns-then-not-any_sighted
returns-then-not-any_sighted c = let a = c.args in
    λ files logs marks size. length-hits-none a.state.now marks a.watched files logs a.t a.used.records
    (c.any_sighted.ensures (not-true _ (ap not c.if-not-any_sighted.true))) 8

pub loop-f-init : goal.loop-f-init
loop-f-init c = let a = c.args in
    λ n files logs marks can e size. no_lengths a.state.now marks a.watched files logs a.t n

pub loop-f-preserved : goal.loop-f-preserved
loop-f-preserved c = let at-loop = c in let a = at-loop.args in
    let l = at-loop.loop-f in let few : l.f < file_count = omega arith in
    let now-at : (n : ℕ) → at-loop.lengths_after-after.result ≡ lengths_landed_in a.state.now a.t n
    → get_or at-loop.lengths_after-after.result l.f 0 ≡ get_or (lengths_landed_in a.state.now a.t n) l.f 0 =
    λ n e. ap (λ (xs : List ℕ). get_or xs l.f 0) e in elim c.if-length_at-after.branch [
      | then-length_at-after w ↦
          λ n files logs marks can e size. length_more a.state.now marks a.watched files logs a.t n can size l.f
          few _ _ c.length_at.ensures (now-at n e) w.if-length_at-after.true _ _ _ (l.invariant n files logs marks can e
          size) w.sighted_by.ensures (λ u. ap (λ (k : ℕ). contains k u) w.found-is ∙ w.joined-found.ensures u)
      | else-length_at-after w ↦
          λ n files logs marks can e size. rw w.found-is
          (length-less a.state.now marks a.watched files logs a.t n can size l.f few _ _
          c.length_at.ensures (now-at n e) w.if-length_at-after.false _ (l.invariant n files logs marks can e size))
    ]
