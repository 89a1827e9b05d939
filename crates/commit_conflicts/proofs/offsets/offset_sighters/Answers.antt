-- `commit_conflicts::offsets::offset_sighters` meets its contract. The loop's invariant: those who have sighted an offset of the
-- descriptors passed.
use mathlib.Core.{Path.{refl, sym, ap, ◌∙◌}}
use Prim.Native.Nat.{ℕ, ◌<◌}
use native.Mathlib.Omega.{arith}
use Rattle.limits.specs.Limits.{descriptor_count}
use Rattle.buffers.specs.Marks.{contains}
use Rattle.state.specs.Layout.{descriptor_of, transaction_of}
use Rattle.commit_apply.specs.Apply.{descriptors_only}
use Rattle.commit_conflicts.proofs.ConflictLaws.{sets-is, none-set, no-offsets, offset-hits-none, offset-more, offset-less}
use borrow.Author.{Tests.not-true}
use mathlib.Core.Bool.{not}
use Rattle.commit_conflicts.proofs.offsets.offset_sighters.Goals as goal
use Rattle.commit_conflicts.proofs.offsets.offset_sighters.Goals.{then-sets_offset_at, else-sets_offset_at}

pub returns-then-not-any_dirty : goal.returns-then-not-any_dirty
returns-then-not-any_dirty c = let a = c.args in let state = a.state.now in
    λ marks v. offset-hits-none state marks a.watched v (descriptors_only (transaction_of state a.t)) 16
    (none-set state a.t (c.any_dirty.ensures (not-true _ (ap not c.if-not-any_dirty.true))))

pub loop-d-init : goal.loop-d-init
loop-d-init c = let a = c.args in λ marks v. no-offsets a.state.now marks a.watched v _

pub loop-d-preserved : goal.loop-d-preserved
loop-d-preserved c = let at-loop = c in let a = at-loop.args in
    let l = at-loop.loop-d in let x = descriptors_only (transaction_of a.state.now a.t) in
    let few : l.d < descriptor_count = omega arith in
    let sets = sets-is a.state.now a.t l.d few (descriptor_of a.state.now a.t l.d) refl
    ∙ sym c.sets_offset_at.ensures in elim c.if-sets_offset_at.branch [
      | then-sets_offset_at w ↦
          λ marks v. offset-more a.state.now marks a.watched v x l.d (sets ∙ w.if-sets_offset_at.true) _ _ _ (l.invariant marks v)
          w.settled_by.ensures (λ u. ap (λ (n : ℕ). contains n u) w.found-is ∙ w.joined-found.ensures u)
      | else-sets_offset_at w ↦
          λ marks v. rw w.found-is
          (offset-less a.state.now marks a.watched v x l.d _ (sets ∙ w.if-sets_offset_at.false) (l.invariant marks v))
    ]
