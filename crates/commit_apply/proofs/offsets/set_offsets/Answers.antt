-- Each offset is set from the standing that was lent: no offset that is set before changes it.
use mathlib.Core.{Bool.not, List.List, Path.{refl, sym, ap, ◌∙◌}}
use Prim.Native.Nat.{ℕ, ◌<◌}
use native.Mathlib.Omega.{arith}
use Rattle.limits.specs.Limits.{descriptor_count}
use Rattle.state.specs.{declared.Transaction.Transaction, StoreMeaning.{standing_at, with_offsets}, Layout.{store_of, transaction_of}}
use Rattle.standings.specs.{declared.Standing.Standing, Table.{advance, final_offset}}
use Rattle.spec.specs.Commits.{sets_offset}
use Rattle.admission.proofs.Laws.{failed}
use Rattle.commit_apply.specs.Apply.{descriptors_only}
use Rattle.commit_apply.proofs.OffsetLaws.{fits-at, offsets-none, offsets-clean, offset-still, offset-put, offset-left}
use Rattle.commit_apply.proofs.OffsetLaws.{still-own, sets-own}
use Rattle.commit_apply.proofs.offsets.set_offsets.Goals as goal
use Rattle.commit_apply.proofs.offsets.set_offsets.Goals.{then-sets_offset_at, else-sets_offset_at}

pub returns-then-not-any_dirty : goal.returns-then-not-any_dirty
returns-then-not-any_dirty c = let state = c.args.state.now in record {
  store = ap (λ (os : List ℕ). with_offsets os (store_of state)) (sym (offsets-clean (transaction_of state c.args.t)
      (store_of state).offsets 16 (c.any_dirty.ensures (failed refl (ap not c.if-not-any_dirty.true)))));
  journal = refl;
  long = c.told-state;
}

pub loop-d-init : goal.loop-d-init
loop-d-init c = let state = c.args.state.now in record {
  store = ap (λ (os : List ℕ). with_offsets os (store_of state))
      (sym (offsets-none (transaction_of state c.args.t) (store_of state).offsets));
  journal = refl;
  long = c.told-state;
}

pub final_offset-requires : goal.final_offset-requires
final_offset-requires c = let d = c.loop-d.d in let before = c.args.state.now in
    let x = transaction_of before c.args.t in let few : d < descriptor_count = omega arith in
    let stands = c.standing_at-standing.ensures
    ∙ ap (λ (x : Transaction). standing_at x d) (still-own before _ _ c.args.t c.requires.0 c.loop-d.invariant.store) in omega (
      arith,
      fits-at (store_of before) x c.requires.1 d few,
      c.offset_at-c.ensures,
      offset-still x _ _ d few c.loop-d.invariant,
      ap advance stands,
    )

pub loop-d-preserved : goal.loop-d-preserved
loop-d-preserved c = let l = c.loop-d in let before = c.args.state.now in let t = c.args.t in
    let x = transaction_of before t in let few : l.d < descriptor_count = omega arith in
    let own = still-own before l.state _ t c.requires.0 l.invariant.store in
    let sets = ap (λ (x : Transaction). sets_offset (descriptors_only x) l.d) (sym own)
    ∙ sets-own l.state t l.d few _ c.sets_offset_at.ensures in
    elim c.if-sets_offset_at.branch [
      | then-sets_offset_at w ↦ offset-put x before l.state l.d few l.invariant (sets ∙ w.if-sets_offset_at.true) _ _ _
          w.offset_at-c.ensures (w.final_offset.ensures ∙ ap (λ (z : Standing). final_offset w.offset_at-c.result z)
          (w.standing_at-standing.ensures ∙ ap (λ (x : Transaction). standing_at x l.d) own)) (w.state-is ∙ w.put_offset.ensures)
      | else-sets_offset_at w ↦ offset-left x before l.state l.d few l.invariant (sets ∙ w.if-sets_offset_at.false) _ w.state-is
    ]
