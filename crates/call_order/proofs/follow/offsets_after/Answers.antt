-- `call_order::follow::offsets_after` meets its contract.
use mathlib.Core.{Bool.{Bool, true, false, cond, ◌&&◌}, List.List, Path.{◌≡◌, sym, ap, ◌∙◌}}
use borrow.Author.{Rules.rules, Tests.leb-true}
use lib.ListN.{length, get_or, set}
use native.Mathlib.Omega.{arith}
use Prim.Native.Nat.{ℕ, ◌+◌, ◌≤◌, ◌<◌}
use Rattle.limits.specs.Limits.{file_bytes, descriptor_count}
use Rattle.standings.specs.Table.{advance, is_touched, final_offset}
use Rattle.state.{specs.declared.Descriptor.Descriptor, proofs.LayoutLaws.descriptor-of}
use Rattle.state.proofs.Filled.{filled, filled_none, filled-set, filled-preserved, filled-all}
use Rattle.admission.proofs.Laws.{below_at}
use Rattle.spec.specs.{Transactions.Txn, Commits.sets_offset}
use Rattle.call_order.specs.{OrderStatements.{fits_at, offsets_after}, OrderTable.descriptors_in}
use Rattle.call_order.proofs.follow.offsets_after.Invariants.{offset-after}
use Rattle.call_order.proofs.follow.offsets_after.Goals as goal
use Rattle.call_order.proofs.follow.offsets_after.Goals.{else-sets_offset, then-sets_offset}

set_so : (x : Txn) (offsets : List ℕ) (d v : ℕ) → sets_offset x d ≡ true → v ≡ final_offset (get_or offsets d 0) (x.standing d)
    → v ≡ offset-after x offsets d
set_so x offsets d v e h = h ∙ sym (ap (λ (b : Bool). cond b (final_offset (get_or offsets d 0) (x.standing d)) (get_or offsets d 0))
    e)

left_so : (x : Txn) (offsets : List ℕ) (d : ℕ) → sets_offset x d ≡ false → offset-after x offsets d ≡ get_or offsets d 0
left_so x offsets d e = ap (λ (b : Bool). cond b (final_offset (get_or offsets d 0) (x.standing d)) (get_or offsets d 0)) e

fits-there : (x : Txn) (offsets : List ℕ) (d : ℕ) → fits_at x offsets ≡ true → d < descriptor_count → get_or offsets d 0
    + advance (x.standing d) ≤ file_bytes
fits-there x offsets d e l = unfold fits_at in leb-true _ file_bytes (below_at _ 16 d e l)

pub loop-d-init : goal.loop-d-init
loop-d-init c = let long : length c.args.offsets ≡ 16 = search rules in (sym (filled_none _ c.args.offsets), long)

pub final_offset-requires : goal.final_offset-requires
final_offset-requires c =
    let standing-is : let a = c.args in c.descriptor_at-descriptor.result.standing ≡ (descriptors_in a.state.now a.t).standing c.loop-d.d = let a = c.args in
    ap (λ (q : Descriptor). q.standing) (c.descriptor_at-descriptor.ensures
    ∙ sym (descriptor-of a.state.now a.t c.loop-d.d (omega arith))) in
    let read = c in let start = read in
    let few : read.loop-d.d < descriptor_count = omega arith in
    let h = fits-there (descriptors_in start.args.state.now start.args.t) start.args.offsets read.loop-d.d
    start.requires.1 few in let z = ap advance standing-is in omega (arith, h, z)

pub loop-d-preserved : goal.loop-d-preserved
loop-d-preserved c =
    let standing-is : let a = c.args in c.descriptor_at-descriptor.result.standing ≡ (descriptors_in a.state.now a.t).standing c.loop-d.d = let a = c.args in
    ap (λ (q : Descriptor). q.standing) (c.descriptor_at-descriptor.ensures
    ∙ sym (descriptor-of a.state.now a.t c.loop-d.d (omega arith))) in
    let sets-is : let a = c.args in sets_offset (descriptors_in a.state.now a.t) c.loop-d.d ≡ c.sets_offset.result = unfold sets_offset in let a = c.args in
    sym (c.sets_offset.ensures ∙ ap (λ (q : Descriptor). q.dirty && is_touched q.standing)
    (c.descriptor_at-descriptor.ensures ∙ sym (descriptor-of a.state.now a.t c.loop-d.d (omega arith)))) in
    let read = c in let l = read.loop-d in let a = read.args in
    let x = descriptors_in a.state.now a.t in (
      elim c.if-sets_offset.branch [
        | then-sets_offset w ↦ w.after-is ∙ ap (λ (xs : List ℕ). set xs l.d w.final_offset.result) l.invariant.0 ∙ filled-set
            (offset-after x a.offsets) a.offsets l.d w.final_offset.result (omega arith) (set_so x a.offsets l.d w.final_offset.result
            (sets-is ∙ w.if-sets_offset.true) (w.final_offset.ensures ∙ ap (final_offset (get_or a.offsets l.d 0)) standing-is))
        | else-sets_offset w ↦ w.after-is ∙ l.invariant.0 ∙ filled-preserved (offset-after x a.offsets) a.offsets l.d 0 (omega arith)
            (left_so x a.offsets l.d (sets-is ∙ w.if-sets_offset.false))
      ],
      l.invariant.1,
    )

pub returns : goal.returns
unfolding offsets_after
returns c = let l = c.loop-d in let a = c.args in
    let f = offset-after (descriptors_in a.state.now a.t) a.offsets in let e : l.d ≡ 16 = omega arith in
    l.invariant.0 ∙ ap (filled f a.offsets) e ∙ filled-all f a.offsets 16 (omega (arith, l.invariant.1))
