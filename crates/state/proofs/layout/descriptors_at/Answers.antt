-- `state::layout::descriptors_at` meets its contract.
use Rattle.limits.specs.Limits.{descriptor_count}
use Rattle.state.specs.{Layout.{transaction_of}, declared.Descriptor.Descriptor, StoreMeaning.no_descriptor}
use mathlib.Core.{List.List, Path.{refl, sym, ap, ◌∙◌, ◌≡◌}}
use lib.ListN.{set, replicate, length, get_or-replicate}
use Rattle.buffers.specs.Parts.{tabulate}
use Rattle.state.proofs.Filled.{filled, filled_none, filled-all, filled-set, filled-preserved}
use Prim.Native.Nat.{ℕ, ◌+◌, ◌<◌}
use native.Mathlib.Omega.{arith}
use Rattle.state.proofs.layout.descriptors_at.Goals as goal
use Rattle.state.proofs.layout.descriptors_at.Goals.{else-not-is_blank_at, then-not-is_blank_at}

sixteen : (f : ℕ → Descriptor) (xs all : List Descriptor) → length xs ≡ 16 → all ≡ filled f xs 16 → all ≡ tabulate f 16
sixteen f xs all n e = e ∙ filled-all f xs 16 (omega arith)

-- A blank descriptor stands there already.
blank_stands : (f : ℕ → Descriptor) (d : ℕ) (all : List Descriptor) → d < descriptor_count → f d ≡ no_descriptor
    → all ≡ filled f (replicate 16 no_descriptor) d → all ≡ filled f (replicate 16 no_descriptor) (d + 1)
blank_stands f d all l e so = so ∙ filled-preserved f (replicate 16 no_descriptor) d no_descriptor (omega arith) (e
    ∙ sym (get_or-replicate 16 d no_descriptor no_descriptor l))

pub loop-d-init : goal.loop-d-init
loop-d-init c = sym (filled_none _ _)

pub loop-d-preserved : goal.loop-d-preserved
loop-d-preserved c = let l = c.loop-d in elim c.if-not-is_blank_at.branch [
  | then-not-is_blank_at w ↦ w.all-is ∙ ap (λ (xs : List Descriptor). set xs l.d w.descriptor_at.result) l.invariant
      ∙ filled-set _ _ l.d w.descriptor_at.result (omega arith) w.descriptor_at.ensures
  | else-not-is_blank_at w ↦ w.all-is ∙ blank_stands _ l.d _
      (omega arith) (c.is_blank_at.ensures w.if-not-is_blank_at.false) l.invariant
]

pub returns : goal.returns
unfolding transaction_of
returns c = let e : c.loop-d.d ≡ 16 = omega arith in
    sixteen _ (replicate 16 no_descriptor) _ refl (rw e at c.loop-d.invariant)
