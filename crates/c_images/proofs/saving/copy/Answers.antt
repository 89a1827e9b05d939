-- `saving::copy` meets its contract.
use mathlib.Core.{List.{List, ◌++◌, append-nil}, Path.{◌≡◌, ap, ◌∙◌}}
use lib.ListN.{length, drop_of_length-le}
use native.Mathlib.Omega.{arith}
use Prim.Native.Nat.{ℕ, ◌+◌}
use Rattle.buffers.specs.Parts.{pasted}
use Rattle.c_images.proofs.saving.copy.Goals as goal

over-all : (d s : List ℕ) → length d ≡ length s → pasted d 0 s ≡ s
unfolding pasted
over-all d s e = ap (λ (t : List ℕ). s ++ t) (drop_of_length-le d {i = 0 + length s} (omega arith)) ∙ append-nil s

pub returns : goal.returns
returns c = c.copy_to.ensures ∙ over-all _ _ (omega arith)
