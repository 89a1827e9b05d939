-- `call_order::permutation::numbers_of` meets its contract.
use mathlib.Core.{List.List, Path.{◌≡◌, refl, ap, ◌∙◌}}
use lib.{ListN.{length, take, drop}, Seq.{take_at, drop_at}}
use native.Mathlib.Omega.{arith}
use Prim.Native.Nat.{ℕ, ◌+◌}
use Rattle.buffers.specs.Parts.{pasted}
use Rattle.call_order.proofs.ArrangeLaws.{drop-zeros}
use Rattle.call_order.proofs.permutation.numbers_of.Goals as goal

-- Pasted at the front: first what is pasted, then what lay there.
module _ (d s : List ℕ) where
  front : take (length s) (pasted d 0 s) ≡ s
  front = unfold pasted in take_at s (drop (0 + length s) d) (length s) refl

  behind : drop (length s) (pasted d 0 s) ≡ drop (length s) d
  behind = unfold pasted in let e : 0 + length s ≡ length s = omega arith in
      drop_at s (drop (0 + length s) d) (length s) refl ∙ ap (λ (k : ℕ). drop k d) e

pub returns : goal.returns
returns c = let n = length c.args.list.numbers.now in (
  ap (take n) c.copy_to.ensures ∙ front _ _,
  ap (drop n) c.copy_to.ensures ∙ behind _ _ ∙ drop-zeros n 8,
)
