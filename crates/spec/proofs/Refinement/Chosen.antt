-- Descriptors that a step settles are ones that the store has.
use mathlib.Core.{Bool.{Bool, true, false, cond}, List.{List, [], ◌∷◌, ◌++◌}}
use native.Mathlib.Omega.{arith}
use Prim.Native.Nat.{ℕ, zero, suc, ◌≤◌, ◌<◌}
use Rattle.limits.specs.Limits.{descriptor_count}
use Rattle.spec.specs.Transactions.{those}

-- Descriptors that the store has.
abbrev pub DescriptorsIn : List ℕ → Type 0
DescriptorsIn [] = Unit {0}
DescriptorsIn (d ∷ ds) = (d < descriptor_count) × DescriptorsIn ds

descriptors-append : (ds es : List ℕ) → DescriptorsIn ds → DescriptorsIn es → DescriptorsIn (ds ++ es)
descriptors-append [] es h g = g
descriptors-append (d ∷ ds) es h g = (h.0, descriptors-append ds es h.1 g)

pub one_in : (b : Bool) (d : ℕ) → d < descriptor_count → DescriptorsIn (cond b (d ∷ []) [])
one_in true d h = (h, tt)
one_in false d h = tt

pub those-in : (p : ℕ → Bool) (n : ℕ) → n ≤ 16 → DescriptorsIn (those p n)
unfolding those
those-in p zero h = tt
those-in p (suc n) h = descriptors-append (those p n) (cond (p n) (n ∷ []) []) (those-in p n (omega arith)) (one_in (p n) n h)
