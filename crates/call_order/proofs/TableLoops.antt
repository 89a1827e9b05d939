-- A table filled one member of a list after the other.
use mathlib.Core.{Bool.{Bool, true, false}, List.List, Path.{◌≡◌, refl, sym, ap, ◌∙◌}}
use borrow.Author.Tests.{eqb-true, eqb-false}
use lib.{Dec.eqb, ListN.{length, get_or, set}, Seq.{get_or-set_same, get_or-set_other}}
use native.Mathlib.Omega.{arith}
use Prim.Native.Nat.{ℕ, ◌+◌, ◌<◌}

-- The first k members have theirs.
abbrev pub FilledFor : (ℕ → ℕ) → List ℕ → List ℕ → ℕ → Type 0
FilledFor f ts table k = (j : ℕ) → j < k → get_or table (get_or ts j 0) 0 ≡ f (get_or ts j 0)

pub filled-for-more : (f : ℕ → ℕ) (ts table : List ℕ) (k t v : ℕ) → t < length table → t ≡ get_or ts k 0 → v ≡ f t
    → FilledFor f ts table k → FilledFor f ts (set table t v) (k + 1)
filled-for-more f ts table k t v l e g h j i = pick (eqb (get_or ts j 0) t) refl
  where
    before : (get_or ts j 0 ≡ t → ⊥) → (j ≡ k → ⊥)
    before n q = n (ap (λ (x : ℕ). get_or ts x 0) q ∙ sym e)

    pick : (b : Bool) → eqb (get_or ts j 0) t ≡ b → get_or (set table t v) (get_or ts j 0) 0 ≡ f (get_or ts j 0)
    pick true q = let s = eqb-true (get_or ts j 0) t q in
        ap (λ (u : ℕ). get_or (set table t v) u 0) s ∙ get_or-set_same table t v 0 l ∙ g ∙ ap f (sym s)
    pick false q = let n = eqb-false (get_or ts j 0) t q in let m = before n in
        get_or-set_other table t (get_or ts j 0) v 0 n ∙ h j (omega arith)
