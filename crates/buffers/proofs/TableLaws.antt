-- The laws of a list that is made by index. Assumes nothing.
use mathlib.Core.{Bool.{Bool, true, false}, List.{List, [], ◌∷◌, ◌++◌}, Logic.⊎_elim, Path.{◌≡◌, refl, sym, ap, ap₂, ◌∙◌}}
use borrow.Author.Tests.{eqb-true, eqb-false}
use lib.{Dec.eqb, ListN.{length, get_or, set, length-set, length-append, get_or-append}}
use lib.Seq.{get_or_at, ext_get_or, get_or-set_same, get_or-set_other}
use native.Mathlib.{Nat.{eq-or-lt_of_le, le_of_suc-le-suc, not-suc-le-zero}, Omega.arith}
use Prim.Native.Nat.{ℕ, zero, suc, ◌<◌}
use Rattle.buffers.specs.Parts.{tabulate}

module _ {A : Type 0} where
  pub length-tabulate : (f : ℕ → A) (n : ℕ) → length (tabulate f n) ≡ n
  unfolding tabulate
  length-tabulate f zero = refl
  length-tabulate f (suc n) = let e = length-tabulate f n in simp length-append (omega arith)

  pub get_d_tabulate : (f : ℕ → A) (n k : ℕ) (z : A) → k < n → get_or (tabulate f n) k z ≡ f k
  unfolding tabulate
  get_d_tabulate f zero k z h = absurd (not-suc-le-zero h)
  get_d_tabulate f (suc n) k z h = ⊎_elim (λ e. ap (λ (i : ℕ). get_or (tabulate f n ++ (f n ∷ [])) i z) e
      ∙ get_or_at (tabulate f n) (f n) [] z n (length-tabulate f n) ∙ ap f (sym e)) (λ l. get_or-append (tabulate f n)
      (f n ∷ []) z k (rw length-tabulate l) ∙ get_d_tabulate f n k z l) (eq-or-lt_of_le (le_of_suc-le-suc h))

  pub table_same : (f g : ℕ → A) (n : ℕ) → ((k : ℕ) → k < n → f k ≡ g k) → tabulate f n ≡ tabulate g n
  unfolding tabulate
  table_same f g zero h = refl
  table_same f g (suc n) h =
      ap₂ (λ (l : List A) (a : A). l ++ (a ∷ [])) (table_same f g n (λ k l. h k (omega arith))) (h n (omega arith))

  -- A table that differs from another at one number.
  pub table-set : (f g : ℕ → A) (n d : ℕ) (a : A) → d < n → g d ≡ a → ((k : ℕ) → k < n → (k ≡ d → ⊥) → g k ≡ f k)
      → tabulate g n ≡ set (tabulate f n) d a
  table-set f g n d a h here other = ext_get_or a (tabulate g n) (set (tabulate f n) d a) (length-tabulate g n
      ∙ sym (length-set (tabulate f n) d a ∙ length-tabulate f n))
      (λ k l. let m : k < n = rw length-tabulate at l in get_d_tabulate g n k a m ∙ pick k m (eqb k d) refl)
    where
      pick : (k : ℕ) → k < n → (b : Bool) → eqb k d ≡ b → g k ≡ get_or (set (tabulate f n) d a) k a
      pick k m true e = let q = eqb-true k d e in
          ap g q ∙ here ∙ sym (ap (λ (i : ℕ). get_or (set (tabulate f n) d a) i a) q
          ∙ get_or-set_same (tabulate f n) d a a (rw length-tabulate h))
      pick k m false e = let q = eqb-false k d e in
          other k m q ∙ sym (get_or-set_other (tabulate f n) d k a a q ∙ get_d_tabulate f n k a m)
