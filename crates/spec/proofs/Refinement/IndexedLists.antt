-- Laws of lists that are made by index, and of sums over an index.
use mathlib.Core.{Bool.{Bool, true, false}, List.{List, [], ◌∷◌, ◌++◌, map, map-append}, Logic.{◌⊎◌, inl, inr, ⊎_elim}}
use mathlib.Core.Path.{◌≡◌, refl, ap, ◌∙◌}
use borrow.Author.Tests.{eqb-true, eqb-false}
use lib.{Dec.eqb, ListN.{length, get_or, set}, Seq.ext_get_or}
use native.Mathlib.{Nat.{eq-or-lt_of_le, le_of_suc-le-suc, not-suc-le-zero}, Omega.arith}
use Prim.Native.Nat.{ℕ, zero, suc, ◌+◌, ◌≤◌, ◌<◌}
use Rattle.buffers.{specs.Parts.tabulate, proofs.TableLaws.{length-tabulate, get_d_tabulate, table_same, table-set}}
use Rattle.admission.specs.FirstRefusal.{sum}

-- Two numbers are the same or not.
pub same_or_not : (a b : ℕ) → (a ≡ b) ⊎ (a ≡ b → ⊥)
same_or_not a b = pick (eqb a b) refl
  where
    pick : (t : Bool) → eqb a b ≡ t → (a ≡ b) ⊎ (a ≡ b → ⊥)
    pick true e = inl (eqb-true a b e)
    pick false e = inr (eqb-false a b e)

module _ {A : Type 0} where
  pub tabulate-same : (f g : ℕ → A) (n : ℕ) → ((k : ℕ) → k < n → f k ≡ g k) → tabulate f n ≡ tabulate g n
  tabulate-same = table_same

  -- Every list is the table of its elements.
  pub tabulate-get_d : (l : List A) (z : A) → tabulate (λ k. get_or l k z) (length l) ≡ l
  tabulate-get_d l z = ext_get_or z (tabulate (λ k. get_or l k z) (length l)) l (length-tabulate (λ k. get_or l k z) (length l))
      (λ k h. get_d_tabulate (λ i. get_or l i z) (length l) k z (rw length-tabulate at h))

  -- A table that differs from another at one number.
  pub tabulate-set : (f g : ℕ → A) (n d : ℕ) (a : A) → d < n → g d ≡ a → ((k : ℕ) → (k ≡ d → ⊥) → g k ≡ f k)
      → tabulate g n ≡ set (tabulate f n) d a
  tabulate-set f g n d a h here other = table-set f g n d a h here (λ k _ q. other k q)

  -- What holds of every element of a list and of one more holds of every element of the longer list.
  pub every-snoc : (P : A → Type 0) (l : List A) (a z : A) → ((k : ℕ) → k < length l → P (get_or l k z)) → P a
      → (k : ℕ) → k < length (l ++ (a ∷ [])) → P (get_or (l ++ (a ∷ [])) k z)
  every-snoc P [] a z h last zero g = last
  every-snoc P [] a z h last (suc k) g = absurd (not-suc-le-zero (le_of_suc-le-suc g))
  every-snoc P (b ∷ l) a z h last zero g = h 0 (omega arith)
  every-snoc P (b ∷ l) a z h last (suc k) g =
      every-snoc P l a z (λ i f. h (suc i) (omega arith)) last k (le_of_suc-le-suc g)

pub get_d_map : {A B : Type 0} (f : A → B) (l : List A) (z : A) (y : B) (k : ℕ) → k < length l → get_or (map f l) k y
    ≡ f (get_or l k z)
get_d_map f [] z y k h = absurd (not-suc-le-zero h)
get_d_map f (a ∷ l) z y zero h = refl
get_d_map f (a ∷ l) z y (suc k) h = get_d_map f l z y k (le_of_suc-le-suc h)

pub map-tabulate : {A B : Type 0} (g : A → B) (f : ℕ → A) (n : ℕ) → map g (tabulate f n) ≡ tabulate (λ k. g (f k)) n
unfolding tabulate
map-tabulate g f zero = refl
map-tabulate g f (suc n) = map-append g (tabulate f n) (f n ∷ []) ∙ ap (λ (l : List _). l ++ (g (f n) ∷ [])) (map-tabulate g f n)

module _ (f : ℕ → ℕ) where
  -- A sum, taken from its first number on.
  pub sum_first : (n : ℕ) → sum f (suc n) ≡ f 0 + sum (λ k. f (suc k)) n
  unfolding sum
  sum_first zero = omega arith
  sum_first (suc n) = let e = sum_first n in omega arith

  pub sum-le : (m n : ℕ) → m ≤ n → sum f m ≤ sum f n
  unfolding sum
  sum-le m zero h = let e : m ≡ 0 = omega arith in rw e (omega arith)
  sum-le m (suc n) h = ⊎_elim (λ e. rw e (omega arith)) (λ l. let i = sum-le m n (le_of_suc-le-suc l) in omega arith)
      (eq-or-lt_of_le h)
