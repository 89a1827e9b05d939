-- Laws of tests and sums by index. Assumes nothing.
use mathlib.Core.{Bool.{Bool, true, false, ◌&&◌, ◌||◌, and_assoc}, Path.{◌≡◌, refl, sym, ap, ◌∙◌}, Logic.⊎_elim}
use Prim.Native.Nat.{ℕ, zero, suc, ◌+◌, ◌<◌}
use native.Mathlib.{Nat.{eq-or-lt_of_le, le_of_suc-le-suc, not-suc-le-zero}, Numerals.{add-one, unary_clauses}, Omega.arith}
use Rattle.buffers.specs.Below.{below, some_below, sum}
use Rattle.buffers.proofs.PartLaws.{le-or-lt}

-- Tests joined by &&.
pub and_left : (a b : Bool) → a && b ≡ true → a ≡ true
and_left true b e = refl
and_left false b e = e

pub and_right : (a b : Bool) → a && b ≡ true → b ≡ true
and_right true b e = e
and_right false b e = cc

pub and_both : (a b : Bool) → a ≡ true → b ≡ true → a && b ≡ true
and_both true b e f = f
and_both false b e f = e

pub and-true : (a : Bool) → a && true ≡ a
and-true true = refl
and-true false = refl

-- A test of every number below a bound.
module _ (p : ℕ → Bool) where
  pub below-zero : below p 0 ≡ true
  below-zero = unfold below in refl

  below_suc : (i : ℕ) → below p i ≡ true → p i ≡ true → below p (suc i) ≡ true
  below_suc i e f = unfold below in and_both (below p i) (p i) e f

  pub below_more : (i : ℕ) → below p i ≡ true → p i ≡ true → below p (i + 1) ≡ true
  below_more i e f = rw add-one (below_suc i e f)

  pub below_at : (n k : ℕ) → below p n ≡ true → k < n → p k ≡ true
  unfolding below
  below_at zero k e l = absurd (not-suc-le-zero l)
  below_at (suc n) k e l = ⊎_elim (λ q. rw q (and_right (below p n) (p n) e))
      (λ m. below_at n k (and_left (below p n) (p n) e) m) (eq-or-lt_of_le (le_of_suc-le-suc l))

  pub below_all : (n : ℕ) → ((k : ℕ) → k < n → p k ≡ true) → below p n ≡ true
  below_all zero h = below-zero
  below_all (suc n) h = below_suc n (below_all n (λ k l. h k (omega arith))) (h n (omega arith))

  pub below_fails : (i n : ℕ) → i < n → p i ≡ false → below p n ≡ false
  below_fails i n l e = fails (below p n) (λ t. below_at n i t l)
    where
      fails : (b : Bool) → (b ≡ true → p i ≡ true) → b ≡ false
      fails true h = let t : p i ≡ true = h refl in cc
      fails false h = refl

pub below-same : (p q : ℕ → Bool) (n : ℕ) → ((k : ℕ) → k < n → p k ≡ q k) → below p n ≡ below q n
unfolding below
below-same p q zero h = refl
below-same p q (suc n) h = rw (below-same p q n (λ k l. h k (omega arith)), h n (omega arith))

-- In a loop without a branch: before it, and one number further.
pub one_more : (p : ℕ → Bool) (i : ℕ) (b q : Bool) → b ≡ below p i → q ≡ p i → b && q ≡ below p (i + 1)
one_more p i b q e f = unfold below in rw (e, f, add-one)

pub none_yet : (p : ℕ → Bool) → true ≡ below p 0
none_yet p = unfold below in refl

-- Two tests of every number below a bound, joined; and a test below a sum of two bounds.
pub below_both : (p q : ℕ → Bool) (n : ℕ) → below p n && below q n ≡ below (λ k. p k && q k) n
unfolding below
below_both p q zero = refl
below_both p q (suc n) = crossed (below p n) (p n) (below q n) (q n) ∙ ap (λ (b : Bool). b && (p n && q n)) (below_both p q n)
  where
    crossed : (a b c d : Bool) → (a && b) && (c && d) ≡ (a && c) && (b && d)
    crossed true true c d = refl
    crossed true false true d = refl
    crossed true false false d = refl
    crossed false b c d = refl

pub below-sum : (p : ℕ → Bool) (m n : ℕ) → below p (m + n) ≡ below p m && below (λ k. p (m + k)) n
unfolding below
below-sum p m zero = simp unary_clauses (sym (and-true (below p m)))
below-sum p m (suc n) = simp unary_clauses (ap (λ (b : Bool). b && p (m + n)) (below-sum p m n)
    ∙ and_assoc (below p m) (below (λ k. p (m + k)) n) (p (m + n)))

-- A test of some number below a bound.
module _ (p : ℕ → Bool) where
  pub some-none : some_below p 0 ≡ false
  some-none = unfold some_below in refl

  pub some_more : (i : ℕ) → some_below p i ≡ false → p i ≡ false → some_below p (i + 1) ≡ false
  some_more i e f = unfold some_below in rw (add-one, e, f)

  pub some-found : (n i : ℕ) → i < n → p i ≡ true → some_below p n ≡ true
  unfolding some_below
  some-found zero i l e = absurd (omega arith)
  some-found (suc n) i l e = ⊎_elim (λ h. rw (some-found n i h e))
      (λ h. let s : n ≡ i = omega arith in or_right (some_below p n) (p n) (ap p s ∙ e)) (le-or-lt (suc i) n)
    where
      or_right : (a b : Bool) → b ≡ true → (a || b) ≡ true
      or_right true b q = refl
      or_right false b q = q

-- A sum over every number below a bound.
pub sum-zero : (f : ℕ → ℕ) → sum f 0 ≡ 0
sum-zero f = unfold sum in refl

pub sum_more : (f : ℕ → ℕ) (n : ℕ) → sum f (n + 1) ≡ sum f n + f n
sum_more f n = unfold sum in rw add-one

pub sum_same : (f g : ℕ → ℕ) (n : ℕ) → ((k : ℕ) → k < n → f k ≡ g k) → sum f n ≡ sum g n
unfolding sum
sum_same f g zero h = refl
sum_same f g (suc n) h = rw (sum_same f g n (λ k l. h k (omega arith)), h n (omega arith))
