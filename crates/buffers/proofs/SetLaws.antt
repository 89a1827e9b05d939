-- The laws of sets of numbers as bits. Assumes nothing.
use mathlib.Core.{Bool.{Bool, true, false, cond, ◌||◌, false≢true}, Logic.⊎_elim, Path.{◌≡◌, refl, sym, ap, ap₂, ◌∙◌}}
use lib.{Bits.{bit_or, bit_and, or_shifted_r, and_shr, and_step}, Count.{ones, ones_cat}, Dec.eqb, Pow.{pow-lt, pow_mono}}
use native.Mathlib.Nat.{one-mul, eq-or-lt_of_le, le_of_suc-le-suc, not-suc-le-zero, add_comm, pow-suc, mul-add-mod_self_right}
use native.Mathlib.{Nat.mod-eq_of_lt, Omega.arith}
use borrow.Author.Tests.{eqb-true, eqb-false, eq-eqb, ne_eqb}
use Prim.Native.Nat.{ℕ, zero, suc, ◌+◌, ◌-◌, ◌^◌, ◌/◌, ◌%◌, ◌≤◌, ◌<◌, min, max}
use Rattle.buffers.specs.{Below.below, Bits.{bit, with_bit, without_bit, with_bit_as, bits_of, count_of}, Marks.contains}
use Rattle.buffers.proofs.{BelowLaws.below_at, BitLaws.{bit-lt, bit-above, bits-equal, bit-or, bit-with}}
use Rattle.buffers.proofs.PartLaws.{le-or-lt}

module _ (p : ℕ → Bool) where
  pub bits-lt : (n : ℕ) → bits_of p n < 2 ^ n
  unfolding bits_of
  bits-lt zero = omega arith
  bits-lt (suc n) = pick (p n) (bits-lt n)
    where
      pick : (b : Bool) → bits_of p n < 2 ^ n → bits_of p n + cond b (2 ^ n) 0 < 2 ^ suc n
      pick true h = let g : 2 ^ n < 2 ^ suc n = pow-lt (omega arith) in omega (arith, pow-suc 2 n)
      pick false h = let g : 2 ^ n < 2 ^ suc n = pow-lt (omega arith) in omega arith

  -- a number more, in the set or not
  bits-with : (n : ℕ) → p n ≡ true → with_bit n (bits_of p n) ≡ bits_of p (suc n)
  unfolding bits_of with_bit
  bits-with n e = ap (bit_or (bits_of p n)) (sym (one-mul (2 ^ n))) ∙ or_shifted_r 1 n (bits_of p n) (bits-lt n)
      ∙ ap (λ (w : ℕ). w + bits_of p n) (one-mul (2 ^ n)) ∙ add_comm (2 ^ n) (bits_of p n)
      ∙ ap (λ (b : Bool). bits_of p n + cond b (2 ^ n) 0) (sym e)

  bits-without : (n : ℕ) → p n ≡ false → bits_of p n ≡ bits_of p (suc n)
  unfolding bits_of
  bits-without n e = let f : cond (p n) (2 ^ n) 0 ≡ 0 = ap (λ (b : Bool). cond b (2 ^ n) 0) e in omega arith

  -- a set that a loop gathers
  pub gathered : (set n : ℕ) → set ≡ bits_of p n → p n ≡ true → with_bit n set ≡ bits_of p (n + 1)
  gathered set n e h = ap (with_bit n) e ∙ bits-with n h ∙ ap (bits_of p) (omega arith)

  pub passed-by : (set n : ℕ) → set ≡ bits_of p n → p n ≡ false → set ≡ bits_of p (n + 1)
  passed-by set n e h = e ∙ bits-without n h ∙ ap (bits_of p) (omega arith)

  -- what is in it
  pub contains-bits : (n u : ℕ) → u < n → contains (bits_of p n) u ≡ p u
  unfolding contains
  contains-bits zero u l = absurd (not-suc-le-zero l)
  contains-bits (suc n) u l = ⊎_elim own (λ h. other h (contains-bits n u h)) (eq-or-lt_of_le (le_of_suc-le-suc l))
    where
      own : u ≡ n → contains (bits_of p (suc n)) u ≡ p u
      own e = ap (contains (bits_of p (suc n))) e ∙ last (p n) refl ∙ ap p (sym e)
        where
          last : (b : Bool) → p n ≡ b → contains (bits_of p (suc n)) n ≡ b
          last true e = ap (λ (k : ℕ). eqb (bit n k) 1) (sym (bits-with n e)) ∙ rw (bit-with n n (bits_of p n), eq-eqb n n refl)
          last false e = ap (λ (k : ℕ). eqb (bit n k) 1) (sym (bits-without n e)) ∙ rw (bit-above n (bits_of p n) (bits-lt n))

      other : u < n → contains (bits_of p n) u ≡ p u → contains (bits_of p (suc n)) u ≡ p u
      other h c = step (p n) refl
        where
          step : (b : Bool) → p n ≡ b → contains (bits_of p (suc n)) u ≡ p u
          step true e = ap (λ (k : ℕ). eqb (bit u k) 1) (sym (bits-with n e))
              ∙ rw (bit-with u n (bits_of p n), ne_eqb u n (omega arith)) c
          step false e = ap (λ (k : ℕ). eqb (bit u k) 1) (sym (bits-without n e)) ∙ c

  -- how many are in it
  pub ones-bits : (n : ℕ) → ones (bits_of p n) ≡ count_of p n
  unfolding bits_of count_of ones
  ones-bits zero = refl
  ones-bits (suc n) = pick (p n) (ones-bits n)
    where
      pick : (b : Bool) → ones (bits_of p n) ≡ count_of p n → ones (bits_of p n + cond b (2 ^ n) 0) ≡ count_of p n + cond b 1 0
      pick true e = ap ones (add_comm (bits_of p n) (2 ^ n) ∙ ap (λ (w : ℕ). w + bits_of p n) (sym (one-mul (2 ^ n))))
          ∙ ones_cat n 1 (bits_of p n) (bits-lt n) ∙ ap (λ (k : ℕ). 1 + k) e ∙ add_comm 1 (count_of p n)
      pick false e = let z : bits_of p n + 0 ≡ bits_of p n = omega arith in ap ones z ∙ e ∙ omega arith

pub bits-same : (p q : ℕ → Bool) (n : ℕ) → ((u : ℕ) → u < n → p u ≡ q u) → bits_of p n ≡ bits_of q n
unfolding bits_of
bits-same p q zero h = refl
bits-same p q (suc n) h = ap₂ (λ (k : ℕ) (b : Bool). k + cond b (2 ^ n) 0) (bits-same p q n (λ u l. h u (omega arith)))
    (h n (omega arith))

pub bits_none : (p : ℕ → Bool) (n : ℕ) → ((u : ℕ) → p u ≡ false) → bits_of p n ≡ 0
unfolding bits_of
bits_none p zero h = refl
bits_none p (suc n) h = sym (bits-without p n (h n)) ∙ bits_none p n h

-- two octets that contain the same are one
pub octets-same : (x y : ℕ) → x < 256 → y < 256 → ((u : ℕ) → u < 8 → contains x u ≡ contains y u) → x ≡ y
unfolding contains
octets-same x y h g same = bits-equal x y (λ u. ⊎_elim (high u)
    (λ l. same_bit (bit u x) (bit u y) (bit-lt u x) (bit-lt u y) (same u l)) (le-or-lt 8 u))
  where
    high : (u : ℕ) → 8 ≤ u → bit u x ≡ bit u y
    high u l = let wide : 2 ^ 8 ≤ 2 ^ u = pow_mono l in bit-above u x (omega arith) ∙ sym (bit-above u y (omega arith))

    same_bit : (a b : ℕ) → a < 2 → b < 2 → eqb a 1 ≡ eqb b 1 → a ≡ b
    same_bit a b h g e = pick (eqb a 1) refl (eqb b 1) refl e
      where
        pick : (p : Bool) → eqb a 1 ≡ p → (q : Bool) → eqb b 1 ≡ q → p ≡ q → a ≡ b
        pick true p true q e = eqb-true a 1 p ∙ sym (eqb-true b 1 q)
        pick true p false q e = absurd (false≢true (sym e))
        pick false p true q e = absurd (false≢true e)
        pick false p false q e = let l = eqb-false a 1 p in let m = eqb-false b 1 q in omega arith

-- what is in one set or the other
pub contains-or : (a b u : ℕ) → contains (bit_or a b) u ≡ contains a u || contains b u
unfolding contains
contains-or a b u = ap (λ (k : ℕ). eqb k 1) (bit-or u a b) ∙ either (bit u a) (bit u b) (bit-lt u a) (bit-lt u b)
  where
    either : (x y : ℕ) → x < 2 → y < 2 → eqb (max x y) 1 ≡ eqb x 1 || eqb y 1
    either zero zero h g = refl
    either zero (suc zero) h g = refl
    either (suc zero) zero h g = refl
    either (suc zero) (suc zero) h g = refl
    either (suc (suc x)) y h g = absurd (omega arith)
    either zero (suc (suc y)) h g = absurd (omega arith)
    either (suc zero) (suc (suc y)) h g = absurd (omega arith)

-- what is in it with a number more
pub contains-with : (t x u : ℕ) → contains (with_bit t x) u ≡ cond (eqb u t) true (contains x u)
unfolding contains
contains-with t x u = ap (λ (b : ℕ). eqb b 1) (bit-with u t x) ∙ pick (eqb u t)
  where
    pick : (b : Bool) → eqb (cond b 1 (bit u x)) 1 ≡ cond b true (eqb (bit u x) 1)
    pick true = refl
    pick false = refl

-- ---- a set of numbers below 16 without one of them

-- every bit of both
bit-and : (u a b : ℕ) → bit u (bit_and a b) ≡ min (bit u a) (bit u b)
bit-and u a b = unfold bit in let x = a / 2 ^ u in let y = b / 2 ^ u in let small : min (x % 2) (y % 2) < 2 = omega arith in
    ap (λ (k : ℕ). k % 2) (and_shr a b u ∙ and_step x y)
    ∙ mul-add-mod_self_right (bit_and (x / 2) (y / 2)) 2 (min (x % 2) (y % 2)) ∙ mod-eq_of_lt small

-- the mask that clears bit t of sixteen has every other bit
right : ℕ → ℕ → Bool
right t u = eqb (bit u (65535 - 2 ^ t)) (cond (eqb u t) 0 1)

table : below (λ (t : ℕ). below (right t) 16) 16 ≡ true
table = unfold bit below right in refl

masked : (t u : ℕ) → t < 16 → u < 16 → bit u (65535 - 2 ^ t) ≡ cond (eqb u t) 0 1
unfolding right
masked t u ht hu = eqb-true (bit u (65535 - 2 ^ t)) (cond (eqb u t) 0 1)
    (below_at (right t) 16 u (below_at (λ (t : ℕ). below (right t) 16) 16 t table ht) hu)

contains-without : (t x u : ℕ) → t < 16 → u < 16 → contains (without_bit t x) u ≡ cond (eqb u t) false (contains x u)
unfolding contains without_bit
contains-without t x u h g = ap (λ (b : ℕ). eqb b 1) (bit-and u x (65535 - 2 ^ t) ∙ ap (min (bit u x)) (masked t u h g))
    ∙ pick (eqb u t) (bit u x) (bit-lt u x)
  where
    pick : (b : Bool) (y : ℕ) → y < 2 → eqb (min y (cond b 0 1)) 1 ≡ cond b false (eqb y 1)
    pick true zero l = refl
    pick true (suc zero) l = refl
    pick true (suc (suc y)) l = absurd (omega arith)
    pick false zero l = refl
    pick false (suc zero) l = refl
    pick false (suc (suc y)) l = absurd (omega arith)

-- what is in it with a number put in or taken out
pub contains-put : (t : ℕ) (b : Bool) (x u : ℕ) → t < 16 → u < 16 → contains (with_bit_as t b x) u ≡ cond (eqb u t) b (contains x u)
unfolding with_bit_as
contains-put t true x u h g = contains-with t x u
contains-put t false x u h g = contains-without t x u h g
