-- The laws of bits, and of a range of octets that is cleared. Assumes nothing.
use mathlib.Core.{Path.{◌≡◌, refl, sym, ap, ap₂, ◌∙◌}, Bool.{Bool, true, false, cond, not, ◌||◌, or-true, or-false}, List.{List, []}}
use mathlib.Core.Logic.{◌⊎◌, inl, inr, ⊎_elim}
use Prim.Native.Nat.{ℕ, zero, suc, ◌+◌, ◌-◌, ◌*◌, ◌^◌, ◌/◌, ◌%◌, ◌≤◌, ◌<◌, max}
use native.Mathlib.Nat.{zero-mul, one-mul, suc-mul, add-zero, add-suc, add_comm, max-zero, div-one, div_self, div-eq_of_lt}
use native.Mathlib.Nat.{zero-div, mod-lt, mod-eq_of_lt, mul-mod_left, mul-add-mod_self_right, div-div-eq-div-mul, pow-suc}
use native.Mathlib.{Nat.mul_comm, Omega.arith}
use lib.{Dec.eqb, ListN.{length, replicate, get_or, set, length-set, get_or-eq_default}}
use lib.Bits.{bit_and, bit_or, or_shr, or_step, or_zero_r, or_lt, or_add_and, or_shifted_r, and_zero_r, and_le_l, and_le_r}
use lib.{Bits.{and_mask, and_high}, Seq.{get_or-set_same, get_or-set_other, set_out}}
use lib.Pow.{pow_pos, pow-lt, pow_mono, pow-add, shl-shr, shr-shr, shl_exact, mod-pow-add}
use borrow.Author.Tests.{eqb-true, eqb-false, eq-eqb, ne_eqb}
use lib.Seq.{paste}
use Rattle.std.proofs.lemmas.List.Edits.{paste_none, fill_from_more}
use Rattle.buffers.specs.Bits.{bit, with_bit, span, cleared}
use Rattle.buffers.proofs.PartLaws.{le-or-lt}

-- ---- one bit

pub bit-lt : (u x : ℕ) → bit u x < 2
bit-lt u x = unfold bit in mod-lt (x / 2 ^ u) (omega arith)

pub bit-zero : (u : ℕ) → bit u 0 ≡ 0
bit-zero u = unfold bit in ap (λ (k : ℕ). k % 2) (zero-div (2 ^ u))

-- a number has no bit at or above its width
pub bit-above : (u x : ℕ) → x < 2 ^ u → bit u x ≡ 0
bit-above u x h = unfold bit in ap (λ (k : ℕ). k % 2) (div-eq_of_lt h)

bit-first : (x : ℕ) → bit 0 x ≡ x % 2
bit-first x = unfold bit in ap (λ (k : ℕ). k % 2) (div-one x)

bit-next : (u x : ℕ) → bit (suc u) x ≡ bit u (x / 2)
unfolding bit
bit-next u x =
    ap (λ (k : ℕ). x / k % 2) (pow-suc 2 u ∙ mul_comm (2 ^ u) 2) ∙ ap (λ (k : ℕ). k % 2) (sym (div-div-eq-div-mul x 2 (2 ^ u)))

-- two numbers with the same bits are equal
pub bits-equal : (x y : ℕ) → ((u : ℕ) → bit u x ≡ bit u y) → x ≡ y
bits-equal x y same = upto (x + y) x y (omega arith) (omega arith) same
  where
    upto : (n x y : ℕ) → x ≤ n → y ≤ n → ((u : ℕ) → bit u x ≡ bit u y) → x ≡ y
    upto zero x y h g same = omega arith
    upto (suc n) x y h g same = let low : x % 2 ≡ y % 2 = sym (bit-first x) ∙ same 0 ∙ bit-first y in
        let high : x / 2 ≡ y / 2 = upto n (x / 2) (y / 2) (omega arith) (omega arith) (λ u. sym (bit-next u x)
        ∙ same (suc u) ∙ bit-next u y) in omega arith

pub bit-or : (u a b : ℕ) → bit u (bit_or a b) ≡ max (bit u a) (bit u b)
bit-or u a b = unfold bit in let x = a / 2 ^ u in let y = b / 2 ^ u in let small : max (x % 2) (y % 2) < 2 = omega arith in
    ap (λ (k : ℕ). k % 2) (or_shr a b u ∙ or_step x y)
    ∙ mul-add-mod_self_right (bit_or (x / 2) (y / 2)) 2 (max (x % 2) (y % 2)) ∙ mod-eq_of_lt small

-- ---- a bit set

-- the bits of a power
bit-own : (t : ℕ) → bit t (2 ^ t) ≡ 1
bit-own t = unfold bit in ap (λ (k : ℕ). k % 2) (div_self (pow_pos t))

bit-other : (u t : ℕ) → (u ≡ t → ⊥) → bit u (2 ^ t) ≡ 0
unfolding bit
bit-other u t other = ⊎_elim (λ h. bit-above u (2 ^ t) (pow-lt (omega arith))) lower (le-or-lt t u)
  where
    lower : u < t → 2 ^ t / 2 ^ u % 2 ≡ 0
    lower h = let k = t - u - 1 in let e : t ≡ suc k + u = omega arith in
        ap (λ (j : ℕ). 2 ^ j / 2 ^ u % 2) e ∙ ap (λ (j : ℕ). j / 2 ^ u % 2) (pow-add 2 (suc k) u)
        ∙ ap (λ (j : ℕ). j % 2) (shl-shr (2 ^ suc k) u ∙ pow-suc 2 k) ∙ mul-mod_left (2 ^ k) 2

-- as the code shifts, in a number of w bits
pub shift_one : (w t : ℕ) → t < w → 1 * 2 ^ t % 2 ^ w ≡ 2 ^ t
shift_one w t h = shl_exact 1 t w (omega arith) (omega arith) ∙ one-mul (2 ^ t)

-- every bit of an octet with bit t set
pub bit-with : (u t x : ℕ) → bit u (with_bit t x) ≡ cond (eqb u t) 1 (bit u x)
unfolding with_bit
bit-with u t x = pick (eqb u t) refl
  where
    pick : (b : Bool) → eqb u t ≡ b → bit u (bit_or x (2 ^ t)) ≡ cond b 1 (bit u x)
    pick true e = let h = bit-lt t x in rw (bit-or, eqb-true u t e, bit-own) (omega arith)
    pick false e = rw (bit-or, bit-other u t (eqb-false u t e), max-zero)

-- it stays an octet
pub with-lt : (t x : ℕ) → t < 8 → x < 256 → with_bit t x < 256
with-lt t x ht hx = unfold with_bit in or_lt 8 x (2 ^ t) hx (pow-lt ht)

-- ---- the bits of a span

or_assoc : (a b c : ℕ) → bit_or (bit_or a b) c ≡ bit_or a (bit_or b c)
or_assoc a b c = bits-equal (bit_or (bit_or a b) c) (bit_or a (bit_or b c)) (λ u. simp bit-or (omega arith))

span_none : (low : ℕ) → span low 0 ≡ 0
span_none low = unfold span in simp add-zero (omega arith)

span_more : (low n : ℕ) → with_bit (low + n) (span low n) ≡ span low (suc n)
span_more low n = unfold span with_bit in let h : 2 ^ low ≤ 2 ^ (low + n) = pow_mono (omega arith) in let p = pow_pos low in
    let e : 2 ^ (low + suc n) ≡ 2 ^ (low + n) * 2 = ap (λ (k : ℕ). 2 ^ k) (add-suc low n) ∙ pow-suc 2 (low + n) in
    ap (bit_or (span low n)) (sym (one-mul (2 ^ (low + n)))) ∙ or_shifted_r 1 (low + n) (span low n) (omega arith)
    ∙ omega arith

-- one bit more of it set
pub with-span : (low n x : ℕ) → with_bit (low + n) (bit_or x (span low n)) ≡ bit_or x (span low (suc n))
with-span low n x = unfold with_bit in or_assoc x (span low n) (2 ^ (low + n)) ∙ ap (bit_or x) (span_more low n)

pub with-span-none : (low x : ℕ) → bit_or x (span low 0) ≡ x
with-span-none low x = ap (bit_or x) (span_none low) ∙ or_zero_r x

-- a whole octet of it
pub with-octet : (x : ℕ) → x < 256 → bit_or x (span 0 8) ≡ span 0 8
with-octet x h = unfold span in let e : bit_and x 255 ≡ x = and_mask x 8 ∙ mod-eq_of_lt h in omega (arith, or_add_and x 255)

-- what a number has in a span
in_span : (low n x : ℕ) → bit_and x (span low n) ≡ x / 2 ^ low % 2 ^ n * 2 ^ low
in_span low n x = unfold span in ap (λ (k : ℕ). bit_and x (2 ^ k - 2 ^ low)) (add_comm low n) ∙ and_high x n low

some-scaled : (a p : ℕ) → 0 < p → eqb (a * p) 0 ≡ eqb a 0
some-scaled zero p h = ap (λ (k : ℕ). eqb k 0) (zero-mul p)
some-scaled (suc a) p h = ne_eqb (suc a * p) 0 (λ e. omega (arith, suc-mul a p)) ∙ sym (ne_eqb (suc a) 0 (λ e. omega arith))

pub some-bit-none : (low x : ℕ) → not (eqb (bit_and x (span low 0)) 0) ≡ false
some-bit-none low x = ap (λ (k : ℕ). not (eqb (bit_and x k) 0)) (span_none low) ∙ ap (λ (k : ℕ). not (eqb k 0)) (and_zero_r x)

pub some-bit-more : (low n x : ℕ) → not (eqb (bit_and x (span low (suc n))) 0) ≡ not (eqb (bit_and x (span low n)) 0)
    || eqb (bit (low + n) x) 1
unfolding bit
some-bit-more low n x = let y = x / 2 ^ low in let e : suc n ≡ 1 + n = omega arith in
    scaled (suc n) ∙ ap (λ (k : ℕ). not (eqb (y % 2 ^ k) 0)) e ∙ ap (λ (k : ℕ). not (eqb k 0)) (mod-pow-add y 1 n)
    ∙ either (y / 2 ^ n % 2) (y % 2 ^ n) (2 ^ n) (mod-lt (y / 2 ^ n) (omega arith)) (pow_pos n)
    ∙ ap₂ (λ (b : Bool) (k : ℕ). b || eqb (k % 2) 1) (sym (scaled n)) (shr-shr x low n)
  where
    scaled : (m : ℕ) → not (eqb (bit_and x (span low m)) 0) ≡ not (eqb (x / 2 ^ low % 2 ^ m) 0)
    scaled m = ap (λ (k : ℕ). not (eqb k 0)) (in_span low m x)
        ∙ ap not (some-scaled (x / 2 ^ low % 2 ^ m) (2 ^ low) (pow_pos low))

    either : (b r p : ℕ) → b < 2 → 0 < p → not (eqb (b * p + r) 0) ≡ not (eqb r 0) || eqb b 1
    either zero r p h g = let e : 0 * p + r ≡ r = omega (arith, zero-mul p) in
        ap (λ (k : ℕ). not (eqb k 0)) e ∙ sym (or-false (not (eqb r 0)))
    either (suc zero) r p h g = ap not (ne_eqb (1 * p + r) 0 (λ e. omega (arith, one-mul p))) ∙ sym (or-true (not (eqb r 0)))
    either (suc (suc b)) r p h g = absurd (omega arith)

-- and in a whole octet
pub some-octet : (x : ℕ) → x < 256 → bit_and x (span 0 8) ≡ x
some-octet x h = unfold span in and_mask x 8 ∙ mod-eq_of_lt h

pub some_or : (a b : ℕ) → not (eqb (bit_or a b) 0) ≡ not (eqb a 0) || not (eqb b 0)
some_or a b = pick (eqb a 0) refl (eqb b 0) refl
  where
    pick : (x : Bool) → eqb a 0 ≡ x → (y : Bool) → eqb b 0 ≡ y → not (eqb (bit_or a b) 0) ≡ not x || not y
    pick true e true f = ap not (eq-eqb (bit_or a b) 0 (omega (arith, or_add_and a b, eqb-true a 0 e, eqb-true b 0 f)))
    pick true e false f = ap not (ne_eqb (bit_or a b) 0 (λ g. eqb-false b 0 f (omega (arith, or_add_and a b, and_le_l a b))))
    pick false e y f = ap not (ne_eqb (bit_or a b) 0 (λ g. eqb-false a 0 e (omega (arith, or_add_and a b, and_le_r a b))))

-- ---- a range that is cleared

-- as the code clears it, by one `fill`
pub cleared-fill : (from n : ℕ) (xs : List ℕ) → from + n ≤ length xs → paste xs from (replicate n 0) n ≡ cleared from n xs
unfolding cleared
cleared-fill from zero xs h = sym (paste_none xs from [])
cleared-fill from (suc n) xs h = let next : suc n ≡ n + 1 = omega arith in
    ap (λ (k : ℕ). paste xs from (replicate k 0) k) next ∙ sym (fill_from_more xs from n 0 (omega arith))
    ∙ ap (λ (l : List ℕ). set l (from + n) 0) (cleared-fill from n xs (omega arith))

pub length-cleared : (from n : ℕ) (xs : List ℕ) → length (cleared from n xs) ≡ length xs
unfolding cleared
length-cleared from zero xs = refl
length-cleared from (suc n) xs = length-set (cleared from n xs) (from + n) 0 ∙ length-cleared from n xs

-- inside it, and outside
pub cleared-in : (from n : ℕ) (xs : List ℕ) (i : ℕ) → from ≤ i → i < from + n → ◌≡◌ {A = ℕ} (get_or (cleared from n xs) i 0) 0
unfolding cleared
cleared-in from zero xs i h g = absurd (omega arith)
cleared-in from (suc n) xs i h g = ⊎_elim last (λ l. before l (cleared-in from n xs i h l)) (le-or-lt (from + n) i)
  where
    ys : List ℕ
    ys = cleared from n xs

    last : from + n ≤ i → ◌≡◌ {A = ℕ} (get_or (set ys (from + n) 0) i 0) 0
    last l = ap (λ (k : ℕ). get_or (set ys (from + n) 0) k 0) (omega arith) ∙ own (le-or-lt (length ys) (from + n))
      where
        own : (length ys ≤ from + n) ⊎ (from + n < length ys) → ◌≡◌ {A = ℕ} (get_or (set ys (from + n) 0) (from + n) 0) 0
        own (inl out) = ap (λ (l : List ℕ). get_or l (from + n) 0) (set_out ys (from + n) 0 out) ∙ get_or-eq_default ys 0 out
        own (inr there) = get_or-set_same ys (from + n) 0 0 there

    before : i < from + n → ◌≡◌ {A = ℕ} (get_or ys i 0) 0 → ◌≡◌ {A = ℕ} (get_or (set ys (from + n) 0) i 0) 0
    before l e = get_or-set_other ys (from + n) i 0 0 (λ e. omega arith) ∙ e

pub cleared-out : (from n : ℕ) (xs : List ℕ) (i : ℕ) → (i < from) ⊎ (from + n ≤ i) → get_or (cleared from n xs) i 0 ≡ get_or xs i 0
unfolding cleared
cleared-out from zero xs i h = refl
cleared-out from (suc n) xs i h = get_or-set_other (cleared from n xs) (from + n) i 0 0
    (λ e. ⊎_elim (λ g. omega arith) (λ g. omega arith) h) ∙ cleared-out from n xs i (⊎_elim inl (λ g. inr (omega arith)) h)
