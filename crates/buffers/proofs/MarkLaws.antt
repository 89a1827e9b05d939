-- The laws of marks, and of sets of transactions. Assumes nothing.
use mathlib.Core.Path.{◌≡◌, refl, sym, ap, ap₂, ◌∙◌}
use mathlib.Core.{Bool.{Bool, true, false, cond, not, ◌&&◌, ◌||◌, and-false, or-false, or_assoc}, List.{List, []}}
use mathlib.Core.Logic.{inl, inr, ⊎_elim}
use Prim.Native.Nat.{ℕ, zero, suc, ◌+◌, ◌-◌, ◌*◌, ◌/◌, ◌%◌, ◌≤◌, ◌<◌}
use native.Mathlib.{Nat.{add_assoc, add-zero, add-suc}, Numerals.add-one, Omega.arith}
use lib.{Bits.{bit_and, bit_or}, Dec.{eqb, ltb}, ListN.{length, take, drop, replicate, get_or, set, length-set, length-drop}}
use lib.Seq.{get_or-set_same, get_or-set_other, set-get_or, set-set, set_out, get_or-drop, paste}
use Rattle.std.specs.List.{fold}
use Rattle.std.proofs.lemmas.List.{Edits.{paste_none, fill_from_more}, Sums.fold_more}
use borrow.Author.Tests.{eqb-true, eqb-false, eq-eqb, ne_eqb, ltb-true, ltb-false, lt-ltb}
use Rattle.limits.specs.Limits.{buffer_bytes, transaction_count, mark_octets}
use Rattle.buffers.specs.Bits.{bit, with_bit, span, in_first, between, first_bits, last_bits, cleared}
use Rattle.buffers.specs.Marks.{by_transaction, names, has_mark, with_mark, with_marks, without_marks, has_mark_in, contains}
use Rattle.buffers.proofs.BitLaws.{bit-zero, bit-with, with-lt, with-span, with-span-none, with-octet, some-bit-none}
use Rattle.buffers.proofs.BitLaws.{some-bit-more, some-octet, some_or, length-cleared, cleared-in, cleared-out}
use Rattle.buffers.proofs.PartLaws.{le-or-lt}

-- ---- one mark more

pub length-with-mark : (t q : ℕ) (marks : List ℕ) → length (with_mark t q marks) ≡ length marks
length-with-mark t q marks = unfold with_mark in let i = by_transaction.octet_of t q in
    length-set marks i (with_bit (by_transaction.bit_of t q) (get_or marks i 0))

-- two pairs of transaction and byte have different octets or bits
apart : (t q u p : ℕ) → q < buffer_bytes → p < buffer_bytes → eqb (by_transaction.octet_of u p)
    (by_transaction.octet_of t q) && eqb (by_transaction.bit_of u p) (by_transaction.bit_of t q) ≡ eqb u t && eqb p q
apart t q u p h g = pick (eqb u t) refl (eqb p q) refl
  where
    differ : ((mark_octets * u + p / 8 ≡ mark_octets * t + q / 8) → (p % 8 ≡ q % 8) → ⊥)
        → eqb (mark_octets * u + p / 8) (mark_octets * t + q / 8) && eqb (p % 8) (q % 8) ≡ false
    differ clash = places (eqb (mark_octets * u + p / 8) (mark_octets * t + q / 8)) refl
      where
        places : (b : Bool) → eqb (mark_octets * u + p / 8) (mark_octets * t + q / 8) ≡ b → b && eqb (p % 8) (q % 8) ≡ false
        places true e = ne_eqb (p % 8) (q % 8) (clash (eqb-true (mark_octets * u + p / 8) (mark_octets * t + q / 8) e))
        places false e = refl

    pick : (b : Bool) → eqb u t ≡ b → (c : Bool) → eqb p q ≡ c
        → eqb (mark_octets * u + p / 8) (mark_octets * t + q / 8) && eqb (p % 8) (q % 8) ≡ b && c
    pick true e true f = rw (
      eqb-true u t e,
      eqb-true p q f,
      eq-eqb (mark_octets * t + q / 8) (mark_octets * t + q / 8) refl,
      eq-eqb (q % 8) (q % 8) refl,
    )
    pick true e false f = differ (λ x y. eqb-false p q f (omega (arith, eqb-true u t e)))
    pick false e c f = differ (λ x y. eqb-false u t e (omega arith))

-- every mark of every transaction then
pub has-with-mark : (t q u p : ℕ) (marks : List ℕ) → t < transaction_count → q < buffer_bytes → length marks ≡ buffer_bytes
    → has_mark (with_mark t q marks) u p ≡ (eqb u t && eqb p q) || has_mark marks u p
unfolding has_mark names with_mark
has-with-mark t q u p marks small there size = inside (ltb p buffer_bytes) refl
  where
    i : ℕ
    i = mark_octets * t + q / 8

    x : ℕ
    x = get_or marks i 0

    k : ℕ
    k = mark_octets * u + p / 8

    own : (b : Bool) → eqb (cond b 1 (bit (p % 8) x)) 1 ≡ b || eqb (bit (p % 8) x) 1
    own true = refl
    own false = refl

    place : (b : Bool) → eqb k i ≡ b → eqb (bit (p % 8) (get_or (set marks i (with_bit (q % 8) x)) k 0))
        1 ≡ (b && eqb (p % 8) (q % 8)) || eqb (bit (p % 8) (get_or marks k 0)) 1
    place true e = let f = eqb-true k i e in
        ap (λ (j : ℕ). eqb (bit (p % 8) (get_or (set marks i (with_bit (q % 8) x)) j 0)) 1) f
        ∙ ap (λ (y : ℕ). eqb (bit (p % 8) y) 1) (get_or-set_same marks i (with_bit (q % 8) x) 0 (omega arith))
        ∙ ap (λ (b : ℕ). eqb b 1) (bit-with (p % 8) (q % 8) x) ∙ own (eqb (p % 8) (q % 8))
        ∙ ap (λ (j : ℕ). eqb (p % 8) (q % 8) || eqb (bit (p % 8) (get_or marks j 0)) 1) (sym f)
    place false e = ap (λ (y : ℕ). eqb (bit (p % 8) y) 1) (get_or-set_other marks i k (with_bit (q % 8) x) 0 (eqb-false k i e))

    inside : (b : Bool) → ltb p buffer_bytes ≡ b → b && eqb (bit (p % 8) (get_or (set marks i (with_bit (q % 8) x)) k 0))
        1 ≡ (eqb u t && eqb p q) || (b && eqb (bit (p % 8) (get_or marks k 0)) 1)
    inside true e = place (eqb k i) refl
        ∙ ap (λ (b : Bool). b || eqb (bit (p % 8) (get_or marks k 0)) 1) (apart t q u p there (ltb-true p buffer_bytes e))
    inside false e = let h = ltb-false p buffer_bytes e in
        sym (rw (ne_eqb p q (λ f. omega arith)) (or-false (eqb u t && false) ∙ and-false (eqb u t)))

-- ---- a range of marks more

module _ (t from : ℕ) where
  pub with-marks-none : (marks : List ℕ) → with_marks t from 0 marks ≡ marks
  with-marks-none marks = unfold with_marks in refl

  length-with-marks : (n : ℕ) (marks : List ℕ) → length (with_marks t from n marks) ≡ length marks
  unfolding with_marks
  length-with-marks zero marks = refl
  length-with-marks (suc n) marks = length-with-mark t (from + n) (with_marks t from n marks) ∙ length-with-marks n marks

  -- the range directly after it, too
  with-marks-add : (n m : ℕ) (marks : List ℕ) → with_marks t (from + n) m (with_marks t from n marks)
      ≡ with_marks t from (n + m) marks
  unfolding with_marks
  with-marks-add n zero marks = ap (λ (k : ℕ). with_marks t from k marks) (sym (add-zero n))
  with-marks-add n (suc m) marks = ap₂ (with_mark t) (add_assoc from n m) (with-marks-add n m marks)
      ∙ ap (λ (k : ℕ). with_marks t from k marks) (sym (add-suc n m))

-- in three parts
pub with-marks-parts : (t from n a b : ℕ) (marks : List ℕ) → a + b * 8 ≤ n → with_marks t (from + (a + b * 8))
    (n - (a + b * 8)) (with_marks t (from + a) (8 * b) (with_marks t from a marks)) ≡ with_marks t from n marks
with-marks-parts t from n a b marks h = let e : a + 8 * b ≡ a + b * 8 = omega arith in
    let f : a + b * 8 + (n - (a + b * 8)) ≡ n = omega arith in
    ap (with_marks t (from + (a + b * 8)) (n - (a + b * 8))) (with-marks-add t from a (8 * b) marks
    ∙ ap (λ (k : ℕ). with_marks t from k marks) e) ∙ with-marks-add t from (a + b * 8) (n - (a + b * 8)) marks
    ∙ ap (λ (k : ℕ). with_marks t from k marks) f

-- from the front
pub with-marks-first : (t from n : ℕ) (marks : List ℕ) → with_marks t from (suc n) marks
    ≡ with_marks t (suc from) n (with_mark t from marks)
with-marks-first t from n marks = unfold with_marks in let e : suc n ≡ 1 + n = omega arith in
    ap (λ (k : ℕ). with_marks t from k marks) e ∙ sym (with-marks-add t from 1 n marks)
    ∙ ap₂ (λ (k j : ℕ). with_marks t k n (with_mark t j marks)) (add-one from) (add-zero from)

-- ---- the marks of a transaction cleared

pub length-without-marks : (t : ℕ) (marks : List ℕ) → length (without_marks t marks) ≡ length marks
length-without-marks t marks = unfold without_marks in length-cleared (mark_octets * t) mark_octets marks

pub has-without-marks : (t u p : ℕ) (marks : List ℕ) → has_mark (without_marks t marks) u p ≡ not (eqb u t) && has_mark marks u p
unfolding has_mark names without_marks
has-without-marks t u p marks = inside (ltb p buffer_bytes) refl (eqb u t) refl
  where
    inside : (b : Bool) → ltb p buffer_bytes ≡ b → (c : Bool) → eqb u t ≡ c
        → b && eqb (bit (p % 8) (get_or (cleared (mark_octets * t) mark_octets marks) (mark_octets * u + p / 8) 0)) 1
        ≡ not c && (b && eqb (bit (p % 8) (get_or marks (mark_octets * u + p / 8) 0)) 1)
    inside false e c f = sym (and-false (not c))
    inside true e true f = let h = ltb-true p buffer_bytes e in let g = eqb-true u t f in
        ap (λ (y : ℕ). eqb (bit (p % 8) y) 1) (cleared-in (mark_octets * t) mark_octets marks (mark_octets * u + p / 8)
        (omega arith) (omega arith)) ∙ ap (λ (b : ℕ). eqb b 1) (bit-zero (p % 8))
    inside true e false f = let h = ltb-true p buffer_bytes e in let g = eqb-false u t f in
        ap (λ (y : ℕ). eqb (bit (p % 8) y) 1) (cleared-out (mark_octets * t) mark_octets marks (mark_octets * u + p / 8)
        (⊎_elim (λ l. inr (⊎_elim (λ k. absurd (g (omega arith))) (λ k. omega arith) (le-or-lt u t)))
        (λ l. inl (omega arith)) (le-or-lt t u)))

-- ---- marks within one octet

module _ (t from : ℕ) (marks : List ℕ) where
  pub octet-marked : (n : ℕ) → t < transaction_count → length marks ≡ buffer_bytes → from + n ≤ buffer_bytes → from % 8 + n ≤ 8
      → with_marks t from n marks ≡ set marks (mark_octets * t + from / 8)
      (bit_or (get_or marks (mark_octets * t + from / 8) 0) (span (from % 8) n))
  unfolding with_marks with_mark
  octet-marked zero small size inside one = let i = mark_octets * t + from / 8 in
      sym (ap (set marks i) (with-span-none (from % 8) (get_or marks i 0)) ∙ set-get_or marks i 0)
  octet-marked (suc n) small size inside one = let i = mark_octets * t + from / 8 in
      let v = bit_or (get_or marks i 0) (span (from % 8) n) in let e : mark_octets * t + (from + n) / 8 ≡ i = omega arith in
      let f : (from + n) % 8 ≡ from % 8 + n = omega arith in
      ap (with_mark t (from + n)) (octet-marked n small size (omega arith) (omega arith))
      ∙ ap₂ (λ (j b : ℕ). set (set marks i v) j (with_bit b (get_or (set marks i v) j 0))) e f
      ∙ ap (λ (y : ℕ). set (set marks i v) i (with_bit (from % 8 + n) y)) (get_or-set_same marks i v 0 (omega arith))
      ∙ set-set marks i v (with_bit (from % 8 + n) v) ∙ ap (set marks i) (with-span (from % 8) n (get_or marks i 0))

  pub octet-has : (n : ℕ) → from + n ≤ buffer_bytes → from % 8 + n ≤ 8
      → has_mark_in marks t from n ≡ not (eqb (bit_and (get_or marks (mark_octets * t + from / 8) 0) (span (from % 8) n)) 0)
  unfolding has_mark_in has_mark names
  octet-has zero inside one = sym (some-bit-none (from % 8) (get_or marks (mark_octets * t + from / 8) 0))
  octet-has (suc n) inside one = let i = mark_octets * t + from / 8 in
      let e : mark_octets * t + (from + n) / 8 ≡ i = omega arith in let f : (from + n) % 8 ≡ from % 8 + n = omega arith in
      ap₂ (λ (b : Bool) (c : Bool). b || (c && eqb (bit ((from + n) % 8) (get_or marks (mark_octets * t + (from + n) / 8) 0))
      1)) (octet-has n (omega arith) (omega arith)) (lt-ltb (from + n) buffer_bytes (omega arith))
      ∙ ap₂ (λ (j b : ℕ). not (eqb (bit_and (get_or marks i 0) (span (from % 8) n)) 0) || eqb (bit b (get_or marks j 0)) 1) e f
      ∙ sym (some-bit-more (from % 8) n (get_or marks i 0))

-- ---- marks stay octets

octets-with-mark : (t q : ℕ) (marks : List ℕ) → ((p : ℕ) → get_or marks p 0 < 256) → (p : ℕ) → get_or (with_mark t q marks) p 0 < 256
unfolding with_mark
octets-with-mark t q marks octets p = ⊎_elim out there (le-or-lt (length marks) i)
  where
    i : ℕ
    i = mark_octets * t + q / 8

    x : ℕ
    x = with_bit (q % 8) (get_or marks i 0)

    out : length marks ≤ i → get_or (set marks i x) p 0 < 256
    out h = rw (set_out marks i x h) (octets p)

    place : i < length marks → (b : Bool) → eqb p i ≡ b → get_or (set marks i x) p 0 < 256
    place h true e = rw (eqb-true p i e, get_or-set_same marks i x 0 h) (with-lt (q % 8) (get_or marks i 0) (omega arith) (octets i))
    place h false e = rw (get_or-set_other marks i p x 0 (eqb-false p i e)) (octets p)

    there : i < length marks → get_or (set marks i x) p 0 < 256
    there h = place h (eqb p i) refl

octets-with-marks : (t from n : ℕ) (marks : List ℕ) → ((p : ℕ) → get_or marks p 0 < 256) → (p : ℕ)
    → get_or (with_marks t from n marks) p 0 < 256
unfolding with_marks
octets-with-marks t from zero marks octets = octets
octets-with-marks t from (suc n) marks octets =
    octets-with-mark t (from + n) (with_marks t from n marks) (octets-with-marks t from n marks octets)

-- ---- a mark somewhere in a range

module _ (marks : List ℕ) (t from : ℕ) where
  pub has-in-none : has_mark_in marks t from 0 ≡ false
  has-in-none = unfold has_mark_in in refl

  -- in one range or in the range directly after it
  has-in-add : (n m : ℕ) → has_mark_in marks t from (n + m) ≡ has_mark_in marks t from n || has_mark_in marks t (from + n) m
  unfolding has_mark_in
  has-in-add n zero = ap (has_mark_in marks t from) (add-zero n) ∙ sym (or-false (has_mark_in marks t from n))
  has-in-add n (suc m) = ap (has_mark_in marks t from) (add-suc n m)
      ∙ ap₂ ◌||◌ (has-in-add n m) (ap (has_mark marks t) (sym (add_assoc from n m)))
      ∙ or_assoc (has_mark_in marks t from n) (has_mark_in marks t (from + n) m) (has_mark marks t (from + n + m))

-- in three parts
has-in-parts : (marks : List ℕ) (t from n a b : ℕ) → a + b * 8 ≤ n → has_mark_in marks t from n ≡ has_mark_in marks t from
    a || (has_mark_in marks t (from + a) (8 * b) || has_mark_in marks t (from + (a + b * 8)) (n - (a + b * 8)))
has-in-parts marks t from n a b h = let rest = has_mark_in marks t (from + (a + b * 8)) (n - (a + b * 8)) in
    let e : n ≡ a + b * 8 + (n - (a + b * 8)) = omega arith in let f : a + b * 8 ≡ a + 8 * b = omega arith in
    ap (has_mark_in marks t from) e ∙ has-in-add marks t from (a + b * 8) (n - (a + b * 8))
    ∙ ap (λ (x : Bool). x || rest) (ap (has_mark_in marks t from) f ∙ has-in-add marks t from a (8 * b))
    ∙ or_assoc (has_mark_in marks t from a) (has_mark_in marks t (from + a) (8 * b)) rest

-- from the front
pub has-in-first : (marks : List ℕ) (t from n : ℕ) → has_mark_in marks t from (suc n) ≡ has_mark marks t from
    || has_mark_in marks t (suc from) n
has-in-first marks t from n = unfold has_mark_in in let e : suc n ≡ 1 + n = omega arith in
    ap (has_mark_in marks t from) e ∙ has-in-add marks t from 1 n
    ∙ ap₂ (λ (k j : ℕ). has_mark marks t k || has_mark_in marks t j n) (add-zero from) (add-one from)

-- ---- whole octets of marks

module _ (t from k : ℕ) (whole : from % 8 ≡ 0) (inside : from + 8 * k + 8 ≤ buffer_bytes) where
  place : mark_octets * t + (from + 8 * k) / 8 ≡ mark_octets * t + from / 8 + k
  place = omega arith

  first : (from + 8 * k) % 8 ≡ 0
  first = omega arith

  next : 8 * k + 8 ≡ 8 * (k + 1)
  next = omega arith

  -- octet k is set
  octets-marked : (marks : List ℕ) → t < transaction_count → length marks ≡ buffer_bytes → ((i : ℕ) → get_or marks i 0 < 256)
      → set (with_marks t from (8 * k) marks) (mark_octets * t + from / 8 + k) (span 0 8) ≡ with_marks t from (8 * (k + 1)) marks
  octets-marked marks small size octets = let ys = with_marks t from (8 * k) marks in
      let i = mark_octets * t + from / 8 + k in
      ap (set ys i) (sym (with-octet (get_or ys i 0) (octets-with-marks t from (8 * k) marks octets i)))
      ∙ ap₂ (λ (j b : ℕ). set ys j (bit_or (get_or ys j 0) (span b 8))) (sym place) (sym first) ∙ sym (octet-marked t
      (from + 8 * k) ys 8 small (length-with-marks t from (8 * k) marks ∙ size) (omega arith) (omega arith))
      ∙ with-marks-add t from (8 * k) 8 marks ∙ ap (λ (n : ℕ). with_marks t from n marks) next

  -- octet k is read
  octets-has : (marks : List ℕ) (found : ℕ) → get_or marks (mark_octets * t + from / 8 + k) 0 < 256
      → not (eqb found 0) ≡ has_mark_in marks t from (8 * k)
      → not (eqb (bit_or found (get_or marks (mark_octets * t + from / 8 + k) 0)) 0) ≡ has_mark_in marks t from (8 * (k + 1))
  octets-has marks found octet e = let i = mark_octets * t + from / 8 + k in let x = get_or marks i 0 in
      some_or found x ∙ ap₂ ◌||◌ e (ap (λ (y : ℕ). not (eqb y 0)) (sym (some-octet x octet)) ∙ ap₂ (λ (j b : ℕ). not
      (eqb (bit_and (get_or marks j 0) (span b 8)) 0)) (sym place) (sym first) ∙ sym (octet-has t (from + 8 * k) marks 8
      (omega arith) (omega arith))) ∙ sym (has-in-add marks t from (8 * k) 8) ∙ ap (has_mark_in marks t from) next

-- and k octets, as the code does them: set by one `fill`, and read by one `fold`
pub octets-filled : (t from k : ℕ) → (0 < k → from % 8 ≡ 0) → from + 8 * k ≤ buffer_bytes → t < transaction_count
    → (marks : List ℕ) → length marks ≡ buffer_bytes → ((i : ℕ) → get_or marks i 0 < 256)
    → paste marks (mark_octets * t + from / 8) (replicate k 255) k ≡ with_marks t from (8 * k) marks
octets-filled t from zero whole inside small marks size octets =
    sym (with-marks-none t from marks ∙ paste_none marks (mark_octets * t + from / 8) [])
octets-filled t from (suc k) whole inside small marks size octets = let i = mark_octets * t + from / 8 in
    let next : suc k ≡ k + 1 = omega arith in let all : 255 ≡ span 0 8 = unfold span in refl in
    ap (λ (n : ℕ). paste marks i (replicate n 255) n) next ∙ sym (fill_from_more marks i k 255 (omega arith))
    ∙ ap₂ (λ (l : List ℕ) (x : ℕ). set l (i + k) x)
    (octets-filled t from k (λ l. whole (omega arith)) (omega arith) small marks size octets) all
    ∙ octets-marked t from k (whole (omega arith)) (omega arith) marks small size octets
    ∙ ap (λ (n : ℕ). with_marks t from (8 * n) marks) (sym next)

pub octets-folded : (t from k : ℕ) → (0 < k → from % 8 ≡ 0) → from + 8 * k ≤ buffer_bytes → t < transaction_count
    → (marks : List ℕ) → length marks ≡ buffer_bytes → ((i : ℕ) → get_or marks i 0 < 256)
    → not (eqb (fold bit_or 0 (take k (drop (mark_octets * t + from / 8) marks))) 0) ≡ has_mark_in marks t from (8 * k)
octets-folded t from zero whole inside small marks size octets = sym (has-in-none marks t from)
octets-folded t from (suc k) whole inside small marks size octets = let i = mark_octets * t + from / 8 in
    let next : suc k ≡ k + 1 = omega arith in let here : k < length (drop i marks) = rw length-drop (omega arith) in
    ap (λ (n : ℕ). not (eqb (fold bit_or 0 (take n (drop i marks))) 0)) next
    ∙ ap (λ (x : ℕ). not (eqb x 0)) (fold_more bit_or 0 (drop i marks) k 0 here
    ∙ ap (bit_or (fold bit_or 0 (take k (drop i marks)))) (get_or-drop i marks k 0))
    ∙ octets-has t from k (whole (omega arith)) (omega arith) marks _ (octets (i + k))
    (octets-folded t from k (λ l. whole (omega arith)) (omega arith) small marks size octets)
    ∙ ap (λ (n : ℕ). has_mark_in marks t from (8 * n)) (sym next)

-- ---- a range by the masks of its ends

module _ (marks : List ℕ) (t from n : ℕ) (some : 0 < n) (inside : from + n ≤ buffer_bytes) where
  abbrev head : ℕ
  head = in_first from n

  abbrev whole : ℕ
  whole = between from n

  abbrev i : ℕ
  i = mark_octets * t + (from + n - 1) / 8

  -- the last octet, where that is another than the first
  in-last : (r : ℕ) → r ≡ n - head - 8 * whole
      → not (eqb (bit_and (get_or marks i 0) (span 0 r)) 0) ≡ has_mark_in marks t (from + (head + whole * 8)) r
  in-last zero e = some-bit-none 0 (get_or marks i 0) ∙ sym (has-in-none marks t (from + (head + whole * 8)))
  in-last (suc r) e = let q = from + (head + whole * 8) in let there : i ≡ mark_octets * t + q / 8 = omega arith in
      let low : 0 ≡ q % 8 = omega arith in
      ap₂ (λ (j b : ℕ). not (eqb (bit_and (get_or marks j 0) (span b (suc r))) 0)) there low
      ∙ sym (octet-has t q marks (suc r) (omega arith) (omega arith))

  module _ (first last : ℕ) (is-first : first ≡ first_bits from n) (is_last : last ≡ last_bits from n) where
    abbrev ends : ℕ
    ends = bit_or (bit_and (get_or marks (mark_octets * t + from / 8) 0) first) (bit_and (get_or marks i 0) last)

    abbrev whole_has : Bool
    whole_has = has_mark_in marks t (from + head) (8 * whole)

    abbrev last_has : ℕ → Bool
    last_has r = has_mark_in marks t (from + (head + whole * 8)) r

    ends-has : not (eqb ends 0) ≡ has_mark_in marks t from head || last_has (n - head - 8 * whole)
    ends-has = rw (is-first, is_last) (some_or (bit_and (get_or marks (mark_octets * t + from / 8) 0) (first_bits from n)) _
        ∙ ap₂ ◌||◌ (sym (octet-has t from marks head (omega arith) (omega arith))) (in-last (n - head - 8 * whole) refl))

    -- the ends, and the octets between them
    has-in-all : has_mark_in marks t from n ≡ not (eqb ends 0) || whole_has
    has-in-all = let e : n - (head + whole * 8) ≡ n - head - 8 * whole = omega arith in
        has-in-parts marks t from n head whole (omega arith)
        ∙ ap (λ (k : ℕ). has_mark_in marks t from head || (whole_has || last_has k)) e ∙ turned (has_mark_in marks t from head)
        whole_has (last_has (n - head - 8 * whole)) ∙ ap (λ (b : Bool). b || whole_has) (sym ends-has)
      where
        turned : (a b c : Bool) → a || (b || c) ≡ (a || c) || b
        turned true b c = refl
        turned false true true = refl
        turned false true false = refl
        turned false false true = refl
        turned false false false = refl

    pub ends-decide : (ends ≡ 0 → ⊥) → true ≡ has_mark_in marks t from n
    ends-decide h = sym (has-in-all ∙ ap (λ (b : Bool). not b || whole_has) (ne_eqb ends 0 h))

    pub whole-decides : ends ≡ 0 → (r : Bool) → r ≡ whole_has → r ≡ has_mark_in marks t from n
    whole-decides h r f = f ∙ sym (has-in-all ∙ ap (λ (b : Bool). not b || whole_has) (eq-eqb ends 0 h))

-- ---- sets of transactions

pub contains-none : (u : ℕ) → contains 0 u ≡ false
contains-none u = unfold contains in ap (λ (b : ℕ). eqb b 1) (bit-zero u)
