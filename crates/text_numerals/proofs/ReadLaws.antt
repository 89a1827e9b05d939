-- Laws of numbers on the part of a line from a place on.
use mathlib.Core.{Bool.{Bool, true, false, cond, not, ◌&&◌}, List.{List, [], ◌∷◌, ◌++◌}, Path.{◌≡◌, refl, sym, ap, ◌∙◌}}
use native.Mathlib.{Numerals.{add-one, add-two}, Omega.arith}
use lib.{Dec.leb, ListN.{length, take, drop, get_or, set, drop_of_length-le, length-take}}
use lib.Seq.{drop-cons, take-suc-set, append_snoc}
use borrow.Author.Tests.{leb-true, leb-false, le-leb, lt-leb, lt-ltb, le-ltb, eq-eqb, ne_eqb, not-true, not-false}
use Prim.Native.Nat.{ℕ, zero, suc, ◌+◌, ◌-◌, ◌*◌, ◌/◌, ◌%◌, ◌≤◌, ◌<◌, min}
use Rattle.std.proofs.Common.{◌⊎◌, inl, inr}
use Rattle.std.proofs.lemmas.List.{take_rest}
use Rattle.text_numerals.specs.Decimal.{past, Numeral, none, numeral, is_digit, worth, digits, front_within, fitting}
use Rattle.text_numerals.specs.Decimal.{front_number, spaced_number, more_digits, NumberList, unread, values, before}
use Rattle.text_numerals.specs.{Decimal.{prepended, at_most, then_values, numbers_in}, Pairs.{is_hex, hex_worth, pairs_in}}
use Rattle.text_numerals.specs.{Fields.numeral_of, declared.Number.{Number}}
use Rattle.std.specs.declared.option.Option.{Option, TheVariants.{Some, None}}
use Rattle.text_numerals.proofs.PutLaws.{append-none}

and_left : (a b : Bool) → a && b ≡ true → a ≡ true
and_left true b e = refl
and_left false b e = e

and_right : (a b : Bool) → a && b ≡ true → b ≡ true
and_right true b e = e
and_right false b e = cc

-- A test r whose value is q, and what `if !r` tells of q.
pub read-failed : {r q : Bool} → r ≡ q → not r ≡ true → q ≡ false
read-failed e h = sym e ∙ not-true _ h

pub read_held : {r q : Bool} → r ≡ q → not r ≡ false → q ≡ true
read_held e h = sym e ∙ not-false _ h

-- A digit lies between the bytes of 0 and 9.
pub digit-bounds : (b : ℕ) → is_digit b ≡ true → (48 ≤ b) × (b ≤ 57)
unfolding is_digit
digit-bounds b e = (leb-true 48 b (and_left (leb 48 b) (leb b 57) e), leb-true b 57 (and_right (leb 48 b) (leb b 57) e))

-- Each byte is a digit, or lies on either side of them.
module _ (b : ℕ) where
  pub is-digit : 48 ≤ b → b ≤ 57 → is_digit b ≡ true
  is-digit g l = unfold is_digit in rw (le-leb 48 b g, le-leb b 57 l)

  pub below-digits : b < 48 → is_digit b ≡ false
  below-digits l = unfold is_digit in rw (lt-leb 48 b l)

  pub above-digits : 57 < b → is_digit b ≡ false
  above-digits g = unfold is_digit in let h : 48 ≤ b = omega arith in rw (le-leb 48 b h, lt-leb b 57 g)

  pub digit-hex : is_digit b ≡ true → (is_hex b ≡ true) × (hex_worth b ≡ b - 48)
  digit-hex e = unfold is_hex hex_worth in rw (e) (refl, refl)

  pub letter-hex : 97 ≤ b → b ≤ 102 → (is_hex b ≡ true) × (hex_worth b ≡ b - 87)
  letter-hex g l = unfold is_hex hex_worth in let h : 57 < b = omega arith in
      rw (above-digits h, le-leb 97 b g, le-leb b 102 l) (refl, refl)

  pub between-hex : is_digit b ≡ false → b < 97 → is_hex b ≡ false
  between-hex e l = unfold is_hex in rw (e, lt-leb 97 b l)

  pub above-hex : 102 < b → is_hex b ≡ false
  above-hex g = unfold is_hex in let h : 57 < b = omega arith in let i : 97 ≤ b = omega arith in
      rw (above-digits h, le-leb 97 b i, lt-leb b 102 g)

suc-less : (n : ℕ) → suc n - 1 ≡ n
suc-less n = omega arith

-- The digits after a number, where no more may follow.
pub digits-none : (n v : ℕ) (bytes : List ℕ) → n ≡ 0 → digits n v bytes ≡ numeral v bytes
digits-none n v bytes e = unfold digits in rw e

-- The digits after a number, at the end of the line, at another byte and at a digit.
module _ (line : List ℕ) (at v : ℕ) where
  pub digits-end : (n : ℕ) → length line ≤ at → digits n v (drop at line) ≡ numeral v (drop at line)
  unfolding digits
  digits-end zero h = refl
  digits-end (suc n) h = rw (drop_of_length-le line h)

  pub digits-stop : (n : ℕ) → at < length line → is_digit (get_or line at 0) ≡ false → digits n v (drop at line)
      ≡ numeral v (drop at line)
  unfolding digits
  digits-stop zero h e = refl
  digits-stop (suc n) h e = rw (drop-cons line at 0 h, e)

  pub digits_more : (n : ℕ) → 0 < n → at < length line → is_digit (get_or line at 0) ≡ true
      → digits n v (drop at line) ≡ digits (n - 1) (v * 10 + worth (get_or line at 0)) (drop (at + 1) line)
  unfolding digits
  digits_more zero p h e = elim (absurd p) [ ]
    where
      absurd : 0 < 0 → ⊥
      absurd p = omega arith
  digits_more (suc n) p h e = rw (drop-cons line at 0 h, e, add-one at)
      (ap (λ (k : ℕ). digits k (v * 10 + worth (get_or line at 0)) (drop (suc at) line)) (sym (suc-less n)))

-- All digits of a line that may follow were read: a loop from one place to an end.
pub digits-all : (line : List ℕ) (from more at v end : ℕ) → from < past → length line < past → from ≤ at → (from ≤ end → at ≤ end)
    → end ≤ at → end ≡ min (length line) (min (from + more) 18446744073709551615)
    → digits (from + more - at) v (drop at line) ≡ numeral v (drop end line)
digits-all line from more at v end f l g h e is = pick (leb from end) refl (leb (length line) end) refl
  where
    past_line : length line ≤ end → digits (from + more - at) v (drop at line) ≡ numeral v (drop end line)
    past_line p = let q : length line ≤ at = omega arith in digits-end line at v (from + more - at) q
        ∙ ap (numeral v) (drop_of_length-le line q ∙ sym (drop_of_length-le line p))

    pick : (t : Bool) → leb from end ≡ t → (u : Bool) → leb (length line) end ≡ u
        → digits (from + more - at) v (drop at line) ≡ numeral v (drop end line)
    pick t a true b = past_line (leb-true (length line) end b)
    pick true a false b = let p = leb-false (length line) end b in let q = h (leb-true from end a) in
        digits-none (from + more - at) v (drop at line) (omega arith)
        ∙ ap (λ (k : ℕ). numeral v (drop k line)) (omega arith)
    pick false a false b = let p = leb-false (length line) end b in let q = leb-false from end a in absurd (omega arith)

-- A number that does not fit stays so with more digits.
pub digits-over : (n v : ℕ) (bytes : List ℕ) → past ≤ v → fitting (digits n v bytes) ≡ none
unfolding digits fitting
digits-over zero v bytes h = rw (le-ltb v past h)
digits-over (suc n) v [] h = rw (le-ltb v past h)
digits-over (suc n) v (b ∷ bytes) h = pick (is_digit b) (digits-over n (v * 10 + worth b) bytes (omega arith))
  where
    pick : (t : Bool) → fitting (digits n (v * 10 + worth b) bytes) ≡ none
        → fitting (cond t (digits n (v * 10 + worth b) bytes) (numeral v (b ∷ bytes))) ≡ none
    pick true e = e
    pick false e = rw (le-ltb v past h)

pub numeral-fits : (v : ℕ) (bytes : List ℕ) → v < past → fitting (numeral v bytes) ≡ numeral v bytes
numeral-fits v bytes h = unfold fitting in rw (lt-ltb v past h)

-- A number, and a space before it, at a place of the line.
module _ (more : ℕ) (line : List ℕ) (at : ℕ) where
  pub number-end : length line ≤ at → front_number more (drop at line) ≡ none
  number-end h = unfold front_number front_within fitting in rw (drop_of_length-le line h)

  pub number-other : at < length line → is_digit (get_or line at 0) ≡ false → front_number more (drop at line) ≡ none
  number-other h e = unfold front_number front_within fitting in rw (drop-cons line at 0 h, e)

  pub number_digits : at < length line → is_digit (get_or line at 0) ≡ true → (v : ℕ) → v ≡ worth (get_or line at 0)
      → front_number more (drop at line) ≡ fitting (digits more v (drop (at + 1) line))
  number_digits h e v w = unfold front_number front_within in rw (drop-cons line at 0 h, e, add-one at, w)

  pub spaced-end : length line ≤ at → spaced_number more (drop at line) ≡ none
  spaced-end h = unfold spaced_number in rw (drop_of_length-le line h)

  pub spaced-other : at < length line → (get_or line at 0 ≡ 32 → ⊥) → spaced_number more (drop at line) ≡ none
  spaced-other h e = unfold spaced_number in rw (drop-cons line at 0 h, ne_eqb (get_or line at 0) 32 e)

  pub spaced-number : at < length line → get_or line at 0 ≡ 32 → spaced_number more (drop at line)
      ≡ front_number more (drop (at + 1) line)
  spaced-number h e = unfold spaced_number in rw (drop-cons line at 0 h, eq-eqb (get_or line at 0) 32 e, add-one at)

-- What a reader's answer says of the number that it reads.
module _ (line : List ℕ) (f : Option Number) (g : Numeral) (h : numeral_of line f ≡ g) where
  pub field-missing : f ≡ None → g ≡ none
  field-missing e = unfold numeral_of in sym h ∙ rw e

  pub field-number : (n : Number) → f ≡ Some n → g ≡ numeral n.value (drop n.end line)
  field-number n e = unfold numeral_of in sym h ∙ rw e

-- ---- values in a buffer

pub ahead_none : (v : NumberList) → prepended [] v ≡ v
unfolding prepended
ahead_none unread = refl
ahead_none (values vs) = refl

pub ahead-one : (x : ℕ) (v : NumberList) → prepended (x ∷ []) v ≡ before x v
unfolding prepended before
ahead-one x unread = refl
ahead-one x (values vs) = refl

ahead_before : (us : List ℕ) (x : ℕ) (v : NumberList) → prepended us (before x v) ≡ prepended (us ++ (x ∷ [])) v
unfolding prepended before
ahead_before us x unread = refl
ahead_before us x (values vs) = ap values (sym (append_snoc us x vs))

pub ahead-all : (us : List ℕ) → prepended us (values []) ≡ values us
ahead-all us = unfold prepended in ap values (append-none us)

-- One value more in the buffer.
pub ahead_step : (start : NumberList) (n v : ℕ) (buffer : List ℕ) (x y : NumberList) → start ≡ prepended (take n buffer) x
    → n < length buffer → x ≡ before v y → start ≡ prepended (take (n + 1) (set buffer n v)) y
ahead_step start n v buffer x y e h f = e ∙ ap (prepended (take n buffer)) f ∙ ahead_before (take n buffer) v y ∙ ap
    (λ (l : List ℕ). prepended l y) (sym (ap (λ (k : ℕ). take k (set buffer n v)) (add-one n) ∙ take-suc-set buffer n v h))

-- All values that there are.
pub at-most-all : (k : ℕ) (us : List ℕ) → length us ≤ k → at_most k (prepended us (values [])) ≡ values us
at-most-all k us h = unfold at_most in rw (ahead-all us, le-leb (length us) k h)

first-false : (p q : Bool) → p ≡ false → (p && q) ≡ false
first-false p q e = rw e

second-false : (p q : Bool) → q ≡ false → (p && q) ≡ false
second-false true q e = e
second-false false q e = refl

-- The numbers behind spaces from a place on; pairs from it on.
module _ (line : List ℕ) (at : ℕ) where
  pub numbers-end : (k : ℕ) → length line ≤ at → numbers_in k (drop at line) ≡ values []
  unfolding numbers_in
  numbers-end zero h = rw (drop_of_length-le line h)
  numbers-end (suc k) h = rw (drop_of_length-le line h)

  pub numbers-full : (k : ℕ) → k ≡ 0 → at < length line → numbers_in k (drop at line) ≡ unread
  numbers-full k e h = unfold numbers_in in rw (e, drop-cons line at 0 h)

  pub numbers-missing : (k : ℕ) → 0 < k → at < length line → spaced_number more_digits (drop at line) ≡ none
      → numbers_in k (drop at line) ≡ unread
  unfolding numbers_in then_values
  numbers-missing zero p h e = absurd (omega arith)
  numbers-missing (suc k) p h e = let d = drop-cons line at 0 h in
      rw d (ap (λ (g : Numeral). then_values g (λ rest. numbers_in k rest)) (rw d at e))

  pub numbers_more : (k : ℕ) → 0 < k → at < length line → (v : ℕ) (rest : List ℕ) → spaced_number more_digits
      (drop at line) ≡ numeral v rest → numbers_in k (drop at line) ≡ before v (numbers_in (k - 1) rest)
  unfolding numbers_in then_values
  numbers_more zero p h v rest e = absurd (omega arith)
  numbers_more (suc k) p h v rest e = let d = drop-cons line at 0 h in
      rw (d, suc-less k) (ap (λ (g : Numeral). then_values g (λ rest. numbers_in k rest)) (rw d at e))

  pub pairs_end : length line ≤ at → pairs_in (drop at line) ≡ values []
  pairs_end h = unfold pairs_in in rw (drop_of_length-le line h)

  two_at : at + 1 < length line → drop at line ≡ get_or line at 0 ∷ get_or line (at + 1) 0 ∷ drop (at + 2) line
  two_at h = let first : at < length line = omega arith in let second : suc at < length line = omega arith in
      rw (add-one at, add-two at) (drop-cons line at 0 first
      ∙ ap (λ (l : List ℕ). get_or line at 0 ∷ l) (drop-cons line (suc at) 0 second))

  pairs-other : at + 1 < length line → (is_hex (get_or line at 0) && is_hex (get_or line (at + 1) 0)) ≡ false → pairs_in (drop at line)
      ≡ unread
  pairs-other h e = unfold pairs_in in rw (two_at h, e)

  pub pairs_first : at + 1 < length line → is_hex (get_or line at 0) ≡ false → pairs_in (drop at line) ≡ unread
  pairs_first h e = pairs-other h (first-false (is_hex (get_or line at 0)) (is_hex (get_or line (at + 1) 0)) e)

  pub pairs-second : at + 1 < length line → is_hex (get_or line (at + 1) 0) ≡ false → pairs_in (drop at line) ≡ unread
  pairs-second h e = pairs-other h (second-false (is_hex (get_or line at 0)) (is_hex (get_or line (at + 1) 0)) e)

  pub read-pairs-more : at + 1 < length line → is_hex (get_or line at 0) ≡ true → is_hex (get_or line (at + 1) 0) ≡ true
      → pairs_in (drop at line) ≡ before (hex_worth (get_or line at 0) * 16 + hex_worth (get_or line (at + 1) 0))
      (pairs_in (drop (at + 2) line))
  read-pairs-more h e f = unfold pairs_in in rw (two_at h, e, f)

-- Pairs come of an even number of bytes, two of each.
two-of-each : (t : Bool) (w n : ℕ) (v : NumberList) → ((vs : List ℕ) → v ≡ values vs → n ≡ 2 * length vs)
    → (vs : List ℕ) → cond t (before w v) unread ≡ values vs → suc (suc n) ≡ 2 * length vs
unfolding before
two-of-each true w n (values us) ih vs e = let m : w ∷ us ≡ vs = cc in omega (arith, ih us refl, ap (length {A = ℕ}) m)
two-of-each true w n unread ih vs e = cc
two-of-each false w n v ih vs e = cc

pairs-length : (l vs : List ℕ) → pairs_in l ≡ values vs → length l ≡ 2 * length vs
unfolding pairs_in
pairs-length [] vs e = let m : [] ≡ vs = cc in omega (arith, ap (length {A = ℕ}) m)
pairs-length (a ∷ []) vs e = cc
pairs-length (a ∷ b ∷ l) vs e =
    two-of-each (is_hex a && is_hex b) (hex_worth a * 16 + hex_worth b) (length l) (pairs_in l) (pairs-length l) vs e

-- An odd number of bytes, and more pairs than there is room for.
pub pairs-refused : (l : List ℕ) (k : ℕ) → ((length l % 2 ≡ 0 → ⊥) ⊎ ((length l % 2 ≡ 0) × (k < length l / 2))) → at_most k (pairs_in l) ≡ unread
unfolding at_most
pairs-refused l k h = pick (pairs_in l) (pairs-length l)
  where
    pick : (v : NumberList) → ((vs : List ℕ) → v ≡ values vs → length l ≡ 2 * length vs) → at_most k v ≡ unread
    pick unread f = refl
    pick (values vs) f = let n = f vs refl in let more : k < length vs = elim h [ inl o ↦ absurd (o (omega (arith, n))) | inr m ↦ omega (arith, n, m.1) ] in
        rw (lt-leb (length vs) k more)

-- All pairs are in the buffer.
pub pairs-read : (k i n : ℕ) (l buffer : List ℕ) → pairs_in l ≡ prepended (take i buffer) (pairs_in (drop (2 * i) l)) → i ≡ n
    → length l ≤ 2 * i → i ≤ k → values (take n buffer) ≡ at_most k (pairs_in l)
pairs-read k i n l buffer e same all room = let t = length-take i buffer in
    ap (λ (j : ℕ). values (take j buffer)) (sym same) ∙ sym (ap (at_most k) (e ∙ ap (prepended (take i buffer)) (pairs_end l (2 * i) all))
    ∙ at-most-all k (take i buffer) (omega (arith, t)))

-- A pair is refused behind those in the buffer.
pub pair-refused : (k : ℕ) (us l rest : List ℕ) → pairs_in l ≡ prepended us (pairs_in rest) → pairs_in rest ≡ unread
    → unread ≡ at_most k (pairs_in l)
pair-refused k us l rest e f = unfold prepended at_most in sym (ap (at_most k) (e ∙ ap (prepended us) f))

-- What a line has from a place on, also past its end.
pub rest-of : (line : List ℕ) (m from : ℕ) → m ≡ min from (length line) → take (length line - m) (drop m line) ≡ drop from line
rest-of line m from e = take_rest line m ∙ pick (leb (length line) from) refl
  where
    pick : (t : Bool) → leb (length line) from ≡ t → drop m line ≡ drop from line
    pick true h = let p = leb-true (length line) from h in let q : length line ≤ m = omega arith in
        drop_of_length-le line q ∙ sym (drop_of_length-le line p)
    pick false h = let p = leb-false (length line) from h in let q : m ≡ from = omega arith in ap (λ (j : ℕ). drop j line) q

-- One number in the buffer, and those after it.
pub first-number : (buffer : List ℕ) (v : ℕ) (rest : List ℕ) (g : Numeral) (next : List ℕ → NumberList) → 0 < length buffer
    → g ≡ numeral v rest → prepended (take 1 (set buffer 0 v)) (next rest) ≡ then_values g next
unfolding then_values
first-number [] v rest g next h e = absurd (omega arith)
first-number (x ∷ buffer) v rest g next h e = ahead-one v (next rest) ∙ sym (rw e)

pub no_number : (g : Numeral) (next : List ℕ → NumberList) → g ≡ none → then_values g next ≡ unread
no_number g next e = unfold then_values in rw e
