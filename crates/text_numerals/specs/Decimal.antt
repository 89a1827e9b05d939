-- Numbers in decimal: printed, and read at the front of some bytes.
use Rattle.std.specs.Prelude.{Bool, false, cond, ◌&&◌, List, [], ◌∷◌, ◌++◌, ◌≡◌, leb, ltb, eqb, length, ℕ, zero, suc, ◌+◌, ◌-◌, ◌*◌, ◌/◌, ◌%◌, ◌≤◌, ◌<◌}
use Prim.Native.Char.{code}

-- ---- printed

-- The character of a digit below 16: `0` to `9`, then `a` to `f`.
abbrev pub glyph : ℕ → ℕ
glyph d = cond (ltb d 10) (48 + d) (87 + d)

-- A number below 10 ^ k in decimal, without zeros in front.
unfoldable pub decimal_below : ℕ → ℕ → List ℕ
decimal_below zero n = []
decimal_below (suc k) n = cond (ltb n 10) (glyph n ∷ []) (decimal_below k (n / 10) ++ (glyph (n % 10) ∷ []))

-- The first number that does not fit 64 bits.
abbrev pub past : ℕ
past = 18446744073709551616

-- A number of 64 bits, which has at most 20 digits.
unfoldable pub number_text : ℕ → List ℕ
number_text n = decimal_below 20 n

-- Numbers, each after a space.
unfoldable pub spaced_texts : List ℕ → List ℕ
spaced_texts [] = []
spaced_texts (n ∷ ns) = 32 ∷ (number_text n ++ spaced_texts ns)

-- Numbers with one space between.
unfoldable pub joined_texts : List ℕ → List ℕ
joined_texts [] = []
joined_texts (n ∷ ns) = number_text n ++ spaced_texts ns

-- ---- read

-- A number at the front of some bytes, with the bytes after it; or none.
pub data Numeral : Type 0 where
  none : Numeral
  numeral : ℕ → List ℕ → Numeral

unfoldable pub is_digit : ℕ → Bool
is_digit b = leb (code "0") b && leb b (code "9")

abbrev pub worth : ℕ → ℕ
worth b = b - code "0"

-- A number with the digits that follow it, at most n of them.
unfoldable pub digits : ℕ → ℕ → List ℕ → Numeral
digits zero v bytes = numeral v bytes
digits (suc n) v [] = numeral v []
digits (suc n) v (b ∷ bytes) = cond (is_digit b) (digits n (v * 10 + worth b) bytes) (numeral v (b ∷ bytes))

-- A number of one digit and at most n more.
unfoldable pub front_within : ℕ → List ℕ → Numeral
front_within n [] = none
front_within n (b ∷ bytes) = cond (is_digit b) (digits n (worth b) bytes) none

-- A number that fits 64 bits; one that does not is none.
unfoldable pub fitting : Numeral → Numeral
fitting none = none
fitting (numeral v bytes) = cond (ltb v past) (numeral v bytes) none

-- A number of one digit and at most n more that fits 64 bits.
unfoldable pub front_number : ℕ → List ℕ → Numeral
front_number n bytes = fitting (front_within n bytes)

-- One space, then such a number.
unfoldable pub spaced_number : ℕ → List ℕ → Numeral
spaced_number n [] = none
spaced_number n (b ∷ bytes) = cond (eqb b (code " ")) (front_number n bytes) none

-- A number of 64 bits has at most so many digits after its first.
abbrev pub more_digits : ℕ
more_digits = 19

-- Values read up to the line's end; or the line has another form.
pub data NumberList : Type 0 where
  unread : NumberList
  values : List ℕ → NumberList

-- One value in front of those.
unfoldable pub before : ℕ → NumberList → NumberList
before v unread = unread
before v (values vs) = values (v ∷ vs)

-- Several values in front of those.
unfoldable pub prepended : List ℕ → NumberList → NumberList
prepended us unread = unread
prepended us (values vs) = values (us ++ vs)

-- At most k values; more are none.
unfoldable pub at_most : ℕ → NumberList → NumberList
at_most k unread = unread
at_most k (values vs) = cond (leb (length vs) k) (values vs) unread

-- A number, and the values that come of the bytes after it.
unfoldable pub then_values : Numeral → (List ℕ → NumberList) → NumberList
then_values none next = unread
then_values (numeral v bytes) next = before v (next bytes)

-- At most k numbers, each after one space, up to the line's end.
unfoldable pub numbers_in : ℕ → List ℕ → NumberList
numbers_in zero [] = values []
numbers_in zero (b ∷ bytes) = unread
numbers_in (suc k) [] = values []
numbers_in (suc k) (b ∷ bytes) = then_values (spaced_number more_digits (b ∷ bytes)) (λ rest. numbers_in k rest)

-- ---- what holds of both

-- Each number of a list is below a bound.
unfoldable pub AllBelow : ℕ → List ℕ → Type 0
AllBelow m [] = Unit
AllBelow m (n ∷ ns) = (n < m) × AllBelow m ns

-- No digit stands at the front of the bytes.
unfoldable pub Stops : List ℕ → Type 0
Stops [] = Unit
Stops (b ∷ bytes) = is_digit b ≡ false

-- Printed numbers are read back.
pub record ReadsBack : Type 0 where
  pub number : (n : ℕ) (rest : List ℕ) → n < past → Stops rest → front_number more_digits (number_text n ++ rest)
      ≡ numeral n rest
  pub numbers : (k : ℕ) (ns : List ℕ) → length ns ≤ k → AllBelow past ns → numbers_in k (spaced_texts ns)
      ≡ values ns
