-- Bits of octets, and a range of octets that is cleared.
use Rattle.std.specs.Prelude.{Bool, cond, ℕ, zero, suc, ◌+◌, ◌-◌, ◌*◌, ◌^◌, ◌/◌, ◌%◌, min, List, set}
use Rattle.std.specs.Int.Bits.{bit_or, bit_and}

-- bit u of x, worth 2 to the power u: 0 or 1
unfoldable pub bit : ℕ → ℕ → ℕ
bit u x = x / 2 ^ u % 2

-- x with bit t set
unfoldable pub with_bit : ℕ → ℕ → ℕ
with_bit t x = bit_or x (2 ^ t)

-- x, a number of sixteen bits, with bit t cleared; and with bit t set or cleared
unfoldable pub without_bit : ℕ → ℕ → ℕ
without_bit t x = bit_and x (65535 - 2 ^ t)

unfoldable pub with_bit_as : ℕ → Bool → ℕ → ℕ
with_bit_as t b x = cond b (with_bit t x) (without_bit t x)

-- the number whose bits are the n from bit `low` on
unfoldable pub span : ℕ → ℕ → ℕ
span low n = 2 ^ (low + n) - 2 ^ low

-- the n bits from bit `from` of a row of octets on: how many stand in the first of their octets, and how many
-- octets are between it and the last; those of the first octet, and those of the last where that is another
abbrev pub in_first : ℕ → ℕ → ℕ
in_first from n = min n (8 - from % 8)

abbrev pub between : ℕ → ℕ → ℕ
between from n = (n - in_first from n - 1) / 8

abbrev pub first_bits : ℕ → ℕ → ℕ
first_bits from n = span (from % 8) (in_first from n)

abbrev pub last_bits : ℕ → ℕ → ℕ
last_bits from n = span 0 (n - in_first from n - 8 * between from n)

-- those of the first n numbers that pass a test, as the bits of a number: bit u, worth 2 to the power u, for
-- u; and how many they are
unfoldable pub bits_of : (ℕ → Bool) → ℕ → ℕ
bits_of p zero = 0
bits_of p (suc u) = bits_of p u + cond (p u) (2 ^ u) 0

unfoldable pub count_of : (ℕ → Bool) → ℕ → ℕ
count_of p zero = 0
count_of p (suc u) = count_of p u + cond (p u) 1 0

-- xs with its n octets from `from` on cleared
unfoldable pub cleared : ℕ → ℕ → List ℕ → List ℕ
cleared from zero xs = xs
cleared from (suc n) xs = set (cleared from n xs) (from + n) 0
