-- What the answers of the readers stand for.
use Rattle.std.specs.Prelude.{List, ◌≡◌, length, take, drop, ℕ, ◌≤◌, Some, None}
use Rattle.std.specs.declared.option.Option.{Option}
use Rattle.text_numerals.specs.Decimal.{Numeral, none, numeral, NumberList, unread, values}
use Rattle.text_numerals.specs.declared.Number.{Number}

-- A number, and where the bytes after it start in a line.
unfoldable pub numeral_of : List ℕ → Option Number → Numeral
numeral_of line None = none
numeral_of line (Some n) = numeral n.value (drop n.end line)

-- The values at the front of a buffer.
unfoldable pub values_of : Option ℕ → List ℕ → NumberList
values_of None buffer = unread
values_of (Some n) buffer = values (take n buffer)

unfoldable pub number_count : Option ℕ → ℕ
number_count None = 0
number_count (Some n) = n

-- The values in the buffer are those that are meant, and they lie in it; its length stays.
pub record Collects (before : List ℕ) (r : Option ℕ) (buffer : List ℕ) (meant : NumberList) : Type 0 where
  pub means : values_of r buffer ≡ meant
  pub within : number_count r ≤ length buffer
  pub same_length : length buffer ≡ length before
