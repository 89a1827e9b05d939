-- A list of numbers as octets, read one after the other.
use Rattle.std.specs.Prelude.{cond, List, [], ◌∷◌, ltb, ℕ}
use Rattle.text_numerals.specs.Decimal.{NumberList, unread, values, before}

-- The numbers; or one of them is no octet.
unfoldable pub octets_in : List ℕ → NumberList
octets_in [] = values []
octets_in (n ∷ ns) = cond (ltb n 256) (before n (octets_in ns)) unread
