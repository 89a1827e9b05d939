-- Bytes as pairs of hexadecimal digits: printed and read.
use Rattle.std.specs.Prelude.{Bool, cond, ◌&&◌, ◌||◌, List, [], ◌∷◌, ◌≡◌, leb, ℕ, ◌+◌, ◌-◌, ◌*◌, ◌/◌, ◌%◌}
use Prim.Native.Char.{code}
use Rattle.text_numerals.specs.Decimal.{glyph, is_digit, NumberList, unread, values, before, AllBelow}

-- "lower-case hexadecimal pairs without spaces" [R-19.4]
unfoldable pub hex_pairs : List ℕ → List ℕ
hex_pairs [] = []
hex_pairs (b ∷ bs) = glyph (b / 16) ∷ glyph (b % 16) ∷ hex_pairs bs

unfoldable pub is_hex : ℕ → Bool
is_hex b = is_digit b || (leb (code "a") b && leb b (code "f"))

unfoldable pub hex_worth : ℕ → ℕ
hex_worth b = cond (is_digit b) (b - 48) (b - 87)

unfoldable pub pairs_in : List ℕ → NumberList
pairs_in [] = values []
pairs_in (a ∷ []) = unread
pairs_in (a ∷ b ∷ rest) = cond (is_hex a && is_hex b) (before (hex_worth a * 16 + hex_worth b) (pairs_in rest))
    unread

-- Printed pairs are read back.
abbrev pub PairsReadBack : Type 0
PairsReadBack = (bs : List ℕ) → AllBelow 256 bs → pairs_in (hex_pairs bs) ≡ values bs
