-- What is printed as hexadecimal pairs is read back.
use mathlib.Core.{Bool.{Bool, true, false}, List.{[], ◌∷◌}, Path.{◌≡◌, refl}}
use Prim.Native.Nat.{ℕ, ◌+◌, ◌*◌, ◌/◌, ◌%◌, ◌<◌}
use native.Mathlib.Omega.{arith}
use lib.Dec.{ltb}
use borrow.Author.Tests.{ltb-true, ltb-false, le-leb, lt-leb}
use Rattle.limits.specs.Limits.{descriptor_count}
use Rattle.text_numerals.specs.Decimal.{glyph, is_digit, before, AllBelow}
use Rattle.text_numerals.specs.Pairs.{hex_pairs, is_hex, hex_worth, pairs_in, PairsReadBack}

-- The character of a digit below 16 is one, and is worth that digit.
module _ (d : ℕ) (h : d < descriptor_count) where
  glyph-hex : (is_hex (glyph d) ≡ true) × (hex_worth (glyph d) ≡ d)
  unfolding is_hex hex_worth is_digit
  glyph-hex = pick (ltb d 10) refl
    where
      pick : (t : Bool) → ltb d 10 ≡ t → (is_hex (glyph d) ≡ true) × (hex_worth (glyph d) ≡ d)
      pick true e = let l = ltb-true d 10 e in
          rw (e, le-leb 48 (48 + d) (omega arith), le-leb (48 + d) 57 (omega arith)) (refl, omega arith)
      pick false e = let l = ltb-false d 10 e in rw (
        e,
        le-leb 48 (87 + d) (omega arith),
        lt-leb (87 + d) 57 (omega arith),
        le-leb 97 (87 + d) (omega arith),
        le-leb (87 + d) 102 (omega arith),
      ) (refl, omega arith)

pub pairs-back : PairsReadBack
unfolding hex_pairs pairs_in AllBelow before
pairs-back [] h = refl
pairs-back (b ∷ bs) h = let x = glyph-hex (b / 16) (omega (arith, h.0)) in let y = glyph-hex (b % 16) (omega arith) in
    let v : b / 16 * 16 + b % 16 ≡ b = omega arith in rw (x.0, y.0, x.1, y.1, pairs-back bs h.1, v)
