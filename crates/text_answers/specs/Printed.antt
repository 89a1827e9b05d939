-- What a trace prints for a reply. Paper 02, F-5: "It prints for each line the two bytes ok, with a space and
-- the answer where there is one (P offset, C octet, both decimal; R bytes as lower-case hexadecimal pairs
-- without spaces; an empty Read prints ok alone), or the refusal number, and then the byte 10." [R-19.4]
use Rattle.std.specs.Prelude.{List, [], ◌∷◌, ◌++◌, take, ℕ}
use Rattle.text_numerals.specs.Decimal.{decimal_below}
use Rattle.text_numerals.specs.Pairs.{hex_pairs}
use Rattle.state.specs.Outcomes.{Said, done_answer, pointer, given, granted, pairs, ordered, refused}
use Rattle.spec.specs.Messages.{Reply}

-- A number below 100,000, as every number that is printed.
unfoldable pub decimal : ℕ → List ℕ
decimal n = decimal_below 5 n

-- "the two bytes ok, with a space and the answer where there is one" [R-19.4]: a number; bytes, of which none
-- are no answer.
abbrev pub ok : List ℕ
ok = 111 ∷ 107 ∷ []

unfoldable pub ok_number : ℕ → List ℕ
ok_number n = ok ++ (32 ∷ decimal n)

unfoldable pub ok_bytes : List ℕ → List ℕ
ok_bytes [] = ok
ok_bytes (b ∷ bs) = ok ++ (32 ∷ hex_pairs (b ∷ bs))

-- What is said, with the bytes at the front of the reader's buffer for a Read. No line of a trace asks for
-- pairs or for an order.
unfoldable pub spelled : Said → List ℕ → List ℕ
spelled done_answer buffer = ok
spelled (pointer n) buffer = ok_number n
spelled (given n) buffer = ok_bytes (take n buffer)
spelled (granted n) buffer = ok_number n
spelled (pairs n) buffer = ok_number n
spelled (ordered grants gap tried) buffer = ok_number grants
spelled (refused n) buffer = decimal n

-- "and then the byte 10" [R-19.4]
unfoldable pub printed : Reply → List ℕ
printed r = spelled r.answer r.buffer ++ (10 ∷ [])
