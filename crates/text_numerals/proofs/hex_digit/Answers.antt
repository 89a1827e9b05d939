-- Each arm of the match is one of the cases of a byte.
use Rattle.std.proofs.Common.{arith}
use Rattle.text_numerals.proofs.ReadLaws.{is-digit, below-digits, above-digits, digit-hex, letter-hex, between-hex, above-hex}
use Rattle.text_numerals.proofs.hex_digit.Goals as goal

pub returns-in-48-to-57 : goal.returns-in-48-to-57
returns-in-48-to-57 c = let h = digit-hex c.args.b (is-digit _ (omega arith) (omega arith)) in
    (h.0, (omega (arith, h.1), omega arith))

pub returns-in-97-to-102 : goal.returns-in-97-to-102
returns-in-97-to-102 c = let h = letter-hex c.args.b (omega arith) (omega arith) in (h.0, (omega (arith, h.1), omega arith))

pub returns-in_default : goal.returns-in_default
returns-in_default c = between-hex _ (below-digits _ (omega arith)) (omega arith)

pub returns-in_default-2 : goal.returns-in_default-2
returns-in_default-2 c = between-hex _ (above-digits _ (omega arith)) (omega arith)

pub returns-in_default-3 : goal.returns-in_default-3
returns-in_default-3 c = above-hex _ (omega arith)
