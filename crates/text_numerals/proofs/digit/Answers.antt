-- Each arm of the match is one of the three cases of a byte.
use Rattle.std.proofs.Common.{arith}
use Rattle.text_numerals.proofs.ReadLaws.{is-digit, below-digits, above-digits}
use Rattle.text_numerals.proofs.digit.Goals as goal

pub returns-in-48-to-57 : goal.returns-in-48-to-57
returns-in-48-to-57 c = (is-digit _ (omega arith) (omega arith), (omega arith, omega arith))

pub returns-in_default : goal.returns-in_default
returns-in_default c = below-digits _ (omega arith)

pub returns-in_default-2 : goal.returns-in_default-2
returns-in_default-2 c = above-digits _ (omega arith)
