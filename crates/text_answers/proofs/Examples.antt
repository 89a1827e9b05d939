-- The examples of specs/, computed.
use mathlib.Core.Path.{refl}
use Rattle.text_answers.specs.{Examples.AnswerExamples, Printed.{printed, spelled, ok_number, ok_bytes, decimal}}
use Rattle.text_numerals.specs.{Decimal.decimal_below, Pairs.hex_pairs}

pub answer-examples : AnswerExamples
unfolding printed spelled ok_number ok_bytes decimal decimal_below hex_pairs
answer-examples = record { asked = (refl, refl, refl); numbers = (refl, refl, refl, refl); bytes = (refl, refl) }
