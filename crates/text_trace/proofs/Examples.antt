-- The examples hold.
use mathlib.Core.Path.{refl}
use Rattle.text_trace.specs.Grammar.{parsed, form, lettered, after_numeral, ends, writes}
use Rattle.text_trace.specs.Examples.{TraceLineExamples, bytes_of_text, is_form, firsts}
use Rattle.text_numerals.specs.Decimal.{spaced_number, front_number, front_within, fitting, digits, is_digit}

pub trace-line-examples : TraceLineExamples
unfolding parsed form lettered after_numeral spaced_number front_number front_within fitting digits is_digit ends writes
    bytes_of_text is_form firsts
trace-line-examples = record {
  alone = (refl, refl, refl);
  numbered = (refl, refl, refl);
  written = (refl, refl, refl, refl);
  unwritten = (refl, refl, refl);
  transactions = (refl, refl, refl, refl, refl);
  digits = (refl, refl, refl, refl, refl, refl, refl);
  spaces = (refl, refl, refl, refl, refl);
  others = (refl, refl, refl, refl, refl);
  no_digits = (refl, refl, refl, refl, refl, refl);
  letters = refl;
  longest = (refl, refl);
}
