-- The examples of specs/, computed.
use mathlib.Core.Path.{refl}
use Rattle.text_trace.specs.Examples.{bytes_of_text}
use Rattle.text_numerals.specs.Decimal.{decimal_below, number_text, spaced_texts, joined_texts, is_digit, digits, front_within, fitting}
use Rattle.text_numerals.specs.Decimal.{front_number, spaced_number, before, prepended, at_most, then_values, numbers_in}
use Rattle.text_numerals.specs.Pairs.{hex_pairs, is_hex, hex_worth, pairs_in}
use Rattle.text_log.specs.LogLines.{printable, write_line, op_line, line_of, next_number, last, last_or, octets, ordering}
use Rattle.text_log.specs.LogLines.{entry_asked, numbers_only, if_whole, on_number, expectation_in, pairs_behind, text_behind}
use Rattle.text_log.specs.{LogLines.{write_entry, lettered_entry, entry_in, call_in}, Examples.LogExamples}

pub log-examples : LogExamples
unfolding bytes_of_text decimal_below number_text spaced_texts is_digit digits front_within fitting front_number spaced_number before
    prepended at_most then_values numbers_in hex_pairs is_hex hex_worth pairs_in joined_texts printable write_line op_line line_of
    next_number last last_or octets ordering entry_asked numbers_only if_whole on_number expectation_in pairs_behind text_behind
    write_entry lettered_entry entry_in call_in
log-examples = record {
  started = (refl, refl);
  committed = (refl, refl, refl, refl);
  written = (refl, refl, refl, refl, refl, refl, refl);
  looked = (refl, refl, refl, refl);
  others = (refl, refl, refl, refl, refl, refl);
  octet = (refl, refl, refl, refl);
  silent = (refl, refl);
  about_log = (refl, refl, refl, refl, refl, refl);
  wide = (refl, refl, refl, refl);
  printed = (refl, refl, refl, refl, refl, refl, refl);
}
