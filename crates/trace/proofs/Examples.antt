-- The examples of specs/, computed.
use mathlib.Core.Path.{refl}
use Rattle.spec.proofs.Examples.Opened.{opened}
use Rattle.requests.specs.Requests.{call_of}
use Rattle.text_numerals.specs.Decimal.{spaced_number, front_number, front_within, fitting, digits, is_digit, decimal_below}
use Rattle.text_numerals.specs.Pairs.{hex_pairs}
use Rattle.text_trace.specs.{Grammar.{parsed, form, lettered, after_numeral, ends, writes}, Examples.bytes_of_text}
use Rattle.text_lines.specs.{Lines.{lines_of, lines_from, last_line, ended_line, grown}, Programs.transcript}
use Rattle.text_answers.specs.Printed.{printed, spelled, ok_number, ok_bytes, decimal}
use Rattle.trace.specs.{Transcript.{mod_eight, reader_after_line, trace_line_turn}, Examples.TranscriptExamples}

pub transcript-examples : TranscriptExamples
unfolding opened call_of parsed form lettered after_numeral spaced_number front_number front_within fitting digits is_digit ends
    writes bytes_of_text lines_of lines_from last_line ended_line grown printed spelled ok_number ok_bytes decimal decimal_below
    hex_pairs mod_eight reader_after_line trace_line_turn transcript
transcript-examples = record { asked = refl; each = refl; goes_on = refl }
