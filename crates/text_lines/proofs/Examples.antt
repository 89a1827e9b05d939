-- The examples of specs/, computed.
use mathlib.Core.Path.{refl}
use Rattle.text_lines.specs.Examples.{LineExamples}
use Rattle.text_lines.specs.Lines.{lines_of, lines_from, last_line, ended_line, grown, from_pieces, completed_in, pending_after}
use Rattle.text_lines.specs.Lines.{truncated}

pub line-examples : LineExamples
unfolding lines_of lines_from last_line ended_line grown from_pieces completed_in pending_after truncated
line-examples = record { ends = (refl, refl, refl, refl); pieces = refl }
