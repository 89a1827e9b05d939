-- `is_line` meets its contract. Assumes nothing.
use Rattle.text_lines.proofs.Laws.{last-is}
use Rattle.text_lines.proofs.is_line.Goals as goal

pub returns : goal.returns
returns c = last-is _
