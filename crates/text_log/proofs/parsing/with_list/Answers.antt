-- Fresh and the best order have a list.
use Rattle.text_log.specs.LogLines.{entry_asked}
use Rattle.text_log.proofs.parsing.with_list.Goals as goal

pub returns-in-70 : goal.returns-in-70
unfolding entry_asked
returns-in-70 c = rw c.in-70.is c.fresh_line.ensures

pub returns-in-79 : goal.returns-in-79
unfolding entry_asked
returns-in-79 c = rw c.in-79.is c.order_line.ensures
