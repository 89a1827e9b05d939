-- Each letter's case is that of `lettered`.
use borrow.Author.Rules.{rules}
use Rattle.text_trace.specs.Grammar.{lettered}
use Rattle.text_trace.proofs.Laws.{lettered-other, other}
use Rattle.text_trace.proofs.by_letter.Goals as goal

pub returns-in-66 : goal.returns-in-66
returns-in-66 c = unfold lettered in rw c.in-66.is c.whole_line.ensures

pub returns-in-67 : goal.returns-in-67
returns-in-67 c = unfold lettered in rw c.in-67.is c.whole_line-in-67.ensures

pub returns-in-65 : goal.returns-in-65
returns-in-65 c = unfold lettered in rw c.in-65.is c.whole_line-in-65.ensures

pub returns-in-80 : goal.returns-in-80
returns-in-80 c = unfold lettered in rw c.in-80.is c.pointer_line.ensures

pub returns-in-83 : goal.returns-in-83
returns-in-83 c = unfold lettered in rw c.in-83.is c.seek_line.ensures

pub returns-in-82 : goal.returns-in-82
returns-in-82 c = unfold lettered in rw c.in-82.is c.read_line.ensures

pub returns-in-87 : goal.returns-in-87
returns-in-87 c = unfold lettered in rw c.in-87.is c.write_line.ensures

pub returns-in_default : goal.returns-in_default
returns-in_default c = other _ _ (lettered-other _ _ _ (search rules) (search rules) (search rules) (search rules)
    (search rules) (search rules) (search rules))
