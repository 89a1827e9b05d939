-- Each letter's case is that of `lettered_entry`.
use mathlib.Core.Path.{sym}
use native.Mathlib.Omega.{arith}
use borrow.Author.Rules.{rules}
use Rattle.text_log.specs.Reading.{log_entry_of, written_by}
use Rattle.text_log.proofs.ReadingLaws.{entry-as-meant, call_none, call-comment, call-expects, call-pairs, call-text}
use Rattle.text_log.proofs.ReadingLaws.{call-asked}
use Rattle.text_log.proofs.parsing.entry_line.Goals as goal

pub returns-then-line-eq0 : goal.returns-then-line-eq0
unfolding log_entry_of written_by
returns-then-line-eq0 c = record { means = sym (call_none _ c.if-line-eq0.true); bytes = omega arith }

pub returns-in-35 : goal.returns-in-35
unfolding log_entry_of written_by
returns-in-35 c = record { means = sym (call-comment _ c.if-line-eq0.false c.in-35.is); bytes = omega arith }

pub returns-in-61 : goal.returns-in-61
returns-in-61 c = entry-as-meant _ _ _ _ (call-expects _ c.if-line-eq0.false c.in-61.is)
    (c.answer_line.ensures _)

pub returns-in-88 : goal.returns-in-88
returns-in-88 c = entry-as-meant _ _ _ _ (call-pairs _ c.if-line-eq0.false
    c.in-88.is) c.pairs_line.ensures

pub returns-in-87 : goal.returns-in-87
returns-in-87 c = entry-as-meant _ _ _ _ (call-text _ c.if-line-eq0.false
    c.in-87.is) c.short_text_line.ensures

pub returns-in_default : goal.returns-in_default
returns-in_default c = entry-as-meant _ _ _ _ (call-asked _ c.if-line-eq0.false
    (search rules) (search rules) (search rules) (search rules)) c.joined_line.ensures
