-- The tests are those of `expectation_in`.
use mathlib.Core.Path.{sym}
use native.Mathlib.Omega.{arith}
use Rattle.text_log.specs.Reading.{log_entry_of, written_by}
use Rattle.text_log.proofs.ReadingLaws.{other-entry, expects-none, expects-other, expects-text}
use Rattle.text_log.proofs.parsing.answer_line.Goals as goal

pub returns-then-line-lt2 : goal.returns-then-line-lt2
returns-then-line-lt2 c bytes = other-entry bytes _
    (expects-none c.args.line.now c.if-line-lt2.true)

pub returns-then-line-ne32 : goal.returns-then-line-ne32
returns-then-line-ne32 c bytes = other-entry bytes _ (expects-other c.args.line.now c.if-line-lt2.false
    c.if-line-ne32.true)

pub returns : goal.returns
unfolding log_entry_of written_by
returns c bytes = record {
  means = sym (expects-text c.args.line.now c.if-line-lt2.false c.if-line-ne32.false);
  bytes = omega arith;
}
