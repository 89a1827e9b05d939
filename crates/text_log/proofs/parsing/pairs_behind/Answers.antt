-- The tests before the pairs are those of `pairs_behind`.
use mathlib.Core.Path.{sym, ◌∙◌}
use native.Mathlib.Omega.{arith}
use Rattle.requests.specs.Requests.{call_of}
use Rattle.text_log.specs.Reading.{log_entry_of, written_by}
use Rattle.text_log.proofs.ReadingLaws.{other-entry, counted-unread, counted-many, many-within, pairs-none, pairs-no-space}
use Rattle.text_log.proofs.ReadingLaws.{pairs-space}
use Rattle.text_log.proofs.parsing.pairs_behind.Goals as goal

pub returns-then-line-at : goal.returns-then-line-at
unfolding log_entry_of written_by call_of
returns-then-line-at c = record { means = sym (pairs-none _ _ _ _ c.if-line-at.true); bytes = omega arith }

pub returns-then-line-at-ne32 : goal.returns-then-line-at-ne32
returns-then-line-at-ne32 c = other-entry _ _ (pairs-no-space _ _
    _ _ c.if-line-at.false c.if-line-at-ne32.true)

pub returns-in_default : goal.returns-in_default
returns-in_default c =
    other-entry _ _ (pairs-space _ _ _ _ c.if-line-at.false
    c.if-line-at-ne32.false ∙ counted-unread _ _ _ _
    (rw c.requires at
    c.pairs_at.ensures.means) c.in_default.is)

pub returns : goal.returns
unfolding log_entry_of written_by call_of
returns c = let e = c.pairs_at.ensures in record {
  means = sym (pairs-space _ _ _ _ c.if-line-at.false
      c.if-line-at-ne32.false ∙ counted-many _ _ _ _
      (rw c.requires at
      e.means) _ c.in-Some.is);
  bytes = many-within _ _ _ e.within c.in-Some.is;
}
