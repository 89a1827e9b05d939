-- The length is tested first.
use Rattle.text_log.proofs.ReadingLaws.{other-entry, entry-as-meant, too_long, entry-within}
use Rattle.text_log.proofs.parsing.parse_entry.Goals as goal

pub returns-then-line-gt-LONGEST : goal.returns-then-line-gt-LONGEST
returns-then-line-gt-LONGEST c = other-entry _ _ (too_long _ c.if-line-gt-LONGEST.true)

pub returns : goal.returns
returns c = entry-as-meant _ _ _ _ (entry-within _ c.if-line-gt-LONGEST.false)
    c.entry_line.ensures
