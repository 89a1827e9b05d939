-- The numbers are octets, or the line has another form.
use Rattle.text_log.specs.{LogLines.fresh, Reading.{log_entry_of, written_by}}
use Rattle.text_log.proofs.ReadingLaws.{other-entry, no-octets, all-octets, many-within}
use Rattle.text_log.proofs.parsing.fresh_line.Goals as goal

pub returns-in_default : goal.returns-in_default
returns-in_default c = other-entry _ _ (no-octets _ _ _ c.octets_of.ensures.means
    c.in_default.is _)

pub returns : goal.returns
unfolding log_entry_of written_by
returns c = let e = c.octets_of.ensures in let many = c.in-Some.is in
    record { means = all-octets _ _ _ e.means _ many fresh; bytes = many-within _ _ _ e.within many }
