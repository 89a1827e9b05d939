-- Two numbers, then the bytes of a Write.
use Rattle.std.proofs.Common.{refl, ◌∙◌}
use Rattle.text_log.specs.LogLines.{write_entry}
use Rattle.text_log.proofs.ReadingLaws.{other-entry, entry-as-meant, on-missing, on-number}
use Rattle.text_log.proofs.parsing.pairs_line.Goals as goal

pub returns-in_default : goal.returns-in_default
unfolding write_entry
returns-in_default c = other-entry _ _ (on-missing _ _ _ _ c.in_default.ensures refl)

pub returns-in_default-spaced_at : goal.returns-in_default-spaced_at
unfolding write_entry
returns-in_default-spaced_at c = other-entry _ _ (on-number _ _ _ _ c.in-Some.ensures _ refl
    ∙ on-missing _ _ _ _ c.in_default-spaced_at.ensures refl)

pub returns : goal.returns
unfolding write_entry
returns c = entry-as-meant _ _ _ _ (on-number _ _ _ _ c.in-Some.ensures _ refl
    ∙ on-number _ _ _ _ c.in-Some-spaced_at.ensures _ refl) c.pairs_behind.ensures
