-- `saving::put_numbers` meets its contract. The loop's invariant: the numbers below i are put.
use mathlib.Core.Path.{◌≡◌}
use Rattle.state.specs.Layout.{store_of, journal_of}
use Rattle.images.specs.Images.{number_of}
use Rattle.images.proofs.WordLaws.{started}
use Rattle.images.proofs.saving.put_numbers.Given as goal

abbrev pub invariant-loop-i : goal.invariant-loop-i
invariant-loop-i l = (l.image ≡ started (number_of (store_of l.state)
    (journal_of l.state)) l.initial.image l.i)
