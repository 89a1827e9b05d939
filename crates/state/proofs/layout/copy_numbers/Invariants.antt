-- `state::layout::copy_numbers` meets its contract.
use mathlib.Core.Path.{◌≡◌}
use Rattle.state.specs.Updates.{copied_to}
use Rattle.state.proofs.layout.copy_numbers.Given as goal

abbrev pub invariant-loop-i : goal.invariant-loop-i
invariant-loop-i l = l.state ≡ copied_to l.initial.state l.from l.to l.i
