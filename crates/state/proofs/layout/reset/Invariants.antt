-- `state::layout::reset` meets its contract.
use mathlib.Core.Path.{◌≡◌}
use Rattle.state.specs.{Updates.{zeroed_at}}
use Rattle.state.proofs.layout.reset.Given as goal

abbrev pub invariant-loop-k : goal.invariant-loop-k
invariant-loop-k l = l.state ≡ zeroed_at l.initial.state l.t l.k
