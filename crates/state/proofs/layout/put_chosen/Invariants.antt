-- `state::layout::put_chosen` meets its contract.
use mathlib.Core.{Bool.false, Path.{◌≡◌}}
use lib.ListN.{get_or}
use Rattle.state.specs.{StoreMeaning.no_descriptor, Updates.with_chosen_at}
use Rattle.state.proofs.layout.put_chosen.Given as goal

abbrev pub invariant-loop-e : goal.invariant-loop-e
invariant-loop-e l = l.state ≡ with_chosen_at l.initial.state l.t (λ d. get_or l.chosen d false) (λ d. get_or l.all d no_descriptor) l.e
