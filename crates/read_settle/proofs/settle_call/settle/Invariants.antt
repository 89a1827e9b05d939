-- `settle_call::settle` meets its contract. The loop's invariant: the descriptors below `e` fit, and are settled where chosen.
use mathlib.Core.{Bool.true, Path.{◌≡◌}}
use Rattle.admission.{specs.FirstRefusal.below}
use Rattle.state.specs.{Layout.store_of}
use Rattle.read_settle.specs.Choices.{settles_within}
use Rattle.read_settle.proofs.ChoiceLaws.{settled_front}
use Rattle.read_settle.proofs.settle_call.settle.Given as goal

abbrev pub invariant-loop-e : goal.invariant-loop-e
invariant-loop-e l = (l.descriptors ≡ (settled_front l.chosen (store_of l.state).offsets l.x l.e).descriptors)
    × (below (settles_within l.chosen (store_of l.state).offsets l.x) l.e ≡ true)
