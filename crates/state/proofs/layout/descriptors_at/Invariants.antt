-- `state::layout::descriptors_at` meets its contract.
use Rattle.state.specs.{Layout.{descriptor_of}, StoreMeaning.no_descriptor}
use mathlib.Core.{Path.{◌≡◌}}
use lib.ListN.{replicate}
use Rattle.state.proofs.Filled.{filled}
use Rattle.state.proofs.layout.descriptors_at.Given as goal

abbrev pub invariant-loop-d : goal.invariant-loop-d
invariant-loop-d l = l.all ≡ filled (descriptor_of l.state l.t) (replicate 16 no_descriptor) l.d
