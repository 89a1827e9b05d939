-- `state::readers::all_use_at_most` meets its contract.
use Rattle.buffers.{specs.Below.below}
use Rattle.state.specs.Layout.{transaction_of}
use lib.Dec.{leb}
use mathlib.Core.{Bool.{not, ◌&&◌, ◌||◌}, Path.◌≡◌}
use Rattle.state.proofs.readers.all_use_at_most.Given as goal

abbrev pub invariant-loop-t : goal.invariant-loop-t
invariant-loop-t l = (l.good ≡ below (λ u. not (transaction_of l.state
    u).begun || (leb (transaction_of l.state u).used.records l.records && leb (transaction_of l.state u).used.bytes l.bytes)) l.t)
