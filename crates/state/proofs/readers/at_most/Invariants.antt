-- `state::readers::at_most` meets its contract.
use Rattle.buffers.specs.Below.{below}
use lib.{Dec.leb, ListN.get_or}
use mathlib.Core.Path.{◌≡◌}
use Rattle.state.proofs.readers.at_most.Given as goal

abbrev pub invariant-loop-n : goal.invariant-loop-n
invariant-loop-n l = l.good ≡ below (λ k. leb (get_or l.numbers k 0) l.most) l.n-index
