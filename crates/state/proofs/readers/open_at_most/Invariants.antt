-- `state::readers::open_at_most` meets its contract.
use Rattle.limits.specs.Limits.{descriptor_count}
use Rattle.buffers.{specs.Below.below}
use Rattle.standings.specs.Table.{advance, offset_of}
use Rattle.state.specs.{Layout.transaction_of, StoreMeaning.standing_at}
use lib.Dec.{leb, eqb}
use mathlib.Core.{Bool.{not, ◌&&◌, ◌||◌}, Path.{◌≡◌}}
use Rattle.state.proofs.readers.open_at_most.Given as goal

abbrev pub invariant-loop-t : goal.invariant-loop-t
invariant-loop-t l = (eqb l.bad 0 ≡ below
    (λ u. not (transaction_of l.state u).begun || (leb (transaction_of l.state u).used.records l.records && leb
    (transaction_of l.state u).used.bytes l.bytes && below (λ d. leb (advance (standing_at (transaction_of l.state u) d))
    l.most && leb (offset_of (standing_at (transaction_of l.state u) d)) l.most) descriptor_count)) l.t)
