-- `state::readers::own_excess` meets its contract.
use Rattle.buffers.{specs.Below.below}
use Rattle.standings.specs.Table.{advance, offset_of}
use Rattle.state.specs.{Layout.transaction_of, StoreMeaning.standing_at}
use lib.Dec.{leb, eqb}
use mathlib.Core.{Bool.◌&&◌, Path.{◌≡◌}}
use Rattle.state.proofs.readers.own_excess.Given as goal

abbrev pub invariant-loop-d : goal.invariant-loop-d
invariant-loop-d l = (eqb l.bad 0 ≡ below (λ e. leb
    (advance (standing_at (transaction_of l.state l.t) e)) l.most && leb (offset_of (standing_at (transaction_of l.state l.t) e)) l.most) l.d)
