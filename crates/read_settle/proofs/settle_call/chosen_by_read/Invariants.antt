-- `settle_call::chosen_by_read` meets its contract. The loop's invariant: those below `e` that wait are chosen.
use mathlib.Core.{Bool.{false}, Path.{◌≡◌}}
use lib.{ListN.{replicate}}
use Rattle.state.specs.{Layout.{transaction_of, store_of}}
use Rattle.state.proofs.Filled.{filled}
use Rattle.read_settle.proofs.ChoiceLaws.{waiting_of}
use Rattle.read_settle.proofs.settle_call.chosen_by_read.Given as goal

abbrev pub invariant-loop-e : goal.invariant-loop-e
invariant-loop-e l =
    l.chosen ≡ filled (waiting_of (store_of l.state).filenumbers (transaction_of l.state l.t) l.d) (replicate 16 false) l.e
