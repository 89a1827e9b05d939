-- `read_settle::any_waits` meets its contract. The loop's invariant: where none was found, none below `e` waits.
use mathlib.Core.{Bool.{true, false}, Path.{◌≡◌}}
use Prim.Native.Nat.{ℕ, ◌<◌}
use Rattle.standings.specs.Table.{read_settles}
use Rattle.state.specs.{StoreMeaning.standing_at, Layout.transaction_of}
use Rattle.read_settle.proofs.any_waits.Given as goal

abbrev pub invariant-loop-e : goal.invariant-loop-e
invariant-loop-e l = l.found ≡ false → (k : ℕ) → k < l.e
    → read_settles true false (standing_at (transaction_of l.state l.t) k) ≡ false
