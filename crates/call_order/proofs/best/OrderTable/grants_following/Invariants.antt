-- `call_order::follow::grants_following` meets its contract. The loop's invariant: what is left to follow is the rest of the
-- order.
use mathlib.Core.{List.List, Path.◌≡◌}
use lib.ListN.{drop}
use Prim.Native.Nat.{ℕ, ◌≤◌}
use Rattle.buffers.specs.Marks.{contains}
use Rattle.state.specs.Layout.{store_of}
use Rattle.call_order.specs.OrderStatements.{Pass, follow_all}
use Rattle.call_order.specs.OrderTable.{row, descriptors_in, pass_of}
use Rattle.call_order.proofs.best.OrderTable.grants_following.Given as goal

abbrev pub follow : List ℕ → ℕ → List ℕ → List ℕ → Pass → Pass
follow state shut table o p = follow_all (row table) (contains shut) (descriptors_in state) o p

abbrev pub begin : List ℕ → Pass
begin state = record { stale = 0; offsets = (store_of state).offsets; grants = 0 }

abbrev pub invariant-loop-member : goal.invariant-loop-member
invariant-loop-member l = (l.p.grants ≤ l.member-index) × (follow l.state l.self.closed l.self.table
    (drop l.member-index l.order.numbers.now) (pass_of l.p) ≡ follow l.state l.self.closed l.self.table l.order.numbers.now (begin l.state))
