-- `call_order::pass::grants_passing` meets its contract. The loop's invariant: what is left to pass is the rest of the order.
use mathlib.Core.Path.{◌≡◌}
use lib.ListN.{drop}
use Prim.Native.Nat.{◌≤◌}
use Rattle.call_order.{specs.{OrderStatements.pass_all, OrderTable.row}, proofs.PassLaws.short}
use Rattle.call_order.proofs.best.OrderTable.grants_passing.Given as goal

abbrev pub invariant-loop-member : goal.invariant-loop-member
invariant-loop-member l = (l.grants ≤ l.member-index) × (pass_all (row l.self.table) (drop l.member-index l.order.numbers.now)
    (short l.skipped l.grants) ≡ pass_all (row l.self.table) l.order.numbers.now (short l.self.closed 0))
