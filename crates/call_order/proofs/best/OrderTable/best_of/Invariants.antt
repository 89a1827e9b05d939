-- `call_order::best::OrderTable::best_of` meets its contract. The loop's invariant: the best of the first i orders, and zeros after it.
use mathlib.Core.Path.{◌≡◌}
use lib.ListN.{length, take}
use Rattle.call_order.specs.OrderTable.{grants_by_table, ZerosAfter}
use Rattle.call_order.proofs.BestLaws.{best_first}
use Rattle.call_order.proofs.best.OrderTable.best_of.Given as goal

abbrev pub invariant-loop-i : goal.invariant-loop-i
invariant-loop-i l =
    let best = best_first (grants_by_table l.state l.self) l.list.numbers.now l.i in
    (take (length l.list.numbers.now) l.best.order ≡ best.order) × (l.best.grants ≡ best.grants) × ZerosAfter (length l.list.numbers.now) l.best.order
