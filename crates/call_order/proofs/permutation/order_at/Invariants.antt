-- `call_order::permutation::order_at` meets its contract. The loop's invariant: the first k numbers of the order are found, and
-- the others are order number `left` of those that rest; after its first n numbers the array is as at first.
use mathlib.Core.{List.◌++◌, Path.◌≡◌}
use lib.ListN.{length, take, drop}
use Prim.Native.Nat.{◌-◌, ◌<◌}
use Rattle.limits.specs.Limits.{transaction_count}
use Rattle.spec_orders.specs.{Orders.factorial, Numbering.order_at}
use Rattle.call_order.proofs.permutation.order_at.Given as goal

abbrev pub invariant-loop-k : goal.invariant-loop-k
invariant-loop-k l = (l.left < factorial (length l.list.numbers.now - l.k)) × (length l.order ≡ transaction_count)
    × (take l.k l.order ++ order_at (length l.list.numbers.now - l.k) l.left (take (length l.list.numbers.now - l.k) l.rest)
    ≡ order_at (length l.list.numbers.now) l.i l.list.numbers.now) × (drop (length l.list.numbers.now) l.order ≡ drop (length l.list.numbers.now) l.initial.order)
