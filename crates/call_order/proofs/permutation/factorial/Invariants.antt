-- `call_order::permutation::factorial` meets its contract. The loop's invariant: the product is k!.
use mathlib.Core.Path.{◌≡◌}
use Rattle.spec_orders.specs.Orders.{factorial}
use Rattle.call_order.proofs.permutation.factorial.Given as goal

abbrev pub invariant-loop-k : goal.invariant-loop-k
invariant-loop-k l = l.product ≡ factorial l.k
