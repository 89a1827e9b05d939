-- `call_order::admit_list::is_list` meets its contract. The loop's invariant: what is left to test is the rest of the list.
use Rattle.call_order.proofs.ListLaws.{DistinctLeft}
use Rattle.call_order.proofs.admit_list.is_list.Given as goal

abbrev pub invariant-loop-k : goal.invariant-loop-k
invariant-loop-k l = DistinctLeft l.list l.k
