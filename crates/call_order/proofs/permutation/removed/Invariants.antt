-- `call_order::permutation::removed` meets its contract. The loop's invariant: the numbers up to j have moved up.
use mathlib.Core.{Path.◌≡◌}
use lib.ListN.{length}
use Rattle.limits.specs.Limits.{transaction_count}
use Rattle.call_order.proofs.ArrangeLaws.{moved}
use Rattle.call_order.proofs.permutation.removed.Given as goal

abbrev pub invariant-loop-j : goal.invariant-loop-j
invariant-loop-j l = (l.rest ≡ moved l.q l.initial.rest l.j) × (length l.initial.rest ≡ transaction_count)
