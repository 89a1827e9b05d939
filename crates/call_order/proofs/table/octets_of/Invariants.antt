-- `call_order::table::octets_of` meets its contract. The loop's invariant: the members passed have their octets.
use mathlib.Core.{List.List, Path.◌≡◌}
use lib.ListN.{length}
use Prim.Native.Nat.{ℕ}
use Rattle.limits.specs.Limits.{buffer_bytes}
use Rattle.spec.specs.Promises.{machine_of}
use Rattle.commit_conflicts.specs.Conflicts.{stale_by}
use Rattle.call_order.proofs.TableLoops.{FilledFor}
use Rattle.call_order.proofs.table.octets_of.Given as goal

abbrev pub invariant-loop-member : goal.invariant-loop-member
invariant-loop-member l = (length l.table ≡ 8) × ((files logs undo : List ℕ) → length logs ≡ buffer_bytes
    → FilledFor (stale_by (machine_of l.state files logs l.marks undo)) l.list.numbers.now l.table l.member-index)
