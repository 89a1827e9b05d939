-- `call_order::admit_list::has_unplaced` meets its contract. The loop's invariant: each of the first k records has a place.
use mathlib.Core.{Bool.{Bool, false}, List.List, Path.◌≡◌}
use Prim.Native.Nat.{ℕ}
use Rattle.state.specs.{Journal.write_record_at, Layout.journal_of}
use Rattle.admission.specs.FirstRefusal.{some_below}
use Rattle.spec.specs.Places.{no_place}
use Rattle.call_order.proofs.admit_list.has_unplaced.Given as goal

abbrev pub unplaced-at : List ℕ → ℕ → ℕ → Bool
unplaced-at state t k = no_place (write_record_at (journal_of state) t k).place

abbrev pub invariant-loop-k : goal.invariant-loop-k
invariant-loop-k l = some_below (unplaced-at l.state l.t) l.k ≡ false
