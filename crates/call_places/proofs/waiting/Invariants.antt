-- `call_places::waiting` meets its contract. The loop's invariant: none of the first k records waits. Assumes nothing.
use mathlib.Core.{Bool.{Bool, false}, List.List, Path.{◌≡◌}}
use Prim.Native.Nat.{ℕ}
use Rattle.state.specs.{Journal.write_record_at, Layout.{store_of, journal_of}}
use Rattle.admission.{specs.FirstRefusal.some_below}
use Rattle.call_places.specs.PlacesCall.{waits_on}
use Rattle.call_places.proofs.waiting.Given as goal

-- Record i of the transaction waits.
abbrev pub waits-at : List ℕ → ℕ → ℕ → ℕ → Bool
waits-at state t f i = waits_on (store_of state).filenumbers f (write_record_at (journal_of state) t i)

abbrev pub invariant-loop-k : goal.invariant-loop-k
invariant-loop-k l = some_below (waits-at l.records.state.now l.records.t l.f) l.k ≡ false
