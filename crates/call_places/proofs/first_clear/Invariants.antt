-- `call_places::first_clear` meets its contract. The loop's invariant: the places from p to q are covered. Assumes nothing.
use mathlib.Core.{Bool.true, Path.{◌≡◌}}
use Prim.Native.Nat.{ℕ, ◌-◌, ◌≤◌, ◌<◌}
use Rattle.limits.specs.Limits.{file_bytes}
use Rattle.read_lookup.specs.Lookup.{recorded_in}
use Rattle.call_places.specs.PlacesCall.{covered_at}
use Rattle.call_places.proofs.first_clear.Given as goal

abbrev pub invariant-loop-q : goal.invariant-loop-q
invariant-loop-q l = (l.p ≤ l.q) × (l.q ≤ file_bytes)
    × ((i : ℕ) → l.p ≤ i → i < l.q → covered_at (recorded_in l.records.state.now) l.records.t l.records.used.records l.f i ≡ true)

abbrev pub decreases-loop-q : goal.decreases-loop-q
decreases-loop-q l = file_bytes - l.q
