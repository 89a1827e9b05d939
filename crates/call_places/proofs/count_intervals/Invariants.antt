-- `call_places::count_intervals` meets its contract. The loop's invariant: n intervals and those from p on are the list. Assumes
-- nothing.
use mathlib.Core.{List.{List}, Path.{◌≡◌}}
use Prim.Native.Nat.{◌-◌, ◌≤◌}
use lib.ListN.{length}
use Rattle.limits.specs.Limits.{file_bytes}
use Rattle.spec.specs.Places.{Interval as Listed}
use Rattle.read_lookup.specs.Lookup.{recorded_in}
use Rattle.call_places.specs.PlacesCall.{covered_at}
use Rattle.call_places.proofs.ListLaws.{Listing}
use Rattle.call_places.proofs.count_intervals.Given as goal

abbrev pub invariant-loop-p : goal.invariant-loop-p
invariant-loop-p l = (l.p ≤ file_bytes) × (l.n ≤ l.p) × (m : List Listed) × (length m ≡ l.n)
    × Listing (covered_at (recorded_in l.records.state.now) l.records.t l.records.used.records l.f) l.p m

abbrev pub decreases-loop-p : goal.decreases-loop-p
decreases-loop-p l = file_bytes - l.p
