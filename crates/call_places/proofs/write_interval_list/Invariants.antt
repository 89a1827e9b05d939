-- `call_places::write_interval_list` meets its contract. The loop's invariant: some intervals and those from p on are the list,
-- and the pairs of the former are written. Assumes nothing.
use mathlib.Core.{List.{List}, Path.{◌≡◌}}
use Prim.Native.Nat.{◌-◌, ◌*◌, ◌≤◌}
use lib.ListN.{length}
use Rattle.limits.specs.Limits.{file_bytes}
use Rattle.buffers.specs.Parts.{pasted}
use Rattle.spec.specs.Places.{encoded, Interval as Listed}
use Rattle.read_lookup.specs.Lookup.{recorded_in}
use Rattle.call_places.specs.PlacesCall.{covered_at}
use Rattle.call_places.proofs.ListLaws.{Listing}
use Rattle.call_places.proofs.write_interval_list.Given as goal

abbrev pub invariant-loop-p : goal.invariant-loop-p
invariant-loop-p l =
    (l.p ≤ file_bytes) × (length l.out ≡ length l.initial.out) × (m : List Listed) × (4 * length m ≡ l.at) × Listing
    (covered_at (recorded_in l.records.state.now) l.records.t l.records.used.records l.f) l.p m × (l.out ≡ pasted l.initial.out 0 (encoded m))

abbrev pub decreases-loop-p : goal.decreases-loop-p
decreases-loop-p l = file_bytes - l.p
