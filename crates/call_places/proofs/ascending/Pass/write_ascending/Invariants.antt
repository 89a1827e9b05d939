-- `call_places::ascending::Pass::write_ascending` meets its contract. The loop's invariant: s is what a pass over the first k records
-- meets, and the pairs of their list are written. Assumes nothing.
use mathlib.Core.{List.List, Path.{◌≡◌}}
use Prim.Native.Nat.{ℕ}
use lib.ListN.{length}
use Rattle.buffers.specs.Parts.{pasted}
use Rattle.spec.specs.Places.{encoded, intervals_of}
use Rattle.read_lookup.specs.Lookup.{recorded_in}
use Rattle.call_places.specs.{PlacesCall.covered_at}
use Rattle.call_places.specs.Ascending.{swept_in}
use Rattle.call_places.proofs.ascending.Pass.write_ascending.Given as goal

-- The buffer with the pairs of the list of the first k records.
abbrev pub written : List ℕ → ℕ → ℕ → List ℕ → ℕ → List ℕ
written state t f out k = pasted out 0 (encoded (intervals_of (covered_at (recorded_in state) t k f)))

abbrev pub invariant-loop-k : goal.invariant-loop-k
invariant-loop-k l =
    (length l.out ≡ length l.initial.out) × (l.s ≡ swept_in (recorded_in l.self.records.state.now) l.self.records.t l.self.file l.k)
    × (l.out ≡ written l.self.records.state.now l.self.records.t l.self.file l.initial.out l.k)
