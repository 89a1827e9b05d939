-- `read_lookup::Records::latest_write` meets its contract. The loop's invariant: so many write records are left to visit, and their data
-- end where those of the visited ones start. Assumes nothing.
use mathlib.Core.{Path.{◌≡◌}}
use Prim.Native.Nat.{◌≤◌}
use Rattle.state.specs.{Layout.{journal_of}}
use Rattle.admission.specs.Admission.{lengths_before}
use Rattle.read_lookup.specs.Lookup.{recorded_in}
use Rattle.read_lookup.proofs.RunLaws.{Walked}
use Rattle.read_lookup.proofs.Records.latest_write.Given as goal

abbrev pub invariant-loop-k : goal.invariant-loop-k
invariant-loop-k l = (l.start ≤ l.initial.start)
    × (lengths_before (journal_of l.self.state.now) l.self.t l.k ≡ l.start) × Walked (recorded_in l.self.state.now) l.self.t l.self.used.records l.e l.k l.length
