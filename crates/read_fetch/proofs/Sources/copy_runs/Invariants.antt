-- `read_fetch::Sources::copy_runs` meets its contract. The loop's invariant: the contract's definitions at the i bytes copied. Assumes
-- nothing.
use mathlib.Core.Path.{◌≡◌}
use Prim.Native.Nat.{◌-◌, ◌≤◌}
use lib.ListN.{length}
use Rattle.buffers.specs.Parts.{pasted}
use Rattle.read_lookup.specs.Lookup.{recorded_in, extent}
use Rattle.read_fetch.specs.Fetch.{bytes_read, marks_after}
use Rattle.read_fetch.proofs.Sources.copy_runs.Given as goal

abbrev pub invariant-loop-i : goal.invariant-loop-i
invariant-loop-i l =
    (l.i ≤ l.e.length) × (length l.marks ≡ length l.initial.marks) × (length l.reader ≡ length l.initial.reader)
    × (l.reader ≡ pasted l.initial.reader 0 (bytes_read (recorded_in l.self.records.state.now) l.self.records.t l.self.records.used.records l.self.log.now l.self.file.now (extent l.e.file l.e.place l.i)))
    × (l.marks ≡ marks_after (recorded_in l.self.records.state.now) l.self.records.t l.self.records.used.records l.self.log.now l.self.file.now (extent l.e.file l.e.place l.i) l.initial.marks)

abbrev pub decreases-loop-i : goal.decreases-loop-i
decreases-loop-i l = l.e.length - l.i
