-- The files are those of the records landed so far, and the bytes that these landed on stand at the front of
-- the undo buffer.
use mathlib.Core.{Path.{◌≡◌}}
use lib.ListN.{length}
use Prim.Native.Nat.{◌+◌}
use Rattle.limits.specs.Limits.{buffer_bytes, undo_bytes}
use Rattle.state.specs.Layout.{journal_of}
use Rattle.spec.specs.{Machine.data_start, Calls.land_files}
use Rattle.commit_apply.specs.{Apply.bytes_set_in}
use Rattle.commit_apply.proofs.SaveUndoLaws.{OldSoFar}
use Rattle.commit_apply.proofs.writes.land_writes.Given as goal

abbrev pub invariant-loop-k : goal.invariant-loop-k
invariant-loop-k l =
    (l.files ≡ land_files (bytes_set_in l.state l.logs l.t l.k) l.initial.files) × (l.log + l.done ≡ data_start (journal_of l.state) l.t l.k)
    × (length l.files ≡ buffer_bytes) × OldSoFar l.state l.logs l.initial.files l.files l.initial.undo l.undo l.t l.k l.done × (length l.undo ≡ undo_bytes)
