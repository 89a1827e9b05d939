-- The first k writes, put back into the files as they are, give what all writes give, put back into the files
-- as they were lent.
use mathlib.Core.{Path.{◌≡◌}}
use lib.ListN.{length}
use Rattle.limits.specs.Limits.{buffer_bytes}
use Rattle.state.specs.{Journal.last_grant, Layout.{store_of, journal_of}}
use Rattle.admission.specs.Admission.{lengths_before}
use Rattle.spec_undo.specs.OldBytes.{restored}
use Rattle.spec.specs.Undo.{landed_on}
use Rattle.call_undo.proofs.RestoreLaws.{first_spans}
use Rattle.call_undo.proofs.restore.restore_bytes.Given as goal

abbrev pub invariant-loop-k : goal.invariant-loop-k
invariant-loop-k l = let s = store_of l.state in let j = journal_of l.state in
    (l.end ≡ lengths_before j last_grant l.k)
    × (restored (first_spans s j l.k) l.undo l.files ≡ restored (landed_on s j) l.undo l.initial.files) × (length l.files ≡ buffer_bytes)
