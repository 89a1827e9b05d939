-- `admission::grant_in` meets its contract.
use mathlib.Core.{Bool.true, Path.{◌≡◌}}
use Prim.Native.Nat.{◌*◌, ◌≤◌}
use Rattle.state.specs.{Layout.journal_of, Journal.{write_record_at, last_grant}}
use Rattle.admission.specs.{FirstRefusal.below, Admission.{landed_in, lengths_before}}
use Rattle.admission.proofs.grant_in.Given as goal

abbrev pub invariant-loop-k : goal.invariant-loop-k
invariant-loop-k l = (below (λ j. landed_in (write_record_at (journal_of l.state) last_grant
    j)) l.k ≡ true) × (l.sum ≡ lengths_before (journal_of l.state) last_grant l.k) × (l.sum ≤ 65535 * l.k)
