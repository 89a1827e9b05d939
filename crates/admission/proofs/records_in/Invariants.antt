-- `admission::records_in` meets its contract.
use Rattle.admission.specs.{FirstRefusal.below, Admission.{record_in, lengths_before}}
use Rattle.state.specs.{Layout.{transaction_of, journal_of}, Journal.write_record_at}
use mathlib.Core.{Bool.true, Path.{◌≡◌}}
use Prim.Native.Nat.{◌*◌, ◌≤◌}
use Rattle.admission.proofs.records_in.Given as goal

abbrev pub invariant-loop-k : goal.invariant-loop-k
invariant-loop-k l = (below (λ j. record_in (transaction_of l.state l.t)
    (write_record_at (journal_of l.state) l.t j)) l.k ≡ true) × (l.sum ≡ lengths_before (journal_of l.state) l.t l.k) × (l.sum ≤ 65535 * l.k)
