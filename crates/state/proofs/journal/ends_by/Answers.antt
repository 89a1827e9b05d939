-- `state::journal::ends_by` meets its contract.
use mathlib.Core.Path.{ap₂}
use Prim.Native.Nat.{◌+◌}
use native.Mathlib.Omega.{arith}
use Rattle.state.proofs.ReaderLaws.{placed-ends}
use Rattle.state.proofs.journal.ends_by.Goals as goal

pub returns-then-h-lt-DESCRIPTORS : goal.returns-then-h-lt-DESCRIPTORS
returns-then-h-lt-DESCRIPTORS c = placed-ends _ _ _ (omega arith) (omega arith) _ _ _ c.from-h.ensures
    (ap₂ ◌+◌ c.from.ensures c.from-2.ensures) c.if-h-lt-DESCRIPTORS.true
