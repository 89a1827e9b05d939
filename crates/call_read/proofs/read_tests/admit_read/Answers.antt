-- `admit_read` meets its contract: each answer by the tests that led there.
use borrow.Author.Tests.{le-leb, lt-leb}
use Rattle.admission.specs.{Admission.gate_number, FirstRefusal.unless}
use Rattle.call_read.proofs.read_tests.admit_read.Goals as goal

pub returns-then-d-gt-LAST_DESCRIPTOR : goal.returns-then-d-gt-LAST_DESCRIPTOR
returns-then-d-gt-LAST_DESCRIPTOR c = unfold gate_number unless in rw (lt-leb _ _ c.if-d-gt-LAST_DESCRIPTOR.true)

pub returns-then-stale : goal.returns-then-stale
returns-then-stale c = unfold gate_number unless in rw (le-leb _ _ c.if-d-gt-LAST_DESCRIPTOR.false, c.if-stale.true)

pub returns-then-room-n : goal.returns-then-room-n
unfolding gate_number unless
returns-then-room-n c = rw (le-leb _ _ c.if-d-gt-LAST_DESCRIPTOR.false, c.if-stale.false, lt-leb _ _ c.if-room-n.true)

pub returns : goal.returns
unfolding gate_number unless
returns c = rw (le-leb _ _ c.if-d-gt-LAST_DESCRIPTOR.false, c.if-stale.false, le-leb _ _ c.if-room-n.false)
