-- `room` meets its contract: each answer by the tests that led there.
use borrow.Author.{Tests.{le-leb, lt-leb}}
use native.Mathlib.Omega.{arith}
use Prim.Native.Nat.{◌+◌}
use Rattle.limits.specs.Limits.{file_bytes, record_count, log_bytes}
use Rattle.standings.specs.Table.{place_number}
use Rattle.admission.specs.{Admission.gate_number, FirstRefusal.unless}
use Rattle.call_write.specs.Writes.{write_refusal}
use Rattle.call_write.proofs.write_call.room.Goals as goal

pub returns-then-from-n : goal.returns-then-from-n
unfolding gate_number unless write_refusal
returns-then-from-n c = let a = c.args in rw (lt-leb (place_number a.place + a.n) file_bytes (omega arith))

pub returns-then-used-ge-RECORDS : goal.returns-then-used-ge-RECORDS
unfolding gate_number unless write_refusal
returns-then-used-ge-RECORDS c =
    let a = c.args in
    rw (le-leb (place_number a.place + a.n) file_bytes (omega arith), lt-leb (a.used.records + 1) record_count (omega arith))

pub returns-then-from-n-2 : goal.returns-then-from-n-2
unfolding gate_number unless write_refusal
returns-then-from-n-2 c = let a = c.args in rw (
  le-leb (place_number a.place + a.n) file_bytes (omega arith),
  le-leb (a.used.records + 1) record_count (omega arith),
  lt-leb (a.used.bytes + a.n) log_bytes (omega arith),
)

pub returns : goal.returns
unfolding gate_number unless write_refusal
returns c = let a = c.args in rw (
  le-leb (place_number a.place + a.n) file_bytes (omega arith),
  le-leb (a.used.records + 1) record_count (omega arith),
  le-leb (a.used.bytes + a.n) log_bytes (omega arith),
)
