-- A Write of more bytes than a line holds.
use mathlib.Core.{Bool.{Bool, true, false, cond}, List.{List, []}, Path.{◌≡◌, refl, sym, ap, ◌∙◌}}
use Prim.Native.Nat.{ℕ, ◌+◌, ◌≤◌, ◌<◌}
use native.Mathlib.Omega.{arith}
use lib.{Dec.leb, ListN.{length, take}, Seq.length-take-le}
use borrow.Author.Tests.{lt-leb}
use Rattle.text_log.specs.LogLines.{most_written}
use Rattle.limits.specs.Limits.{file_bytes, last_descriptor, log_bytes}
use Rattle.spec.specs.{Machine.{Machine, txn_of, values}, Transactions.Txn, Items.{Item, done, asked, result}}
use Rattle.spec.specs.Steps.{refuse, check, write_step, step, refused_stale, refuses_stale, is_read_call}
use Rattle.spec.specs.{Calls.{call, step_turn, served, refuse_turn, Turn, admitted}, Messages.{on, Op, write, buffer_of}}
use Rattle.standings.specs.Table.{place_number, write_place}

-- A Write of more than 4,096 bytes is refused: by its descriptor, otherwise by its length.
too_long : (d : ℕ) (bytes : List ℕ) (x : Txn) → log_bytes < length bytes
    → write_step d bytes x ≡ check (leb d last_descriptor) 6 (done (refuse 9))
unfolding write_step check
too_long d bytes x h = rw (lt-leb (place_number (write_place (x.standing d)) + length bytes) file_bytes (omega arith))

served-refused : (t : ℕ) (o : Op) (m : Machine) (v : Item → ℕ) (b : Bool) → served t o m (asked v
    (check b 6 (done (refuse 9)))) (result v (check b 6 (done (refuse 9)))) ≡ refuse_turn (cond b 9 6) (buffer_of o) m
unfolding served check asked result
served-refused t o m v true = refl
served-refused t o m v false = refl

refused-long : (t d : ℕ) (bytes : List ℕ) (m : Machine) → log_bytes < length bytes → step_turn t (write d bytes) m
    ≡ refuse_turn (cond (leb d last_descriptor) 9 6) [] m
unfolding step_turn step refused_stale refuses_stale is_read_call buffer_of
refused-long t d bytes m h = rw (too_long d bytes (txn_of m.store m.journal m.logs t) h)
    (served-refused t (write d bytes) m (values m.store m.files) (leb d last_descriptor))

pub clipped : (t d : ℕ) (bytes : List ℕ) (m : Machine) → most_written ≤ length bytes
    → call (on t (write d bytes)) m ≡ call (on t (write d (take most_written bytes))) m
clipped t d bytes m h = unfold call buffer_of in let l = length-take-le 4097 bytes h in
    ap (λ (x : Turn). admitted t [] m x) (refused-long t d bytes m h
    ∙ sym (refused-long t d (take 4097 bytes) m (omega arith)))
