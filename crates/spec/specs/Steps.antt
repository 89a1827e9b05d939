-- One transaction's step: Seek, Write, GetFilePointer and Read, with refusals 6 to 12 in the table's order.
-- What an accepted step asks for, in order, is its list of sightings.
use Rattle.std.specs.Prelude.{Bool, true, false, cond, ◌&&◌, List, [], ◌∷◌, ◌++◌, leb, eqb, length, drop, ℕ, ◌+◌}
use Rattle.limits.specs.Limits.{file_bytes, descriptor_count, last_descriptor, record_count, log_bytes}
use Rattle.standings.specs.Table.{place_number}
use Rattle.admission.specs.FirstRefusal.{guarded}
use Rattle.state.specs.Outcomes.{Said, done_answer, pointer, given}
use Rattle.spec.specs.Messages.{Op, seek, write, get_file_pointer, read}
use Rattle.spec.specs.Items.{Prog, done, and_then}
use Rattle.standings.specs.Table.{after_seek, after_write, after_read, pointer_settles, read_settles, offset_of}
use Rattle.standings.specs.Table.{write_place}
use Rattle.spec.specs.Transactions.{Txn, Write, through, with_writes, dirtied, those, Settled, past, all}
use Rattle.spec.specs.Transactions.{settling}
use Rattle.spec.specs.Reading.{gather}

-- A step is refused, or accepted: the transaction after it, the answer, and the reader's buffer.
pub data Stepped : Type 0 where
  refuse : ℕ → Stepped
  accept : Txn → Said → List ℕ → Stepped

-- Goes on where a test holds, otherwise refuses with the number.
unfoldable pub check : Bool → ℕ → Prog Stepped → Prog Stepped
check ok n next = guarded (λ k. done (refuse k)) ok n next

-- "A settling that fails is given back before any byte is fetched." [R-4.5]
unfoldable pub or_given_back : (Txn → Prog Stepped) → Settled → Prog Stepped
or_given_back next past = done (refuse 12)
or_given_back next (all x) = next x

-- The data bytes that writes use in the log.
unfoldable pub total : List Write → ℕ
total [] = 0
total (w ∷ ws) = length w.bytes + total ws

unfoldable pub written : ℕ → List ℕ → Txn → Txn
written d bytes x =
    with_writes (x.writes ++ (through d (write_place (x.standing d)) bytes ∷ []))
    (dirtied d (after_write (length bytes) (x.standing d)) x)

unfoldable pub seek_step : ℕ → ℕ → Txn → Prog Stepped
seek_step d v x =
    check (leb d last_descriptor) 6
    (check (leb v file_bytes) 8
    (done (accept (dirtied d (after_seek v (x.standing d)) x) done_answer [])))

-- 9: "Write whose offset, or advance while Deferred or Untouched (0), plus length is above 4,096" [R-16.1].
-- 10: "Write as 65th record" [R-16.1]. 11: "Write taking the log's data above 4,096" [R-16.1]. "A write of 0
-- bytes uses a record." [R-16.3]
unfoldable pub write_step : ℕ → List ℕ → Txn → Prog Stepped
write_step d bytes x =
    check (leb d last_descriptor) 6
    (check (leb (place_number (write_place (x.standing d)) + length bytes) file_bytes) 9
    (check (leb (length x.writes + 1) record_count) 10
    (check (leb (total x.writes + length bytes) log_bytes) 11
    (done (accept (written d bytes x) done_answer [])))))

unfoldable pub pointer_step : ℕ → Txn → Prog Stepped
pointer_step d x =
    check (leb d last_descriptor) 6
    (and_then (settling (cond (pointer_settles (x.standing d)) (d ∷ []) []) x)
    (or_given_back (λ y. done (accept y (pointer (offset_of (y.standing d))) []))))

-- The descriptors that a Read through d settles, "in ascending number" [R-4.4].
unfoldable pub settled_by_read : (ℕ → ℕ) → ℕ → Txn → List ℕ
settled_by_read file_of d x =
    those (λ e. read_settles (eqb (file_of e) (file_of d)) (eqb e d) (x.standing e)) descriptor_count

-- "A Read of n bytes gives the smaller of n and 4,096 less the offset" [R-6.2]: since F-8 the transaction's
-- length less the offset. "copied to the front of the reader's buffer. The rest of that buffer is left."
-- [R-6.4]
unfoldable pub read_settled : (ℕ → ℕ) → ℕ → ℕ → List ℕ → Txn → Prog Stepped
read_settled file_of d n buffer y =
    and_then (gather file_of y.writes (file_of d) (offset_of (y.standing d)) n)
    (λ bytes.
    let m = length bytes in
    done (accept (dirtied d (after_read m (y.standing d)) y) (given m) (bytes ++ drop m buffer)))

-- 7: "Read of more bytes than the reader's buffer has" [R-16.1].
unfoldable pub read_step : (ℕ → ℕ) → ℕ → ℕ → List ℕ → Txn → Prog Stepped
read_step file_of d n buffer x =
    check (leb d last_descriptor) 6
    (check (leb n (length buffer)) 7
    (and_then (settling (settled_by_read file_of d x) x) (or_given_back (read_settled file_of d n buffer))))

-- The step of each call, given each descriptor's file.
unfoldable pub step : (ℕ → ℕ) → Op → Txn → Prog Stepped
step file_of (seek d v) x = seek_step d v x
step file_of (write d bytes) x = write_step d bytes x
step file_of (get_file_pointer d) x = pointer_step d x
step file_of (read d n buffer) x = read_step file_of d n buffer x

-- The descriptor of a call, and whether it is a read call: "Read and GetFilePointer" [R-8.2] (F-6).
unfoldable pub descriptor_of_op : Op → ℕ
descriptor_of_op (seek d v) = d
descriptor_of_op (write d bytes) = d
descriptor_of_op (get_file_pointer d) = d
descriptor_of_op (read d n buffer) = d

unfoldable pub is_read_call : Op → Bool
is_read_call (seek d v) = false
is_read_call (write d bytes) = false
is_read_call (get_file_pointer d) = true
is_read_call (read d n buffer) = true

-- F-6, "Read and GetFilePointer of a stale transaction are now refused" [R-8.2]; "18 when the transaction is
-- stale, after 6 and before 7" [R-16.1]: of a read call, through a descriptor that passes 6.
unfoldable pub refuses_stale : Bool → Op → Bool
refuses_stale stale o = is_read_call o && stale && leb (descriptor_of_op o) last_descriptor

-- .. whatever else the step comes to. Runs in isolation are made of steps alone: nothing is stale there.
unfoldable pub refused_stale : Bool → Op → Stepped → Stepped
refused_stale stale o s = cond (refuses_stale stale o) (refuse 18) s
