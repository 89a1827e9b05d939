-- The rules of the calls on the state and the buffers: outcome, state, files, logs, marks, undo log and
-- reader's buffer, for every input. The promises of the code cite these.
use Rattle.std.specs.Prelude.{Bool, false, cond, not, ◌&&◌, ◌||◌, List, [], ◌∷◌, eqb, length, set, replicate, ℕ, zero, suc, ◌+◌, ◌*◌}
use Rattle.limits.specs.Limits.{file_count, buffer_bytes, descriptor_count, transaction_count, log_bytes}
use Rattle.windows.specs.Windows.{minute_in, window, fresh_window}
use Rattle.buffers.specs.Parts.{pasted, tabulate}
use Rattle.buffers.specs.Bits.{bits_of, count_of}
use Rattle.buffers.specs.Marks.{has_mark, with_mark, without_marks, contains}
use Rattle.state.specs.declared.StoreMeaning.{StoreMeaning}
use Rattle.state.specs.declared.Transaction.{Transaction}
use Rattle.state.specs.declared.outcomes.Refusal.TheVariants.{Stale}
use Rattle.state.specs.StoreMeaning.{transaction, standing_at, window_at, ended, begun, with_stale, no_undo}
use Rattle.state.specs.StoreMeaning.{store_with, with_offsets, with_lengths, with_windows, with_transactions}
use Rattle.state.specs.StoreMeaning.{with_transaction}
use Rattle.state.specs.Journal.{journal_length}
use Rattle.state.specs.Outcomes.{number, Said, done_answer, granted, refused}
use Rattle.admission.specs.FirstRefusal.{guarded, is_none}
use Rattle.admission.specs.Admission.{first_tests, admission, admission_of_begin, admission_of_fresh}
use Rattle.admission.specs.Admission.{admission_of_window, admission_of_undo}
use Rattle.spec.specs.Items.{Item, byte, offset, file_length, result, asked}
use Rattle.spec.specs.Transactions.{Txn, Write}
use Rattle.standings.specs.Table.{is_known}
use Rattle.spec.specs.Messages.{Op, seek, write, get_file_pointer, read, buffer_of}
use Rattle.spec.specs.Steps.{Stepped, refuse, accept, step, refused_stale}
use Rattle.spec.specs.Places.{places_of}
use Rattle.spec.specs.Windows.{for_closed}
use Rattle.spec.specs.OrderReply.{grants_in, has_unplaced, Asked, order_reply}
use Rattle.spec.specs.Commits.{Setting, settings, fits, landed, commit_refusal}
unfoldable pub use Rattle.spec.specs.Landing.{land_byte, land_files, land_offset, land_offsets}
unfoldable pub use Rattle.spec.specs.Landing.{land_length, land_lengths}
use Rattle.spec.specs.Messages.{Call, begin, on, commit, abort, places, set_window, undo_commit}
use Rattle.spec.specs.Messages.{best_order, Reply, says}
use Rattle.spec.specs.Messages.{TurnOf, replies_to, after_all}
unfoldable pub use Rattle.spec.specs.Messages.{answer_with, refuse_turn}
use Rattle.spec.specs.Machine.{Machine, lent, with_store, with_files, with_marking, sizes}
use Rattle.spec.specs.Machine.{file_of, values, txn_of, with_txn, journalled}
use Rattle.spec.specs.Undo.{saving_undo, undone}

-- A call's reply, and the store after it.
abbrev pub Turn : Type 0
Turn = TurnOf Machine

-- Goes on where no earlier test refuses (0), otherwise refuses the call with the number.
unfoldable pub passing : ℕ → List ℕ → Machine → Turn → Turn
passing n buffer m next = guarded (λ k. refuse_turn k buffer m) (is_none n) n next

-- "Every file byte, mark and offset is 0, nothing is open; the log buffer is left as found." [R-1.6] 02, F-8:
-- a length is "0 when fresh" [R-1.1]. F-11: "Fresh sets all to 0 and 0." [R-11.2] F-13: nothing is saved of a
-- grant, "and Fresh leaves all of it" [R-12.3], the fourth buffer.
unfoldable pub fresh_store : List ℕ → StoreMeaning
fresh_store numbers =
    store_with numbers (replicate descriptor_count 0) (replicate file_count 0) (replicate file_count fresh_window)
    no_undo (replicate transaction_count ended)

unfoldable pub fresh_machine : List ℕ → List ℕ → List ℕ → Machine
fresh_machine numbers logs undo =
    lent (fresh_store numbers) (replicate journal_length 0) (replicate buffer_bytes 0) logs
    (replicate buffer_bytes 0) undo

-- "Fresh takes 16 file numbers and the record at hand, which a refused Fresh hands back." [R-1.6]
unfoldable pub fresh : List ℕ → Machine → Turn
fresh numbers m =
    passing (admission_of_fresh (sizes m) numbers) [] m
    (answer_with done_answer (fresh_machine numbers m.logs m.undo))

-- Transaction t replaced, and its marks cleared.
unfoldable pub reset : ℕ → Transaction → Machine → Machine
reset t x m = with_marking (without_marks t m.marks) (with_store (with_transaction t x m.store) m)

-- "Begin gives an empty log, sixteen Untouched descriptors, no marks, not stale." [R-1.7]
unfoldable pub begin_turn : ℕ → Machine → Turn
begin_turn t m = answer_with done_answer (reset t begun m)

-- "Abort drops log and marks. However it ends, an ended transaction has an empty log, sixteen Untouched
-- descriptors and is not stale; the log bytes stay." [R-10.1]
unfoldable pub abort_turn : ℕ → Machine → Turn
abort_turn t m = answer_with done_answer (reset t ended m)

-- 02, F-9: "a bit for each file byte in the order of the file buffer" [R-2.3], set where transaction t has
-- sighted it: the marks after sightings.
unfoldable pub marked : ℕ → List Item → List ℕ → List ℕ
marked t [] marks = marks
marked t (byte q ∷ is) marks = marked t is (with_mark t q marks)
marked t (offset d ∷ is) marks = marked t is marks
marked t (file_length f ∷ is) marks = marked t is marks

-- "A Write puts its bytes in its log directly after the data used. No other call touches a log byte." [R-2.2]
unfoldable pub logged : ℕ → Op → StoreMeaning → List ℕ → List ℕ
logged t (seek d v) s logs = logs
logged t (write d bytes) s logs = pasted logs (log_bytes * t + (transaction s t).used.bytes) bytes
logged t (get_file_pointer d) s logs = logs
logged t (read d n buffer) s logs = logs

-- Seek, Write, GetFilePointer and Read: an accepted step's transaction is put back, its sightings are marked.
unfoldable pub served : ℕ → Op → Machine → List Item → Stepped → Turn
served t o m is (refuse n) = refuse_turn n (buffer_of o) m
served t o m is (accept y a buffer) =
    record {
      reply = record { answer = a; buffer = buffer };
      after =
          lent (with_txn t y is m.store) (journalled t y.writes m.journal) m.files
          (logged t o m.store m.logs) (marked t is m.marks) m.undo;
    }

unfoldable pub step_turn : ℕ → Op → Machine → Turn
step_turn t o m =
    let v = values m.store m.files in
    let p = step (file_of m.store) o (txn_of m.store m.journal m.logs t) in
    served t o m (asked v p) (refused_stale (transaction m.store t).stale o (result v p))

-- Whether transaction u, as x, has sighted an item: a marked byte, the offset of a descriptor that stands
-- Known, or a length whose bit is set.
unfoldable pub has_sighted : List ℕ → ℕ → Transaction → Item → Bool
has_sighted marks u x (byte q) = has_mark marks u q
has_sighted marks u x (offset d) = is_known (standing_at x d)
has_sighted marks u x (file_length f) = contains x.lengthmarks f

-- "has sighted a byte or offset just set" [R-8.1]; 02, F-8: "a commit that raises a length sets it, and every
-- other open transaction that has sighted it is stale from then on" [R-7.4].
unfoldable pub conflicts : List ℕ → ℕ → Transaction → List Setting → Bool
conflicts marks u x [] = false
conflicts marks u x (s ∷ ss) = has_sighted marks u x s.item || conflicts marks u x ss

-- "Every other open transaction that has sighted a byte or offset just set is stale from then on" [R-8.1]:
-- whether a granted Commit of t, which sets ss, makes u stale that was not so before.
unfoldable pub made_stale : ℕ → List Setting → Machine → ℕ → Bool
made_stale t ss m u =
    let x = transaction m.store u in
    not (eqb u t) && x.begun && not x.stale && conflicts m.marks u x ss

-- Transaction u after it; t has ended.
unfoldable pub after_commit : ℕ → List Setting → Machine → ℕ → Transaction
after_commit t ss m u =
    let x = transaction m.store u in
    cond (eqb u t) ended (with_stale (x.stale || made_stale t ss m u) x)

-- F-4: "an octet with bit t (worth 2 to the power t) for each transaction that this commit made stale and
-- that was not so before" [R-9.9]. Every file byte, offset and length is what the settings leave.
unfoldable pub commit_granted : ℕ → Txn → List Setting → Machine → Turn
commit_granted t x ss m =
    let n = saving_undo x m in
    let v = landed ss (values m.store m.files) in
    let offsets = tabulate (λ d. v (offset d)) (length m.store.offsets) in
    let lengths = tabulate (λ f. v (file_length f)) (length m.store.lengths) in
    let transactions = tabulate (after_commit t ss m) transaction_count in
    record {
      reply = says (granted (bits_of (made_stale t ss m) transaction_count));
      after =
          with_store (with_offsets offsets (with_lengths lengths (with_transactions transactions n.store)))
          (with_files (tabulate (λ q. v (byte q)) (length m.files))
          (with_marking (without_marks t m.marks) n));
    }

-- 13: "it ends as at Abort" [R-9.2]. 12: "everything, the transaction open" [R-16.1]. F-11: "A Commit refused
-- with 21 or 22 keeps its transaction open." [R-9.1]
unfoldable pub commit_decided : ℕ → Txn → List Setting → Machine → ℕ → Turn
commit_decided t x ss m zero = commit_granted t x ss m
commit_decided t x ss m (suc n) =
    record { reply = says (refused (suc n)); after = cond (eqb (suc n) (number Stale)) (reset t ended m) m }

-- What a Commit of t sets if it is granted.
abbrev pub settings_of : Machine → ℕ → List Setting
settings_of m t = settings (file_of m.store) (values m.store m.files)
    (txn_of m.store m.journal m.logs t)

unfoldable pub commit_turn : ℕ → ℕ → Machine → Turn
commit_turn t minute m =
    let s = m.store in
    let x = txn_of s m.journal m.logs t in
    let shut = for_closed (file_of s) (window_at s) minute x.writes in
    commit_decided t x (settings_of m t) m
    (commit_refusal (minute_in minute) (transaction s t).stale shut (fits (values s m.files) x))

-- "Commit answers how many became stale by it that were not so before" [R-9.9]: the former number. F-4: "The
-- old number is the count of ones in that octet." [R-9.9]
unfoldable pub former_number : ℕ → Machine → ℕ
former_number t m = count_of (made_stale t (settings_of m t) m) transaction_count

-- F-1: "A new call lists, for one open transaction and one file, the places its writes cover" [R-15.1]; "a
-- new call changes only what its request says" [R-1.8]: nothing but the buffer for the list.
unfoldable pub places_turn : ℕ → ℕ → List ℕ → Machine → Turn
places_turn t f out m =
    record {
      reply = places_of (file_of m.store) f out
          (txn_of m.store m.journal m.logs t);
      after = m;
    }

-- 02, F-11: "A call sets a window" [R-11.2], and changes nothing else.
unfoldable pub window_turn : ℕ → ℕ → ℕ → Machine → Turn
window_turn f start end m =
    answer_with done_answer
    (with_store (with_windows (set m.store.windows f (window start end)) m.store) m)

-- The shared tests, 1 to 4, on what a caller lends.
unfoldable pub admitted : ℕ → List ℕ → Machine → Turn → Turn
admitted t buffer m next =
    passing (admission (sizes m) m.store m.journal t) buffer m next

-- 02, F-13: the call undoes the last grant, and as every new call "changes only what its request says"
-- [R-1.8] (F-1).
unfoldable pub undo_turn : Machine → Turn
undo_turn m = answer_with done_answer (undone m)

-- A Commit with its shared tests.
abbrev pub commit_call : ℕ → ℕ → Machine → Turn
commit_call t minute m = admitted t [] m (commit_turn t minute m)

-- 02, F-14: what the store is asked at the minute; the Commits of an order are made on this state and these
-- buffers.
unfoldable pub asked_of : ℕ → Machine → Asked
asked_of minute m =
    let s = m.store in
    let writes : ℕ → List Write = λ t. (txn_of s m.journal m.logs t).writes in
    record {
      is_open = λ t. (transaction s t).begun;
      not_ready = λ t. (transaction s t).stale || has_unplaced (writes t);
      has_closed = λ t. for_closed (file_of s) (window_at s) minute (writes t);
      grants = λ o. grants_in (λ t n. (commit_call t minute n).reply) (λ t n. (commit_call t minute n).after) o m;
    }

-- F-14: "the store is unchanged" [R-14.1]
unfoldable pub order_turn : List ℕ → ℕ → ℕ → Machine → Turn
order_turn ts minute budget m = record { reply = order_reply (asked_of minute m) ts minute budget; after = m }

-- The calls of Serializability's lists, with those of F-1, F-11, F-13 and F-14.
unfoldable pub call : Call → Machine → Turn
call (begin t) m =
    passing (admission_of_begin (sizes m) m.store m.journal t) [] m (begin_turn t m)
call (on t o) m = admitted t (buffer_of o) m (step_turn t o m)
call (commit t minute) m = commit_call t minute m
call (abort t) m = admitted t [] m (abort_turn t m)
call (places t f out) m = admitted t out m (places_turn t f out m)
call (set_window f start end) m =
    passing (admission_of_window (sizes m) m.store m.journal f start end) [] m (window_turn f start end m)
call undo_commit m = passing (admission_of_undo (sizes m) m.store m.journal) [] m (undo_turn m)
call (best_order ts minute budget) m = passing (first_tests (sizes m) m.store m.journal 0) [] m
    (order_turn ts minute budget m)

-- A list of calls: the store after it, and its replies.
abbrev pub calls_after : List Call → Machine → Machine
calls_after cs m = after_all call cs m

abbrev pub calls_replies : List Call → Machine → List Reply
calls_replies cs m = replies_to call cs m
