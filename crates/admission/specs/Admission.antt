-- Paper 01, "Ranges for 2" [R-16.4], and the tests that every call shares.
use Rattle.std.specs.Prelude.{Bool, not, ◌&&◌, ◌||◌, List, leb, eqb, get_or, length, ℕ, ◌+◌}
use Rattle.limits.specs.Limits.{file_count, last_file, file_bytes, buffer_bytes, descriptor_count}
use Rattle.limits.specs.Limits.{last_descriptor, transaction_count, last_transaction, record_count}
use Rattle.limits.specs.Limits.{log_bytes, undo_bytes}
use Rattle.windows.specs.declared.Window.{Window}
use Rattle.windows.specs.Windows.{minute_in}
use Rattle.standings.specs.declared.Standing.{Standing}
use Rattle.standings.specs.Table.{advance, offset_of, may_wait}
use Rattle.standings.specs.declared.Place.{Place}
use Rattle.standings.specs.declared.Place.TheVariants.{At, After}
use Rattle.state.specs.declared.Transaction.{Transaction}
use Rattle.state.specs.declared.Undo.{Undo}
use Rattle.state.specs.declared.StoreMeaning.{StoreMeaning}
use Rattle.state.specs.declared.journal.WriteRecord.{WriteRecord}
use Rattle.state.specs.StoreMeaning.{ended, transaction, standing_at, window_at}
use Rattle.state.specs.Journal.{write_record_at, last_grant}
use Rattle.std.specs.declared.result.Result.{Result}
use Rattle.std.specs.declared.result.Result.TheVariants.{Ok, Err}
use Rattle.state.specs.declared.outcomes.Refusal.{Refusal}
use Rattle.state.specs.Outcomes.{number}
use Rattle.admission.specs.declared.Sizes.{Sizes}
use Rattle.admission.specs.FirstRefusal.{unless, below, sum}

-- "offsets and advances of standings at most 4,096" [R-16.4]; one that a standing does not carry counts as 0
unfoldable pub standing_in : Standing → Bool
standing_in z = leb (advance z) file_bytes && leb (offset_of z) file_bytes

-- "a record without a place only under Deferred or Moved, ending at most at that advance" [R-16.4]
unfoldable pub ends_within : Standing → ℕ → Bool
ends_within z end = may_wait z && leb end (advance z)

-- "its place or advance plus length at most 4,096" [R-16.4], and the sentence before for one without a place
unfoldable pub place_in : Standing → Place → ℕ → Bool
place_in z (At p) n = leb (p + n) file_bytes
place_in z (After a) n = leb (a + n) file_bytes && ends_within z (a + n)

-- "each record's descriptor at most 15 and its place or advance plus length at most 4,096" [R-16.4]: a write
-- record of transaction x
unfoldable pub record_in : Transaction → WriteRecord → Bool
record_in x w =
    leb w.descriptor last_descriptor && place_in (standing_at x w.descriptor) w.place w.length

-- The lengths of the first n write records of part t of the journal, together.
unfoldable pub lengths_before : List ℕ → ℕ → ℕ → ℕ
lengths_before journal t n = sum (λ k. (write_record_at journal t k).length) n

-- "records at most 64, their lengths adding to the data used, at most 4,096" [R-16.4]: transaction x, which
-- has number t
unfoldable pub journal_in : Transaction → List ℕ → ℕ → Bool
journal_in x journal t =
    let u = x.used in
    leb u.records record_count && below (λ k. record_in x (write_record_at journal t k)) u.records
    && eqb (lengths_before journal t u.records) u.bytes
    && leb u.bytes log_bytes

-- The part of it that goes over the records.
unfoldable pub journal_passes : Transaction → List ℕ → ℕ → ℕ → ℕ → Bool
journal_passes x journal t records bytes =
    below (λ k. record_in x (write_record_at journal t k)) records && eqb (lengths_before journal t records) bytes

-- "in each open transaction" [R-16.4]
unfoldable pub transaction_in : Transaction → List ℕ → ℕ → Bool
transaction_in x journal t =
    not x.begun || (below (λ d. standing_in (standing_at x d)) descriptor_count && journal_in x journal t)

-- 02, F-11: "a window of start and end minute, 0 to 1,439" [R-11.1]
unfoldable pub window_in : Window → Bool
window_in w = minute_in w.start && minute_in w.end

-- "files at most 7; committed offsets at most 4,096; and in each open transaction .." [R-16.4]; 02, F-8:
-- "Check 2 covers lengths, at most 4,096." [R-16.4]; F-11: "Check 2 covers the windows." [R-16.4]
unfoldable pub tables_in : StoreMeaning → List ℕ → Bool
tables_in s journal =
    below (λ d. leb (get_or s.filenumbers d 0) last_file) descriptor_count
    && below (λ d. leb (get_or s.offsets d 0) file_bytes) descriptor_count
    && below (λ f. leb (get_or s.lengths f 0) file_bytes) file_count
    && below (λ f. window_in (window_at s f)) file_count
    && below (λ t. transaction_in (transaction s t) journal t) transaction_count

-- 02, F-13: "Check 2 covers what the record holds for this as it covers a log's placed records, offsets and
-- lengths." [R-16.4] The transaction of the last grant has ended: its descriptors are Untouched, so that no
-- record may be without a place.
unfoldable pub landed_in : WriteRecord → Bool
landed_in w = record_in ended w

-- "records at most 64, their lengths adding to the data used, at most 4,096" [R-16.4]: those of the last
-- grant; the part that goes over them.
unfoldable pub grant_passes : List ℕ → ℕ → ℕ → Bool
grant_passes journal records bytes =
    below (λ k. landed_in (write_record_at journal last_grant k)) records
    && eqb (lengths_before journal last_grant records) bytes

-- All of it, with the offsets and the lengths that the grant found; only while one is held.
unfoldable pub undo_in : Undo → List ℕ → Bool
undo_in u journal =
    not u.valid
    || (leb u.used.records record_count && leb u.used.bytes log_bytes
    && below (λ d. leb (get_or u.offsets d 0) file_bytes) descriptor_count
    && below (λ f. leb (get_or u.lengths f 0) file_bytes) file_count
    && grant_passes journal u.used.records u.used.bytes)

-- All of check 2.
unfoldable pub store_in : StoreMeaning → List ℕ → Bool
store_in s journal = tables_in s journal && undo_in s.undo journal

-- The lengths of the store buffers.
abbrev pub sized : ℕ → ℕ → ℕ → ℕ → Sizes
sized files logs marks undo = record { files = files; logs = logs; marks = marks; undo = undo }

-- "a store buffer .. has another length" [R-16.1]; 02, F-13: "a fourth store buffer, of 4,096 bytes" [R-2.1];
-- "1 covers the new buffer." [R-16.1]
unfoldable pub sizes_in : Sizes → Bool
sizes_in z =
    eqb z.files buffer_bytes && eqb z.logs buffer_bytes && eqb z.marks buffer_bytes
    && eqb z.undo undo_bytes

-- Refusals 1 and 2; then what comes after them.
unfoldable pub first_tests : Sizes → StoreMeaning → List ℕ → ℕ → ℕ
first_tests z s journal later = unless (sizes_in z) 1 (unless (store_in s journal) 2 later)

-- Refusals 1 to 3, in the table's order; then what comes after them.
unfoldable pub shared : Sizes → StoreMeaning → List ℕ → ℕ → ℕ → ℕ
shared z s journal t later = first_tests z s journal (unless (leb t last_transaction) 3 later)

-- Refusals 1 to 4: "not open (all calls but Fresh, Begin)" [R-16.1].
unfoldable pub admission : Sizes → StoreMeaning → List ℕ → ℕ → ℕ
admission z s journal t = shared z s journal t (unless (transaction s t).begun 4 0)

-- Refusals 1 to 3 and 5: "Begin of one already open" [R-16.1].
unfoldable pub admission_of_begin : Sizes → StoreMeaning → List ℕ → ℕ → ℕ
admission_of_begin z s journal t = shared z s journal t (unless (not (transaction s t).begun) 5 0)

-- 02, F-11, the setting of a window: 6 for a file number above 7; "22 when a minute is above 1,439, .. after
-- the file number (6) when setting" [R-16.1].
unfoldable pub window_refusal : ℕ → ℕ → ℕ → ℕ
window_refusal f start end = unless (leb f last_file) 6 (unless (minute_in start && minute_in end) 22 0)

-- Refusals 1 and 2, and then these: the call has no transaction number.
unfoldable pub admission_of_window : Sizes → StoreMeaning → List ℕ → ℕ → ℕ → ℕ → ℕ
admission_of_window z s journal f start end = first_tests z s journal (window_refusal f start end)

-- No transaction is open.
unfoldable pub none_begun : StoreMeaning → Bool
none_begun s = below (λ t. not (transaction s t).begun) transaction_count

-- 02, F-13: "23 when any transaction is open, after 2; 24 when there has been no grant since the latest Fresh
-- or taking back, after 23." [R-16.1]
unfoldable pub admission_of_undo : Sizes → StoreMeaning → List ℕ → ℕ
admission_of_undo z s journal = first_tests z s journal (unless (none_begun s) 23 (unless s.undo.valid 24 0))

-- F-10: "19 when a transaction is open at the start, after 2; 20 when .., after 19" [R-16.1]: whether the
-- scripts pass 20 is handed over.
unfoldable pub admission_of_dispatch : Sizes → StoreMeaning → List ℕ → Bool → ℕ
admission_of_dispatch z s journal scripts = first_tests z s journal
    (unless (none_begun s) 19 (unless scripts 20 0))

-- "a store buffer, or Fresh's list, has another length" [R-16.1] (1); "Fresh with a file number above 7"
-- [R-16.1] (14). The file numbers are a list.
unfoldable pub admission_of_fresh : Sizes → List ℕ → ℕ
admission_of_fresh z numbers =
    unless (sizes_in z && eqb (length numbers) descriptor_count) 1
    (unless (below (λ d. leb (get_or numbers d 0) last_file) descriptor_count) 14 0)

-- What the tests before a call's own return: nothing, or a refusal.
abbrev pub Gate : Type 0
Gate = Result Unit Refusal

-- A gate in paper 01's numbers; 0 stands for none.
unfoldable pub gate_number : Gate → ℕ
gate_number (Ok _) = 0
gate_number (Err r) = number r
