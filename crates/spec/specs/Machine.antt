-- The store as a caller holds it: the state in its two parts and the four lent buffers; and what they mean
-- for one transaction.
use Rattle.std.specs.Prelude.{List, [], ◌∷◌, length, get_or, ℕ, ◌+◌, ◌*◌}
use Rattle.limits.specs.Limits.{descriptor_count, log_bytes}
use Rattle.buffers.specs.Bits.{with_bit}
use Rattle.buffers.specs.Parts.{cut, tabulate}
use Rattle.standings.specs.declared.Place.TheVariants.{At}
use Rattle.state.specs.declared.StoreMeaning.{StoreMeaning}
use Rattle.state.specs.declared.Transaction.{Transaction}
use Rattle.state.specs.declared.journal.WriteRecord.{WriteRecord}
use Rattle.state.specs.StoreMeaning.{transaction, standing_at, dirty_at, with_used, with_lengthmarks}
use Rattle.state.specs.StoreMeaning.{with_descriptors, with_transaction}
use Rattle.state.specs.Journal.{write_record_at, with_records}
use Rattle.admission.specs.Admission.{lengths_before, sized}
use Rattle.admission.specs.declared.Sizes.{Sizes}
use Rattle.spec.specs.Items.{Item, byte, offset, file_length, Values}
use Rattle.spec.specs.Transactions.{Txn, Write, through}
use Rattle.spec.specs.Steps.{total}

-- The state (store and journal), and "These three, files, logs and marks, are the store buffers; every call
-- takes all three" [R-2.1]; 02, F-13: "a fourth store buffer, of 4,096 bytes and lent as the three are"
-- [R-2.1].
pub record Machine : Type 0 where
  pub store : StoreMeaning
  pub journal : List ℕ
  pub files : List ℕ
  pub logs : List ℕ
  pub marks : List ℕ
  pub undo : List ℕ

-- As a caller lends them.
abbrev pub lent : StoreMeaning → List ℕ → List ℕ → List ℕ → List ℕ → List ℕ → Machine
lent s journal files logs marks undo =
    record { store = s; journal = journal; files = files; logs = logs; marks = marks; undo = undo }

-- A machine with another value in one field.
abbrev pub with_store : StoreMeaning → Machine → Machine
with_store s m = lent s m.journal m.files m.logs m.marks m.undo

abbrev pub with_journal : List ℕ → Machine → Machine
with_journal journal m = lent m.store journal m.files m.logs m.marks m.undo

abbrev pub with_files : List ℕ → Machine → Machine
with_files files m = lent m.store m.journal files m.logs m.marks m.undo

abbrev pub with_logs : List ℕ → Machine → Machine
with_logs logs m = lent m.store m.journal m.files logs m.marks m.undo

abbrev pub with_marking : List ℕ → Machine → Machine
with_marking marks m = lent m.store m.journal m.files m.logs marks m.undo

abbrev pub with_old_bytes : List ℕ → Machine → Machine
with_old_bytes undo m = lent m.store m.journal m.files m.logs m.marks undo

-- The lengths of the buffers.
abbrev pub sizes : Machine → Sizes
sizes m = sized (length m.files) (length m.logs) (length m.marks) (length m.undo)

-- "Each belongs for good to one file, named at Fresh" [R-1.2]: the file of descriptor d.
unfoldable pub file_of : StoreMeaning → ℕ → ℕ
file_of s d = get_or s.filenumbers d 0

-- The committed values: "file f is the part that starts at place 4,096 × f" [R-2.1] of the files buffer; a
-- descriptor "has a committed offset" [R-1.2]; 02, F-8: "Each file gets a committed length" [R-1.1].
unfoldable pub values : StoreMeaning → List ℕ → Values
values s files (byte q) = get_or files q 0
values s files (offset d) = get_or s.offsets d 0
values s files (file_length f) = get_or s.lengths f 0

-- "in a lent buffer of 32,768 bytes, transaction t's part starting at 4,096 × t" [R-2.1]; "A Write puts its
-- bytes in its log directly after the data used" [R-2.2]: where the data of write record k of transaction t
-- start.
unfoldable pub data_start : List ℕ → ℕ → ℕ → ℕ
data_start journal t k = log_bytes * t + lengths_before journal t k

-- A write as the journal and the logs hold it, and the record of a write.
unfoldable pub write_at : List ℕ → List ℕ → ℕ → ℕ → Write
write_at journal logs t k =
    let w = write_record_at journal t k in
    through w.descriptor w.place (cut logs (data_start journal t k) w.length)

unfoldable pub record_of : Write → WriteRecord
record_of w = record { descriptor = w.descriptor; place = w.place; length = length w.bytes }

-- Transaction t as the state and the logs hold it.
unfoldable pub txn_of : StoreMeaning → List ℕ → List ℕ → ℕ → Txn
txn_of s journal logs t =
    record {
      standing = standing_at (transaction s t);
      dirty = dirty_at (transaction s t);
      writes = tabulate (write_at journal logs t) (transaction s t).used.records;
    }

-- The journal with the records of these writes as those of transaction t.
abbrev pub no_write : Write
no_write = through 0 (At 0) []

unfoldable pub journalled : ℕ → List Write → List ℕ → List ℕ
journalled t ws journal = with_records journal t (λ k. record_of (get_or ws k no_write)) (length ws)

-- A transaction with the descriptors and the counters of another meaning: "records used and data bytes used"
-- [R-1.4].
unfoldable pub holding : Txn → Transaction → Transaction
holding y x =
    with_used (record { records = length y.writes; bytes = total y.writes })
    (with_descriptors (tabulate (λ d. record { standing = y.standing d; dirty = y.dirty d })
    descriptor_count) x)

-- The lengths that a transaction has sighted after sightings: bit f (worth 2 to the power f) for that of file
-- f.
unfoldable pub lengthmarked : List Item → ℕ → ℕ
lengthmarked [] n = n
lengthmarked (byte q ∷ is) n = lengthmarked is n
lengthmarked (offset d ∷ is) n = lengthmarked is n
lengthmarked (file_length f ∷ is) n = lengthmarked is (with_bit f n)

unfoldable pub sighting_lengths : List Item → Transaction → Transaction
sighting_lengths is x = with_lengthmarks (lengthmarked is x.lengthmarks) x

-- The store after transaction t has become y and has sighted these items.
unfoldable pub with_txn : ℕ → Txn → List Item → StoreMeaning → StoreMeaning
with_txn t y is s = with_transaction t (holding y (sighting_lengths is (transaction s t))) s
