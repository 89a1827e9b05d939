-- The latest write over a place of a file (paper 02, F-3): the newest of a transaction's write records that
-- covers it.
use Rattle.std.specs.Prelude.{Bool, true, false, ◌&&◌, List, ◌≡◌, eqb, get_or, length, ℕ, ◌+◌, ◌-◌, ◌≤◌, ◌<◌, Option, Some, None}
use Rattle.standings.specs.Table.{place_number}
use Rattle.state.specs.declared.journal.WriteRecord.{WriteRecord}
use Rattle.state.specs.Journal.{write_record_at}
use Rattle.state.specs.Layout.{store_of, journal_of}
use Rattle.admission.specs.Admission.{lengths_before}
use Rattle.buffers.specs.Parts.{cut, tabulate}
use Rattle.spec.specs.Reading.{lies_over, Source, own, file, latest}
use Rattle.spec.specs.Transactions.{Write, through}
use Rattle.read_lookup.specs.declared.Extent.{Extent}
use Rattle.read_lookup.specs.declared.Run.{Run}

-- What a run is looked up in: the write records of all transactions, and each descriptor's file.
pub record Recorded : Type 0 where
  pub journal : List ℕ
  pub filenumbers : List ℕ

abbrev pub recorded : List ℕ → List ℕ → Recorded
recorded journal filenumbers = record { journal = journal; filenumbers = filenumbers }

-- Those of a state.
abbrev pub recorded_in : List ℕ → Recorded
recorded_in state = recorded (journal_of state) (store_of state).filenumbers

-- Whether a write record covers place p of file f.
unfoldable pub covers : List ℕ → ℕ → ℕ → WriteRecord → Bool
covers filenumbers f p w = eqb (get_or filenumbers w.descriptor 0) f && lies_over w.place w.length p

-- Whether write record k of transaction t covers it.
abbrev pub covered_by : Recorded → ℕ → ℕ → ℕ → ℕ → Bool
covered_by j t f p k = covers j.filenumbers f p (write_record_at j.journal t k)

-- Where the supplier's byte for place p stands, in the file or in the log, which has the data of one record
-- after the other.
unfoldable pub stands_at : List ℕ → ℕ → ℕ → Option ℕ → ℕ
stands_at journal t p None = p
stands_at journal t p (Some k) = lengths_before journal t k
    + (p - place_number (write_record_at journal t k).place)

-- Write k of transaction t, with its bytes, which stand in the transaction's log.
unfoldable pub write_in : List ℕ → List ℕ → ℕ → ℕ → Write
write_in journal log t k =
    let w = write_record_at journal t k in
    through w.descriptor w.place (cut log (lengths_before journal t k) w.length)

-- The byte that a supplier has for place p: that of the log, or the file's.
unfoldable pub source_of : List ℕ → List ℕ → ℕ → ℕ → Option ℕ → Source
source_of journal log t p None = file
source_of journal log t p (Some k) = own (get_or log (stands_at journal t p (Some k)) 0)

-- Corollary 2 of the notes, for a transaction that has itself written what it reads: "Otherwise, a sees the
-- most recent precedessor in OP_{T_i} ." [R-6.6] Here a reads place p of file f, OP_{T_i} are the write
-- records of transaction t, in call order by their numbers, and a predecessor is one that covers the place.
pub record LatestWrite (j : Recorded) (t records f p : ℕ) (found : Option ℕ) (looked : ℕ) : Type 0 where
  -- the record found covers the place, and no later one does
  pub covering : (k : ℕ) → found ≡ Some k → (k < records) × (covered_by j t f p k ≡ true)
  pub most_recent : (k m : ℕ) → found ≡ Some k → k < m → m < records → covered_by j t f p m ≡ false
  -- none is found exactly when no record covers it
  pub none : found ≡ None → (k : ℕ) → k < records → covered_by j t f p k ≡ false
  pub only_none : ((k : ℕ) → k < records → covered_by j t f p k ≡ false) → found ≡ None
  -- how many write records the walk visited, 02, F-3: "that one and all newer ones, or all when there is
  -- none" [R-6.6]
  pub that_and_newer : (k : ℕ) → found ≡ Some k → looked ≡ records - k
  pub all : found ≡ None → looked ≡ records
  -- its byte is that of the latest write as the rules have it, whatever the log
  pub in_rules : (log : List ℕ) → lengths_before j.journal t records ≤ length log
      → latest (λ d. get_or j.filenumbers d 0) f p (tabulate (write_in j.journal log t) records)
      ≡ source_of j.journal log t p found

-- The latest write over the first of these places, of a run.
abbrev pub LatestAt : Recorded → ℕ → ℕ → Extent → Run → Type 0
LatestAt j t records e r = LatestWrite j t records e.file e.place r.supplier r.looked
