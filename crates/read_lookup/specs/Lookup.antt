-- Runs of places with one supplier, and how far a transaction's file reaches; beside the latest write over a
-- place (Latest.antt).
use Rattle.std.specs.Prelude.{Bool, true, false, cond, List, ◌≡◌, eqb, get_or, ℕ, zero, suc, ◌+◌, ◌≤◌, ◌<◌, max, Option, Some, None}
use Rattle.limits.specs.Limits.{descriptor_count, transaction_count, record_count, log_bytes}
use Rattle.counters.specs.declared.Used.{Used}
use Rattle.state.specs.declared.journal.WriteRecord.{WriteRecord}
use Rattle.state.specs.Journal.{write_record_at}
use Rattle.state.specs.Layout.{store_of}
use Rattle.admission.specs.Admission.{lengths_before}
use Rattle.spec.specs.Reading.{placed_end}
use Rattle.read_lookup.specs.declared.Extent.{Extent}
use Rattle.read_lookup.specs.declared.Run.{Run}
pub use Rattle.read_lookup.specs.Latest.{Recorded, recorded, recorded_in, covered_by, LatestWrite}
pub use Rattle.read_lookup.specs.Latest.{LatestAt}
unfoldable pub use Rattle.read_lookup.specs.Latest.{covers, stands_at, write_in, source_of}

-- The n places of file f from p on.
abbrev pub extent : ℕ → ℕ → ℕ → Extent
extent f p n = record { file = f; place = p; length = n }

-- From the newest of so many records back: the first that covers the place; the file where none does.
unfoldable pub newest : (ℕ → Bool) → ℕ → Option ℕ
newest covering zero = None
newest covering (suc k) = cond (covering k) (Some k) (newest covering k)

-- Who supplies place p of file f to transaction t, which has so many records.
unfoldable pub supplier : Recorded → ℕ → ℕ → ℕ → ℕ → Option ℕ
supplier j t records f p = newest (covered_by j t f p) records

-- 02, F-8: "the ends of its own placed writes of at least one byte" [R-6.1]: where a write record ends in
-- file f.
unfoldable pub record_end : List ℕ → ℕ → WriteRecord → ℕ
record_end filenumbers f w = cond (eqb (get_or filenumbers w.descriptor 0) f)
    (placed_end w.place w.length) 0

-- The largest of a number and of the ends of transaction t's first records in file f.
unfoldable pub reach : Recorded → ℕ → ℕ → ℕ → ℕ → ℕ
reach j t f n zero = n
reach j t f n (suc k) = max (reach j t f n k) (record_end j.filenumbers f (write_record_at j.journal t k))

-- "the ends of its own placed writes of at least one byte" [R-6.1]: the largest of those of transaction t,
-- with so many records, in file f; 0 where it has none there.
abbrev pub own_reach : List ℕ → ℕ → ℕ → ℕ → ℕ
own_reach state t records f = reach (recorded_in state) t f 0 records

-- F-8: "A transaction's length is the largest of the committed one and the ends" [R-6.1]: that of file f for
-- transaction t with so many records.
abbrev pub length_seen : List ℕ → ℕ → ℕ → ℕ → ℕ
length_seen state t records f = reach (recorded_in state) t f (get_or (store_of state).lengths f 0) records

-- What state validity (01's check 2) says of the write records of transaction t: "records at most 64, their
-- lengths adding to the data used, at most 4,096; each record's descriptor at most 15" [R-16.4].
pub record CountedRecords (journal : List ℕ) (t : ℕ) (u : Used) : Type 0 where
  pub small : t < transaction_count
  pub records : u.records ≤ record_count
  pub adds : lengths_before journal t u.records ≡ u.bytes
  pub bytes : u.bytes ≤ log_bytes
  pub descriptors : (k : ℕ) → k < u.records → (write_record_at journal t k).descriptor < descriptor_count

-- r of the places come before the first that the write record covers.
pub record GapOf (filenumbers : List ℕ) (w : WriteRecord) (e : Extent) (r : ℕ) : Type 0 where
  pub within : r ≤ e.length
  pub clear : (i : ℕ) → i < r → covers filenumbers e.file (e.place + i) w ≡ false
  pub met : r < e.length → covers filenumbers e.file (e.place + r) w ≡ true

-- "the longest stretch from its place on that one write record supplies, or that the file supplies" [R-6.5]:
-- at the front of these places.
pub record RunOf (j : Recorded) (t records : ℕ) (e : Extent) (r : Run) : Type 0 where
  pub supplied : r.supplier ≡ supplier j t records e.file e.place
  pub start : r.at ≡ stands_at j.journal t e.place (supplier j t records e.file e.place)
  pub some : 1 ≤ r.length
  pub within : r.length ≤ e.length
  pub same : (i : ℕ) → i < r.length → supplier j t records e.file (e.place + i)
      ≡ supplier j t records e.file e.place
  pub longest : r.length < e.length
      → supplier j t records e.file (e.place + r.length) ≡ supplier j t records e.file e.place → ⊥
