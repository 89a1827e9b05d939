-- What a commit lands, read off the journal, the logs and the state's two arrays of descriptors; and the same
-- off the state's numbers.
use Rattle.std.specs.Prelude.{Bool, cond, List, [], ◌≡◌, eqb, length, get_or, ℕ, zero, suc, ◌+◌, ◌≤◌, ◌<◌, max}
use Rattle.limits.specs.Limits.{file_count, last_file, file_bytes, descriptor_count, transaction_count}
use Rattle.limits.specs.Limits.{record_count, log_bytes}
use Rattle.buffers.specs.Parts.{tabulate}
use Rattle.state.specs.declared.StoreMeaning.{StoreMeaning}
use Rattle.state.specs.declared.Transaction.{Transaction}
use Rattle.state.specs.StoreMeaning.{standing_at, dirty_at, with_offsets}
use Rattle.state.specs.Journal.{write_record_at}
use Rattle.state.specs.Layout.{store_of, journal_of, state_length}
use Rattle.admission.specs.Admission.{lengths_before}
use Rattle.spec.specs.Items.{byte, offset, file_length, Values}
use Rattle.spec.specs.Transactions.{Txn}
use Rattle.spec.specs.Reading.{write_end}
use Rattle.spec.specs.Commits.{Setting, lands_at, byte_settings, offset_settings, fits}
use Rattle.spec.specs.Machine.{write_at}
use Rattle.spec.specs.Calls.{land_offsets}
use Rattle.spec.specs.Promises.{Lent}
use Rattle.commit_apply.specs.declared.writes.LandedWrite.{LandedWrite}

-- The committed offsets as values, and the descriptors of x as a transaction of the rules: what a commit sets
-- goes by no committed byte, and its offsets by no write.
unfoldable pub offsets_only : List ℕ → Values
offsets_only offsets (byte q) = 0
offsets_only offsets (offset d) = get_or offsets d 0
offsets_only offsets (file_length f) = 0

abbrev pub descriptors_only : Transaction → Txn
descriptors_only x = record { standing = standing_at x; dirty = dirty_at x; writes = [] }

-- Commit's placing of x passes; and the store with the offsets that a commit of x sets.
abbrev pub places_fit : StoreMeaning → Transaction → Bool
places_fit s x = fits (offsets_only s.offsets) (descriptors_only x)

abbrev pub with_offsets_of : Transaction → StoreMeaning → StoreMeaning
with_offsets_of x s =
    with_offsets (land_offsets (offset_settings (offsets_only s.offsets) (descriptors_only x) descriptor_count)
    s.offsets) s

-- The bytes that the first n write records of transaction t set, in call order.
unfoldable pub bytes_set : List ℕ → List ℕ → List ℕ → List ℕ → ℕ → ℕ → List Setting
bytes_set filenumbers offsets journal logs t n =
    byte_settings (λ d. get_or filenumbers d 0) (offsets_only offsets) (tabulate (write_at journal logs t) n)

abbrev pub bytes_set_in : List ℕ → List ℕ → ℕ → ℕ → List Setting
bytes_set_in state logs t n = bytes_set (store_of state).filenumbers (store_of state).offsets (journal_of state)
    logs t n

-- 02, F-8: "a granted write of at least one byte raises it to the write's end" [R-9.6]: how far the first n
-- write records of transaction t reach in file f as they land, and the committed lengths then.
unfoldable pub landed_reach : List ℕ → List ℕ → List ℕ → ℕ → ℕ → ℕ → ℕ
landed_reach filenumbers offsets journal t f zero = 0
landed_reach filenumbers offsets journal t f (suc k) =
    let w = write_record_at journal t k in
    max (landed_reach filenumbers offsets journal t f k)
    (cond (eqb (get_or filenumbers w.descriptor 0) f)
    (write_end (lands_at (get_or offsets w.descriptor 0) w.place) w.length) 0)

unfoldable pub lengths_landed : List ℕ → List ℕ → List ℕ → ℕ → List ℕ → ℕ → List ℕ
lengths_landed filenumbers offsets journal t lengths n =
    tabulate (λ f. max (get_or lengths f 0) (landed_reach filenumbers offsets journal t f n)) file_count

abbrev pub lengths_landed_in : List ℕ → ℕ → ℕ → List ℕ
lengths_landed_in state t n =
    let s = store_of state in lengths_landed s.filenumbers s.offsets (journal_of state) t s.lengths n

-- Write record k of transaction t lands inside a file.
pub record RecordLands (offsets journal : List ℕ) (t k : ℕ) : Type 0 where
  pub descriptor : (write_record_at journal t k).descriptor < descriptor_count
  pub place :
      lands_at (get_or offsets (write_record_at journal t k).descriptor 0) (write_record_at journal t k).place
      + (write_record_at journal t k).length ≤ file_bytes

-- The first n records of transaction t land inside the files, from data inside its log.
pub record CanLand (filenumbers offsets journal : List ℕ) (t n : ℕ) : Type 0 where
  pub small : t < transaction_count
  pub records : n ≤ record_count
  pub bytes : lengths_before journal t n ≤ log_bytes
  pub numbers : (d : ℕ) → d < descriptor_count → get_or filenumbers d 0 ≤ last_file
  pub inside : (k : ℕ) → k < n → RecordLands offsets journal t k

abbrev pub CanLandIn : List ℕ → ℕ → ℕ → Type 0
CanLandIn state t n = CanLand (store_of state).filenumbers (store_of state).offsets (journal_of state) t n

-- Write record k of transaction t lands as r says, inside a file.
pub record LandsAs (state : List ℕ) (t k : ℕ) (r : LandedWrite) : Type 0 where
  pub file : r.file ≡ get_or (store_of state).filenumbers (write_record_at (journal_of state) t k).descriptor 0
  pub place :
      let w = write_record_at (journal_of state) t k in
      r.place ≡ lands_at (get_or (store_of state).offsets w.descriptor 0) w.place
  pub length : r.length ≡ (write_record_at (journal_of state) t k).length
  pub file_in : r.file < file_count
  pub inside : r.place + r.length ≤ file_bytes

-- The numbers after mean the store s, with the journal of those before.
pub record Means (before after : List ℕ) (s : StoreMeaning) : Type 0 where
  pub store : store_of after ≡ s
  pub journal : journal_of after ≡ journal_of before
  pub long : length after ≡ state_length

-- What a function does to the meaning of the state that it is lent: its store becomes f of what it was.
abbrev pub Becomes : Lent → (StoreMeaning → StoreMeaning) → Type 0
Becomes state f = Means state.entry state.exit (f (store_of state.entry))
