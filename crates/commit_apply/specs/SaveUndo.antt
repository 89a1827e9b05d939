-- Request F-13, "Taking back the last grant" [R-12.1]: what is saved of the writes that a commit lands, read
-- off the journal, the logs and the state's two arrays of descriptors.
use Rattle.std.specs.Prelude.{true, List, ◌≡◌, length, get_or, ℕ}
use Rattle.buffers.specs.Parts.{tabulate}
use Rattle.counters.specs.declared.Used.{Used}
use Rattle.standings.specs.declared.Place.TheVariants.{At}
use Rattle.state.specs.declared.journal.WriteRecord.{WriteRecord}
use Rattle.state.specs.StoreMeaning.{with_undo}
use Rattle.state.specs.Journal.{last_grant, write_record_at, with_records}
use Rattle.state.specs.Layout.{store_of, journal_of, state_length}
use Rattle.spec_undo.specs.OldBytes.{old_bytes}
use Rattle.spec.specs.Commits.{lands_at}
use Rattle.spec.specs.Machine.{file_of, write_at}
use Rattle.spec.specs.Undo.{landings_of}
use Rattle.commit_apply.specs.Apply.{offsets_only}

-- "The old bytes, for each write those it landed on, .. in the order in which the writes landed" [R-12.2]: of
-- the first n write records of transaction t.
abbrev pub old_bytes_in : List ℕ → List ℕ → List ℕ → ℕ → ℕ → List ℕ
old_bytes_in state files logs t n =
    let s = store_of state in
    old_bytes (landings_of (file_of s) (offsets_only s.offsets)
    (tabulate (write_at (journal_of state) logs t) n)) files

-- A write record with the place at which it lands, and the journal with the first n of transaction t so as
-- those of the last grant.
unfoldable pub record_landed : List ℕ → WriteRecord → WriteRecord
record_landed offsets w =
    record {
      descriptor = w.descriptor;
      place = At (lands_at (get_or offsets w.descriptor 0) w.place);
      length = w.length;
    }

abbrev pub preserved_records : List ℕ → ℕ → ℕ → List ℕ
preserved_records state t n =
    let journal = journal_of state in
    with_records journal last_grant (λ k. record_landed (store_of state).offsets (write_record_at journal t k)) n

-- The state with them, and all else as it was.
pub record RecordsPreserved (before after : List ℕ) (t n : ℕ) : Type 0 where
  pub journal : journal_of after ≡ preserved_records before t n
  pub store : store_of after ≡ store_of before
  pub long : length after ≡ state_length

-- The state with all that is saved of a grant of transaction t, which used so much of its log.
pub record GrantPreserved (before after : List ℕ) (t : ℕ) (used : Used) : Type 0 where
  pub journal : journal_of after ≡ preserved_records before t used.records
  pub store :
      let s = store_of before in
      store_of after ≡ with_undo (record {
        valid = true;
        used = used;
        offsets = s.offsets;
        lengths = s.lengths;
      }) s
  pub long : length after ≡ state_length
