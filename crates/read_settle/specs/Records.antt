-- Write records after descriptors are settled. A list of choices has an element for each of the sixteen
-- descriptors.
use Rattle.std.specs.Prelude.{Bool, true, false, cond, List, ◌≡◌, length, get_or, ℕ, ◌≤◌, ◌<◌}
use Rattle.limits.specs.Limits.{file_bytes, descriptor_count, transaction_count, record_count}
use Rattle.standings.specs.Table.{place_number}
use Rattle.state.specs.declared.journal.WriteRecord.{WriteRecord}
use Rattle.state.specs.Journal.{write_record_at, with_records}
use Rattle.state.specs.StoreMeaning.{standing_at}
use Rattle.state.specs.Layout.{transaction_of, store_of, journal_of, state_length}
use Rattle.admission.specs.Admission.{standing_in}
use Rattle.spec.specs.Transactions.{placed_at}

-- "Each write made while the place was unknown now lies at c plus the advance before it" [R-4.2], where its
-- descriptor is chosen.
unfoldable pub record_after : List Bool → List ℕ → WriteRecord → WriteRecord
record_after chosen offsets w =
    let d = w.descriptor in
    record {
      descriptor = d;
      place = cond (get_or chosen d false) (placed_at (get_or offsets d 0) w.place)
          w.place;
      length = w.length;
    }

-- The journal, with transaction t's records so changed.
unfoldable pub placed_records : List Bool → List ℕ → List ℕ → ℕ → ℕ → List ℕ
placed_records chosen offsets journal t records =
    with_records journal t (λ k. record_after chosen offsets (write_record_at journal t k)) records

-- What check 2 says of the first records of transaction t, of its standings and of the committed offsets.
pub record Placeable (state : List ℕ) (t records : ℕ) : Type 0 where
  pub long : length state ≡ state_length
  pub small : t < transaction_count
  pub few : records ≤ record_count
  pub descriptors : (k : ℕ) → k < records → (write_record_at (journal_of state) t k).descriptor < descriptor_count
  pub places : (k : ℕ) → k < records → place_number (write_record_at (journal_of state) t k).place ≤ file_bytes
  pub committed : (e : ℕ) → e < descriptor_count → get_or (store_of state).offsets e 0 ≤ file_bytes
  pub standings : (e : ℕ) → e < descriptor_count → standing_in (standing_at (transaction_of state t) e) ≡ true

-- The state with these placed, and all else as it was.
pub record PlacedIn (chosen : List Bool) (t records : ℕ) (before after : List ℕ) : Type 0 where
  pub journal : journal_of after ≡ placed_records chosen (store_of before).offsets (journal_of before) t records
  pub store : store_of after ≡ store_of before
  pub long : length after ≡ state_length
