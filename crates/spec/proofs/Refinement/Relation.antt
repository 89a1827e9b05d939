-- The abstract store that a state and its buffers stand for, and what is known of every store reached from Fresh.
use mathlib.Core.{Bool.{true, false, cond, ◌&&◌}, Path.◌≡◌}
use lib.{Dec.leb, ListN.{length, get_or}}
use Prim.Native.Nat.{ℕ, ◌≤◌, ◌<◌}
use Rattle.state.specs.{Journal.journal_length, declared.StoreMeaning.StoreMeaning, StoreMeaning.{transaction, window_at}}
use Rattle.limits.specs.Limits.{file_count, buffer_bytes, descriptor_count, transaction_count, record_count, log_bytes, undo_bytes}
use Rattle.limits.specs.Limits.{last_transaction}
use Rattle.buffers.specs.Marks.{has_mark, contains}
use Rattle.standings.specs.declared.Standing.TheVariants.{Untouched}
use Rattle.admission.specs.Admission.{standing_in, place_in, store_in}
use Rattle.spec_undo.specs.OldBytes.{restored}
use Rattle.spec.specs.{Items.{byte, offset, file_length, Values}, Undo.landed_on, Transactions.{Txn, Write}, Steps.total}
use Rattle.spec.specs.Machine.{Machine, file_of, values, txn_of, no_write}
use Rattle.spec.proofs.Abstract.AbstractStore.{OpenTxn, Seat, vacant, occupied, Saved, none, preserved, Abstract}

unfoldable pub open_txn_in : Machine → ℕ → OpenTxn
open_txn_in m u = record {
  txn = txn_of m.store m.journal m.logs u;
  marked = has_mark m.marks u;
  lengths = contains (transaction m.store u).lengthmarks;
  stale = (transaction m.store u).stale;
}

unfoldable pub seat : Machine → ℕ → Seat
seat m u = cond (leb u last_transaction && (transaction m.store u).begun) (occupied (open_txn_in m u)) vacant

-- The values that the last grant found, as the store holds them; and whether it holds any.
unfoldable pub back_values : Machine → Values
back_values m (byte q) = get_or (restored (landed_on m.store m.journal) m.undo m.files) q 0
back_values m (offset d) = get_or m.store.undo.offsets d 0
back_values m (file_length f) = get_or m.store.undo.lengths f 0

unfoldable pub back_in : Machine → Saved
back_in m = cond m.store.undo.valid (preserved (back_values m)) none

unfoldable pub view : Machine → Abstract
view m = record {
  file_of = file_of m.store;
  value = values m.store m.files;
  windows = window_at m.store;
  back = back_in m;
  seats = seat m;
}

-- The lengths that the state's types give its arrays.
pub record Shaped (s : StoreMeaning) : Type 0 where
  pub files : length s.filenumbers ≡ descriptor_count
  pub offsets : length s.offsets ≡ descriptor_count
  pub lengths : length s.lengths ≡ file_count
  pub windows : length s.windows ≡ file_count
  pub found_offsets : length s.undo.offsets ≡ descriptor_count
  pub found_lengths : length s.undo.lengths ≡ file_count
  pub transactions : length s.transactions ≡ transaction_count
  pub descriptors : (t : ℕ) → t < transaction_count → length (transaction s t).descriptors ≡ descriptor_count

-- A store that meets neither 1 nor 2.
pub record Sound (m : Machine) : Type 0 where
  pub shaped : Shaped m.store
  pub journal : length m.journal ≡ journal_length
  pub files : length m.files ≡ buffer_bytes
  pub logs : length m.logs ≡ buffer_bytes
  pub marks : length m.marks ≡ buffer_bytes
  pub undo : length m.undo ≡ undo_bytes
  pub in_range : store_in m.store m.journal ≡ true

-- State validity of one transaction as it is meant.
pub record WriteIn (y : Txn) (w : Write) : Type 0 where
  pub descriptor : w.descriptor < descriptor_count
  pub place : place_in (y.standing w.descriptor) w.place (length w.bytes) ≡ true

pub record TxnIn (y : Txn) : Type 0 where
  pub standings : (d : ℕ) → standing_in (y.standing d) ≡ true
  pub above : (d : ℕ) → descriptor_count ≤ d → y.standing d ≡ Untouched
  pub clean : (d : ℕ) → descriptor_count ≤ d → y.dirty d ≡ false
  pub records : length y.writes ≤ record_count
  pub bytes : total y.writes ≤ log_bytes
  pub writes : (k : ℕ) → k < length y.writes → WriteIn y (get_or y.writes k no_write)
