-- The files that are closed at a minute, and whether a transaction has a byte for one of them, read off the
-- state.
use Rattle.std.specs.Prelude.{Bool, true, ◌&&◌, List, ◌≡◌, ltb, get_or, ℕ, ◌<◌}
use Rattle.limits.specs.Limits.{file_count, transaction_count}
use Rattle.windows.specs.Windows.{is_closed_at}
use Rattle.buffers.specs.Bits.{bits_of}
use Rattle.buffers.specs.Marks.{contains}
use Rattle.state.specs.StoreMeaning.{window_at}
use Rattle.state.specs.Journal.{write_record_at}
use Rattle.state.specs.Layout.{transaction_of, store_of, journal_of}
use Rattle.admission.specs.FirstRefusal.{some_below}
use Rattle.admission.specs.Admission.{store_in}
use Rattle.spec.specs.Windows.{for_closed}
use Rattle.spec.specs.Machine.{file_of, txn_of}

-- The state is valid (01's check 2), and transaction t is open.
pub record OpenIn (state : List ℕ) (t : ℕ) : Type 0 where
  pub ranges : store_in (store_of state) (journal_of state) ≡ true
  pub small : t < transaction_count
  pub begun : (transaction_of state t).begun ≡ true

-- The files that are closed at the minute, as an octet: bit f for file f.
unfoldable pub closed_files : List ℕ → ℕ → ℕ
closed_files state minute = bits_of (is_closed_at (window_at (store_of state)) minute) file_count

-- Write record k of transaction t has a byte for a file of the octet; and one of its records has.
unfoldable pub record_has_byte_for : List ℕ → ℕ → ℕ → ℕ → Bool
record_has_byte_for state t octet k =
    let w = write_record_at (journal_of state) t k in
    ltb 0 w.length && contains octet (get_or (store_of state).filenumbers w.descriptor 0)

unfoldable pub has_byte_for : List ℕ → ℕ → ℕ → Bool
has_byte_for state t octet = some_below (record_has_byte_for state t octet) (transaction_of state t).used.records

-- 02, F-11: "21 when a byte would go to a closed file" [R-9.3], as the rules say it of transaction t.
abbrev pub has_byte_for_closed : List ℕ → List ℕ → ℕ → ℕ → Bool
has_byte_for_closed state logs t minute =
    let s = store_of state in
    for_closed (file_of s) (window_at s) minute (txn_of s (journal_of state) logs t).writes
