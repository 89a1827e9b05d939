-- A write on the state: whether there is room for it, and what it changes.
use Rattle.std.specs.Prelude.{true, List, leb, set, ℕ, ◌+◌, ◌≤◌, ◌<◌}
use Rattle.limits.specs.Limits.{file_bytes, record_count, log_bytes}
use Rattle.counters.specs.declared.Used.{Used}
use Rattle.standings.specs.declared.Place.{Place}
use Rattle.standings.specs.declared.Standing.{Standing}
use Rattle.standings.specs.Table.{place_number, write_place, after_write}
use Rattle.state.specs.declared.StoreMeaning.{StoreMeaning}
use Rattle.state.specs.StoreMeaning.{transaction, with_used, with_descriptors, with_transaction}
use Rattle.state.specs.Journal.{with_record_at}
use Rattle.admission.specs.FirstRefusal.{unless}

-- Refusals 9 to 11 for a write of n bytes; 0 stands for none.
unfoldable pub write_refusal : Place → Used → ℕ → ℕ
write_refusal place used n =
    unless (leb (place_number place + n) file_bytes) 9
    (unless (leb (used.records + 1) record_count) 10
    (unless (leb (used.bytes + n) log_bytes) 11 0))

-- What passing these tests tells.
pub record WriteRoom (place : Place) (used : Used) (n : ℕ) : Type 0 where
  pub file : place_number place + n ≤ file_bytes
  pub records : used.records < record_count
  pub log : used.bytes + n ≤ log_bytes

-- The state with one write more of transaction t: n bytes through descriptor d, which stood at z, the
-- counters as in `used`. First transactions and descriptors, then the journal.
unfoldable pub store_written : ℕ → ℕ → Standing → Used → ℕ → StoreMeaning → StoreMeaning
store_written t d z used n s =
    let x = transaction s t in
    with_transaction t
    (with_used (record { records = used.records + 1; bytes = used.bytes + n })
    (with_descriptors (set x.descriptors d (record { standing = after_write n z; dirty = true })) x)) s

unfoldable pub journal_written : ℕ → ℕ → Standing → Used → ℕ → List ℕ → List ℕ
journal_written t d z used n journal =
    with_record_at journal t used.records (record { descriptor = d; place = write_place z; length = n })
