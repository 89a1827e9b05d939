-- A commit that is granted: what it has passed, and the transactions that it makes stale.
use Rattle.std.specs.Prelude.{true, cond, List, ◌≡◌, length, ℕ}
use Rattle.limits.specs.Limits.{buffer_bytes, transaction_count, undo_bytes}
use Rattle.buffers.specs.Parts.{tabulate}
use Rattle.buffers.specs.Marks.{contains}
use Rattle.state.specs.declared.StoreMeaning.{StoreMeaning}
use Rattle.state.specs.declared.Transaction.{Transaction}
use Rattle.state.specs.StoreMeaning.{transaction, with_stale, with_transactions}
use Rattle.state.specs.Layout.{transaction_of, store_of, journal_of}
use Rattle.admission.specs.Admission.{lengths_before}
use Rattle.spec.specs.Machine.{Machine, txn_of}
use Rattle.spec.specs.Calls.{Turn, commit_granted, settings_of}
use Rattle.commit_apply.specs.Apply.{places_fit, CanLandIn}

-- The placing of transaction t, which is x, fits, its writes land inside the files, and its counter of bytes
-- is theirs.
pub record CanGrant (state files logs marks undo : List ℕ) (t : ℕ) (x : Transaction) : Type 0 where
  pub files_length : length files ≡ buffer_bytes
  pub logs_length : length logs ≡ buffer_bytes
  pub marks_length : length marks ≡ buffer_bytes
  pub undo_length : length undo ≡ undo_bytes
  pub own : x ≡ transaction_of state t
  pub fits : places_fit (store_of state) x ≡ true
  pub lands : CanLandIn state t x.used.records
  pub bytes : lengths_before (journal_of state) t x.used.records ≡ x.used.bytes

-- What a granted commit does.
abbrev pub grant_turn : ℕ → Machine → Turn
grant_turn t m = commit_granted t (txn_of m.store m.journal m.logs t) (settings_of m t) m

-- Transaction u once those of the octet are stale, and the store then.
abbrev pub stale_in : ℕ → StoreMeaning → ℕ → Transaction
stale_in octet s u = let y = transaction s u in cond (contains octet u) (with_stale true y) y

abbrev pub with_stale_in : ℕ → StoreMeaning → StoreMeaning
with_stale_in octet s = with_transactions (tabulate (stale_in octet s) transaction_count) s
