-- The record's first part: transactions and their descriptors, each field with its updater.
use Rattle.std.specs.Prelude.{Bool, true, false, List, [], get_or, set, replicate, ℕ}
use Rattle.limits.specs.Limits.{file_count, descriptor_count}
use Rattle.counters.specs.declared.Used.{Used}
use Rattle.windows.specs.declared.Window.{Window}
use Rattle.windows.specs.Windows.{fresh_window}
use Rattle.standings.specs.declared.Standing.{Standing}
use Rattle.standings.specs.declared.Standing.TheVariants.{Untouched}
use Rattle.state.specs.declared.Descriptor.{Descriptor}
use Rattle.state.specs.declared.Transaction.{Transaction}
use Rattle.state.specs.declared.Undo.{Undo}
use Rattle.state.specs.declared.StoreMeaning.{StoreMeaning}

-- ---- a transaction

-- A descriptor that nobody touched; it also stands in an array of descriptors past its end.
abbrev pub no_descriptor : Descriptor
no_descriptor = record { standing = Untouched; dirty = false }

-- A transaction of these parts.
abbrev pub transaction_with : Bool → Bool → ℕ → Used → List Descriptor → Transaction
transaction_with b s n u ds = record { begun = b; stale = s; lengthmarks = n; used = u; descriptors = ds }

-- "an ended transaction has an empty log, sixteen Untouched descriptors and is not stale" [R-10.2]; it has
-- sighted no length.
abbrev pub none_used : Used
none_used = record { records = 0; bytes = 0 }

unfoldable pub ended : Transaction
ended = transaction_with false false 0 none_used (replicate descriptor_count no_descriptor)

-- What stands in an array of transactions past its end.
abbrev pub no_transaction : Transaction
no_transaction = transaction_with false false 0 none_used []

-- A transaction with another value in one field.
abbrev pub with_begun : Bool → Transaction → Transaction
with_begun b x = transaction_with b x.stale x.lengthmarks x.used x.descriptors

abbrev pub with_stale : Bool → Transaction → Transaction
with_stale b x = transaction_with x.begun b x.lengthmarks x.used x.descriptors

abbrev pub with_lengthmarks : ℕ → Transaction → Transaction
with_lengthmarks n x = transaction_with x.begun x.stale n x.used x.descriptors

abbrev pub with_used : Used → Transaction → Transaction
with_used u x = transaction_with x.begun x.stale x.lengthmarks u x.descriptors

abbrev pub with_descriptors : List Descriptor → Transaction → Transaction
with_descriptors ds x = transaction_with x.begun x.stale x.lengthmarks x.used ds

-- "Begin gives an empty log, sixteen Untouched descriptors, no marks, not stale." [R-1.7]
unfoldable pub begun : Transaction
begun = with_begun true ended

-- The standing of descriptor d.
abbrev pub standing_at : Transaction → ℕ → Standing
standing_at x d = (get_or x.descriptors d no_descriptor).standing

-- Whether descriptor d is dirty.
abbrev pub dirty_at : Transaction → ℕ → Bool
dirty_at x d = (get_or x.descriptors d no_descriptor).dirty

-- ---- the store

-- What is held of a grant; and nothing.
abbrev pub undo_with : Bool → Used → List ℕ → List ℕ → Undo
undo_with b u os ls = record { valid = b; used = u; offsets = os; lengths = ls }

abbrev pub no_undo : Undo
no_undo = undo_with false none_used (replicate descriptor_count 0) (replicate file_count 0)

abbrev pub with_valid : Bool → Undo → Undo
with_valid b u = undo_with b u.used u.offsets u.lengths

-- A store of these parts, and one with another value in one field.
abbrev pub store_with : List ℕ → List ℕ → List ℕ → List Window → Undo → List Transaction → StoreMeaning
store_with ns os ls ws u xs =
    record { filenumbers = ns; offsets = os; lengths = ls; windows = ws; undo = u; transactions = xs }

abbrev pub with_offsets : List ℕ → StoreMeaning → StoreMeaning
with_offsets os s = store_with s.filenumbers os s.lengths s.windows s.undo s.transactions

abbrev pub with_lengths : List ℕ → StoreMeaning → StoreMeaning
with_lengths ls s = store_with s.filenumbers s.offsets ls s.windows s.undo s.transactions

abbrev pub with_windows : List Window → StoreMeaning → StoreMeaning
with_windows ws s = store_with s.filenumbers s.offsets s.lengths ws s.undo s.transactions

abbrev pub with_undo : Undo → StoreMeaning → StoreMeaning
with_undo u s = store_with s.filenumbers s.offsets s.lengths s.windows u s.transactions

abbrev pub with_transactions : List Transaction → StoreMeaning → StoreMeaning
with_transactions xs s = store_with s.filenumbers s.offsets s.lengths s.windows s.undo xs

-- The window of file f.
abbrev pub window_at : StoreMeaning → ℕ → Window
window_at s f = get_or s.windows f fresh_window

-- Transaction t of the store, and the store with another in its place.
abbrev pub transaction : StoreMeaning → ℕ → Transaction
transaction s t = get_or s.transactions t no_transaction

unfoldable pub with_transaction : ℕ → Transaction → StoreMeaning → StoreMeaning
with_transaction t x s = with_transactions (set s.transactions t x) s
