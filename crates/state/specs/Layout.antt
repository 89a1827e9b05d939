-- The state as a caller lends it, a list of numbers, and what they mean. Nothing but this and Updates.antt
-- knows how they are laid out:
--     0       the journal (Journal.antt)
--     1728    the transactions, 38 numbers each; number k of the eight transactions stands in a row, so that
--             one vector is eight transactions. They are the first numbers of the sixteen standings, their
--             second numbers; then begun, stale, the lengths sighted, the dirty descriptors as bits, records
--             used, bytes used
--     2032    the file numbers of the sixteen descriptors
--     2048    their committed offsets
--     2064    the committed lengths of the eight files
--     2072    the starts of their windows
--     2080    the ends of their windows
--     2088    the offsets that the last grant found
--     2104    the lengths that it found
--     2112    whether it can be undone, its write records, its bytes
-- Every number is looked at: there is no spare one.
use Rattle.std.specs.Prelude.{Bool, List, eqb, get_or, ℕ, zero, suc, ◌+◌, ◌-◌, ◌*◌}
use Rattle.limits.specs.Limits.{file_count, descriptor_count, transaction_count}
use Rattle.buffers.specs.Parts.{tabulate}
use Rattle.buffers.specs.Marks.{contains}
use Rattle.counters.specs.declared.Used.{Used}
use Rattle.windows.specs.declared.Window.{Window}
use Rattle.windows.specs.Windows.{window}
use Rattle.standings.specs.declared.Standing.{Standing}
use Rattle.standings.specs.declared.Standing.TheVariants.{Untouched, Placed, Deferred, Moved, Known}
use Rattle.state.specs.declared.Descriptor.{Descriptor}
use Rattle.state.specs.declared.Transaction.{Transaction}
use Rattle.state.specs.declared.Undo.{Undo}
use Rattle.state.specs.declared.StoreMeaning.{StoreMeaning}
use Rattle.state.specs.Journal.{journal_length}

-- Where each part starts, as the sum of what stands before it.
abbrev pub transactions_at : ℕ
transactions_at = journal_length

-- How many numbers a transaction has.
abbrev pub transaction_length : ℕ
transaction_length = 38

abbrev pub file_numbers_at : ℕ
file_numbers_at = transactions_at + transaction_count * transaction_length

abbrev pub offsets_at : ℕ
offsets_at = file_numbers_at + descriptor_count

abbrev pub lengths_at : ℕ
lengths_at = offsets_at + descriptor_count

abbrev pub starts_at : ℕ
starts_at = lengths_at + file_count

abbrev pub ends_at : ℕ
ends_at = starts_at + file_count

abbrev pub found_offsets_at : ℕ
found_offsets_at = ends_at + file_count

abbrev pub found_lengths_at : ℕ
found_lengths_at = found_offsets_at + descriptor_count

abbrev pub undo_valid_at : ℕ
undo_valid_at = found_lengths_at + file_count

-- How many numbers a state has: the one place that says so.
abbrev pub state_length : ℕ
state_length = undo_valid_at + 3

-- Where each stands among a transaction's numbers, behind the first numbers of its standings.
abbrev pub second_slot : ℕ
second_slot = descriptor_count

abbrev pub begun_slot : ℕ
begun_slot = second_slot + descriptor_count

abbrev pub stale_flag_slot : ℕ
stale_flag_slot = begun_slot + 1

abbrev pub lengthmarks_slot : ℕ
lengthmarks_slot = begun_slot + 2

abbrev pub dirty_slot : ℕ
dirty_slot = begun_slot + 3

abbrev pub records_slot : ℕ
records_slot = begun_slot + 4

abbrev pub bytes_slot : ℕ
bytes_slot = begun_slot + 5

-- ---- what numbers mean: every number means something, and none is cut

-- Two numbers as a standing: one more than its offset, or 0 where it carries none; and two more than its
-- advance, or 0 where it carries none, or 1 where it is Known. "Each standing carries the numbers named
-- beside it and no others" [R-3.1]. The pair 0, 1, which Updates.antt never puts, is Known at 0.
unfoldable pub standing_of : ℕ → ℕ → Standing
standing_of a (suc zero) = Known (a - 1)
standing_of zero zero = Untouched
standing_of (suc o) zero = Placed o
standing_of zero (suc (suc n)) = Deferred n
standing_of (suc o) (suc (suc n)) = Moved n o

-- A flag is set where its number is 1.
abbrev pub is_set : ℕ → Bool
is_set n = eqb n 1

-- Where number k of transaction t stands.
abbrev pub number_at : ℕ → ℕ → ℕ
number_at t k = transactions_at + transaction_count * k + t

unfoldable pub descriptor_of : List ℕ → ℕ → ℕ → Descriptor
descriptor_of r t d =
    record {
      standing = standing_of (get_or r (number_at t d) 0) (get_or r (number_at t (second_slot + d)) 0);
      dirty = contains (get_or r (number_at t dirty_slot) 0) d;
    }

unfoldable pub used_of : List ℕ → ℕ → Used
used_of r t =
    record { records = get_or r (number_at t records_slot) 0; bytes = get_or r (number_at t bytes_slot) 0 }

unfoldable pub transaction_of : List ℕ → ℕ → Transaction
transaction_of r t =
    record {
      begun = is_set (get_or r (number_at t begun_slot) 0);
      stale = is_set (get_or r (number_at t stale_flag_slot) 0);
      lengthmarks = get_or r (number_at t lengthmarks_slot) 0;
      used = used_of r t;
      descriptors = tabulate (descriptor_of r t) descriptor_count;
    }

unfoldable pub window_of : List ℕ → ℕ → Window
window_of r f = window (get_or r (starts_at + f) 0) (get_or r (ends_at + f) 0)

-- 02, F-13: "the last grant's old .. offsets and lengths are held .. in the record" [R-12.2], beside part 8
-- of the journal and its counters.
unfoldable pub undo_of : List ℕ → Undo
undo_of r =
    record {
      valid = is_set (get_or r undo_valid_at 0);
      used = record { records = get_or r (undo_valid_at + 1) 0; bytes = get_or r (undo_valid_at + 2) 0 };
      offsets = tabulate (λ d. get_or r (found_offsets_at + d) 0) descriptor_count;
      lengths = tabulate (λ f. get_or r (found_lengths_at + f) 0) file_count;
    }

-- The record's meaning, in two parts.
unfoldable pub store_of : List ℕ → StoreMeaning
store_of r =
    record {
      filenumbers = tabulate (λ d. get_or r (file_numbers_at + d) 0) descriptor_count;
      offsets = tabulate (λ d. get_or r (offsets_at + d) 0) descriptor_count;
      lengths = tabulate (λ f. get_or r (lengths_at + f) 0) file_count;
      windows = tabulate (window_of r) file_count;
      undo = undo_of r;
      transactions = tabulate (transaction_of r) transaction_count;
    }

unfoldable pub journal_of : List ℕ → List ℕ
journal_of r = tabulate (λ i. get_or r i 0) journal_length
