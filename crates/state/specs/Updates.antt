-- How the code puts a meaning into the state's numbers (Layout.antt): in one form. The promises of the calls
-- do not name these; those of the functions below them do.
use Rattle.std.specs.Prelude.{Bool, true, false, cond, List, get_or, set, ℕ, zero, suc, ◌+◌, ◌≤◌}
use Rattle.limits.specs.Limits.{file_count, descriptor_count}
use Rattle.buffers.specs.Bits.{with_bit_as}
use Rattle.counters.specs.declared.Used.{Used}
use Rattle.windows.specs.declared.Window.{Window}
use Rattle.standings.specs.declared.Standing.{Standing}
use Rattle.standings.specs.declared.Standing.TheVariants.{Untouched, Placed, Deferred, Moved, Known}
use Rattle.standings.specs.Table.{advance, offset_of}
use Rattle.state.specs.declared.Descriptor.{Descriptor}
use Rattle.state.specs.Layout.{number_at, second_slot, begun_slot, stale_flag_slot, lengthmarks_slot}
use Rattle.state.specs.Layout.{dirty_slot, records_slot, bytes_slot, transaction_length}
use Rattle.state.specs.Layout.{file_numbers_at, offsets_at, lengths_at, starts_at, ends_at}
use Rattle.state.specs.Layout.{found_offsets_at, found_lengths_at, undo_valid_at}

abbrev pub first_number : Standing → ℕ
first_number Untouched = 0
first_number (Placed o) = o + 1
first_number (Deferred a) = 0
first_number (Moved a o) = o + 1
first_number (Known o) = o + 1

abbrev pub second_number : Standing → ℕ
second_number Untouched = 0
second_number (Placed o) = 0
second_number (Deferred a) = a + 2
second_number (Moved a o) = a + 2
second_number (Known o) = 1

-- Both are numbers of 16 bits. Whatever passes refusal 2 is far below.
abbrev pub StandingFits : Standing → Type 0
StandingFits z = (offset_of z ≤ 65534) × (advance z ≤ 65533)

abbrev pub flag_number : Bool → ℕ
flag_number true = 1
flag_number false = 0

-- The record with descriptor d of transaction t as q; with f 0, f 1, .. in the place of those below n that
-- are chosen.
unfoldable pub with_descriptor_at : List ℕ → ℕ → ℕ → Descriptor → List ℕ
with_descriptor_at r t d q =
    let z = q.standing in
    set (set (set r (number_at t d) (first_number z)) (number_at t (second_slot + d)) (second_number z))
    (number_at t dirty_slot) (with_bit_as d q.dirty (get_or r (number_at t dirty_slot) 0))

unfoldable pub with_chosen_at : List ℕ → ℕ → (ℕ → Bool) → (ℕ → Descriptor) → ℕ → List ℕ
with_chosen_at r t chosen f zero = r
with_chosen_at r t chosen f (suc n) =
    let s = with_chosen_at r t chosen f n in
    cond (chosen n) (with_descriptor_at s t n (f n)) s

-- With the two counters of transaction t as u; with t stale; with n as the lengths that it has sighted.
unfoldable pub with_used_at : List ℕ → ℕ → Used → List ℕ
with_used_at r t u =
    set (set r (number_at t records_slot) u.records) (number_at t bytes_slot) u.bytes

abbrev pub with_stale_at : List ℕ → ℕ → List ℕ
with_stale_at r t = set r (number_at t stale_flag_slot) 1

abbrev pub with_lengthmarks_at : List ℕ → ℕ → ℕ → List ℕ
with_lengthmarks_at r t n = set r (number_at t lengthmarks_slot) n

-- With zeros as the first n numbers of transaction t; with it as one that has ended, or as one just begun.
unfoldable pub zeroed_at : List ℕ → ℕ → ℕ → List ℕ
zeroed_at r t zero = r
zeroed_at r t (suc n) = set (zeroed_at r t n) (number_at t n) 0

unfoldable pub reset_at : List ℕ → ℕ → Bool → List ℕ
reset_at r t begun = set (zeroed_at r t transaction_length) (number_at t begun_slot) (flag_number begun)

-- With another file number, committed offset, committed length, window; with f 0, f 1, .. as the file numbers
-- below n.
abbrev pub with_file_number_at : List ℕ → ℕ → ℕ → List ℕ
with_file_number_at r d n = set r (file_numbers_at + d) n

abbrev pub with_offset_at : List ℕ → ℕ → ℕ → List ℕ
with_offset_at r d n = set r (offsets_at + d) n

abbrev pub with_length_at : List ℕ → ℕ → ℕ → List ℕ
with_length_at r f n = set r (lengths_at + f) n

abbrev pub with_window_at : List ℕ → ℕ → Window → List ℕ
with_window_at r f w = set (set r (starts_at + f) w.start) (ends_at + f) w.end

unfoldable pub with_file_numbers_at : List ℕ → (ℕ → ℕ) → ℕ → List ℕ
with_file_numbers_at r f zero = r
with_file_numbers_at r f (suc n) = with_file_number_at (with_file_numbers_at r f n) n (f n)

-- With the last grant held or not; with its two counters as u; with another offset, another length that it
-- found.
abbrev pub with_undo_valid_at : List ℕ → Bool → List ℕ
with_undo_valid_at r held = set r undo_valid_at (flag_number held)

abbrev pub with_undo_used_at : List ℕ → Used → List ℕ
with_undo_used_at r u = set (set r (undo_valid_at + 1) u.records) (undo_valid_at + 2) u.bytes

abbrev pub with_found_offset_at : List ℕ → ℕ → ℕ → List ℕ
with_found_offset_at r d n = set r (found_offsets_at + d) n

abbrev pub with_found_length_at : List ℕ → ℕ → ℕ → List ℕ
with_found_length_at r f n = set r (found_lengths_at + f) n

-- With the n numbers from `from` on copied to those from `to` on, one after the other; with the committed
-- offsets and lengths as those that the grant found; with these as the committed ones.
unfoldable pub copied_to : List ℕ → ℕ → ℕ → ℕ → List ℕ
copied_to r from to zero = r
copied_to r from to (suc n) =
    let s = copied_to r from to n in
    set s (to + n) (get_or s (from + n) 0)

abbrev pub with_committed_found : List ℕ → List ℕ
with_committed_found r = copied_to r offsets_at found_offsets_at (descriptor_count + file_count)

abbrev pub with_found_committed : List ℕ → List ℕ
with_found_committed r = copied_to r found_offsets_at offsets_at (descriptor_count + file_count)
