-- The record's second part: the journal, a list of numbers with the write records of all transactions and of
-- the last grant. Nothing else knows how they are laid out.
use Rattle.std.specs.Prelude.{Bool, true, false, List, ltb, get_or, set, ℕ, zero, suc, ◌+◌, ◌-◌, ◌*◌}
use Rattle.limits.specs.Limits.{descriptor_count, transaction_count, record_count}
use Rattle.standings.specs.declared.Place.{Place}
use Rattle.standings.specs.declared.Place.TheVariants.{At, After}
use Rattle.standings.specs.Table.{place_number}
use Rattle.state.specs.declared.journal.WriteRecord.{WriteRecord}

-- A write record takes three numbers in a row. The first is its descriptor, with 16 added while the record
-- has no place.
abbrev pub descriptor_code : ℕ → Place → ℕ
descriptor_code d (At p) = d
descriptor_code d (After a) = descriptor_count + d

unfoldable pub decoded_as : Bool → ℕ → ℕ → ℕ → WriteRecord
decoded_as true h p n = record { descriptor = h; place = At p; length = n }
decoded_as false h p n = record { descriptor = h - descriptor_count; place = After p; length = n }

unfoldable pub decoded : ℕ → ℕ → ℕ → WriteRecord
decoded h p n = decoded_as (ltb h descriptor_count) h p n

-- 64 write records make a part. Part t has those of transaction t; behind all of them part 8 has
-- those of the last grant, with the places at which they landed (02, F-13).
abbrev pub last_grant : ℕ
last_grant = transaction_count

abbrev pub journal_parts : ℕ
journal_parts = last_grant + 1

-- How many numbers the journal has: three for each write record of each part.
abbrev pub journal_length : ℕ
journal_length = 3 * (record_count * journal_parts)

-- Write record k of part t.
unfoldable pub write_record_at : List ℕ → ℕ → ℕ → WriteRecord
write_record_at journal t k =
    let i = 3 * (record_count * t + k) in
    decoded (get_or journal i 0) (get_or journal (i + 1) 0) (get_or journal (i + 2) 0)

-- The journal with another record there; and with f 0, f 1, .. below n as the first records of part t.
unfoldable pub with_record_at : List ℕ → ℕ → ℕ → WriteRecord → List ℕ
with_record_at journal t k w =
    let i = 3 * (record_count * t + k) in
    set (set (set journal i (descriptor_code w.descriptor w.place)) (i + 1) (place_number w.place))
    (i + 2) w.length

unfoldable pub with_records : List ℕ → ℕ → (ℕ → WriteRecord) → ℕ → List ℕ
with_records journal t f zero = journal
with_records journal t f (suc n) = with_record_at (with_records journal t f n) t n (f n)
