-- The write records of a file in one pass, where they come in ascending order. The promises of the calls do
-- not name this; those of the functions below them do.
use Rattle.std.specs.Prelude.{true, false, cond, ◌&&◌, List, ◌++◌, ◌≡◌, leb, eqb, get_or, ℕ, zero, suc, ◌+◌, ◌-◌, ◌*◌, ◌≤◌, ◌<◌}
use Rattle.limits.specs.Limits.{file_bytes}
use Rattle.buffers.specs.Parts.{pasted}
use Rattle.standings.specs.declared.Place.{Place}
use Rattle.standings.specs.declared.Place.TheVariants.{At, After}
use Rattle.state.specs.declared.journal.WriteRecord.{WriteRecord}
use Rattle.state.specs.Journal.{write_record_at}
use Rattle.spec.specs.Places.{sixteen}
use Rattle.read_lookup.specs.Lookup.{Recorded}
use Rattle.call_places.specs.declared.ascending.Sweep.{Sweep}

-- Before the first record.
abbrev pub unswept : Sweep
unswept = record { ascending = true; intervals = 0; offset = 0; next = 0 }

-- n bytes at place p begin another interval, or go on with the last one, which must end there.
unfoldable pub swept_place : Sweep → ℕ → ℕ → Sweep
swept_place s p n =
    cond (leb s.next p)
    (record { ascending = s.ascending; intervals = s.intervals + 1; offset = p; next = p + n + 1 })
    (record {
      ascending = s.ascending && eqb s.next (p + 1);
      intervals = s.intervals;
      offset = s.offset;
      next = p + n + 1;
    })

-- A write of n bytes; one without a place does not ascend.
unfoldable pub swept_write : Sweep → Place → ℕ → Sweep
swept_write s (At p) n = cond (eqb n 0) s (swept_place s p n)
swept_write s (After a) n =
    record { ascending = false; intervals = s.intervals; offset = s.offset; next = s.next }

-- A write record, passed over where it is one of another file.
unfoldable pub swept_record : List ℕ → ℕ → Sweep → WriteRecord → Sweep
swept_record filenumbers f s w =
    cond (eqb (get_or filenumbers w.descriptor 0) f) (swept_write s w.place w.length) s

-- The pass over the first so many records of transaction t.
unfoldable pub swept_in : Recorded → ℕ → ℕ → ℕ → Sweep
swept_in j t f zero = unswept
swept_in j t f (suc k) = swept_record j.filenumbers f (swept_in j t f k) (write_record_at j.journal t k)

-- Each of transaction t's first so many records that has a place ends within the file.
abbrev pub WithinFile : Recorded → ℕ → ℕ → Type 0
WithinFile j t records = (k p : ℕ) → k < records → (write_record_at j.journal t k).place ≡ At p
    → p + (write_record_at j.journal t k).length ≤ file_bytes

-- A buffer with the pair of the last interval at its place.
unfoldable pub with_last : Sweep → List ℕ → List ℕ
with_last s out =
    cond (eqb s.next 0) out
    (pasted out (4 * (s.intervals - 1)) (sixteen s.offset ++ sixteen (s.next - 1 - s.offset)))
