-- The table of paper 01 once more, row by row and with numbers: what each call makes of each standing.
use Rattle.std.specs.Prelude.{true, false, ◌≡◌}
use Rattle.standings.specs.declared.Standing.TheVariants.{Untouched, Placed, Deferred, Moved, Known}
use Rattle.standings.specs.declared.Place.TheVariants.{At, After}
use Rattle.standings.specs.Table.{after_seek, after_write, after_read, pointer_settles, read_settles}
use Rattle.standings.specs.Table.{settled, offset_of, write_place}
use Rattle.standings.specs.Table.{advance, is_touched, final_offset, is_known, may_wait, place_number}

-- "Seek v" [R-3.2]: v is 9. "Write n" [R-3.2], "Read" [R-3.2]: n is 2. Settled at committed offset 5; a write
-- lies at its place or after its advance.
pub record Rows : Type 0 where
  -- | Untouched | nothing | Placed | Deferred, advance n | settle, then Known | settle, then Known |
  pub untouched :
      (after_seek 9 Untouched ≡ Placed 9) × (after_write 2 Untouched ≡ Deferred 2)
      × (write_place Untouched ≡ After 0)
      × (pointer_settles Untouched ≡ true) × (read_settles true true Untouched ≡ true)
      × (settled 5 Untouched ≡ Known 5)
  -- | Placed | offset | stays | stays | stays | stays |
  pub placed :
      (after_seek 9 (Placed 3) ≡ Placed 9) × (after_write 2 (Placed 3) ≡ Placed 5)
      × (write_place (Placed 3) ≡ At 3)
      × (pointer_settles (Placed 3) ≡ false) × (read_settles true true (Placed 3) ≡ false)
      × (after_read 2 (Placed 3) ≡ Placed 5)
  -- | Deferred | advance | Moved | stays, advance + n | settle, then Known | settle, then Known |
  pub deferred :
      (after_seek 9 (Deferred 4) ≡ Moved 4 9) × (after_write 2 (Deferred 4) ≡ Deferred 6)
      × (write_place (Deferred 4) ≡ After 4)
      × (pointer_settles (Deferred 4) ≡ true) × (read_settles true false (Deferred 4) ≡ true)
      × (settled 5 (Deferred 4) ≡ Known 9)
  -- | Moved | advance, offset | stays | stays | stays | settle, then Known |
  pub moved :
      (after_seek 9 (Moved 4 3) ≡ Moved 4 9) × (after_write 2 (Moved 4 3) ≡ Moved 4 5)
      × (write_place (Moved 4 3) ≡ At 3)
      × (pointer_settles (Moved 4 3) ≡ false) × (read_settles true false (Moved 4 3) ≡ true)
      × (settled 5 (Moved 4 3) ≡ Known 3)
  -- | Known | offset | stays | stays | stays | stays |
  pub known :
      (after_seek 9 (Known 3) ≡ Known 9) × (after_write 2 (Known 3) ≡ Known 5) × (write_place (Known 3) ≡ At 3)
      × (pointer_settles (Known 3) ≡ false) × (read_settles true true (Known 3) ≡ false)
      × (after_read 2 (Known 3) ≡ Known 5)
  -- Of another file nothing is settled, and of d's file no other Untouched descriptor.
  pub neighbours :
      (read_settles false false (Deferred 4) ≡ false) × (read_settles false false (Moved 4 3) ≡ false)
      × (read_settles true false Untouched ≡ false)
  -- "GetFilePointer answers the offset." [R-3.3]
  pub pointers : (offset_of (Placed 3) ≡ 3) × (offset_of (Moved 4 3) ≡ 3) × (offset_of (Known 3) ≡ 3)
  -- "the offset of every descriptor not Untouched is set ..: committed offset plus advance if Deferred,
  -- otherwise its own" [R-9.7]
  pub set :
      (is_touched Untouched ≡ false) × (is_touched (Placed 3) ≡ true) × (is_touched (Deferred 4) ≡ true)
      × (is_touched (Moved 4 3) ≡ true)
      × (is_touched (Known 3) ≡ true) × (final_offset 5 (Placed 3) ≡ 3) × (final_offset 5 (Deferred 4) ≡ 9)
      × (final_offset 5 (Moved 4 3) ≡ 3)
      × (final_offset 5 (Known 3) ≡ 3)
  -- "A sighting is an offset that was settled" [R-7.1]: Known, and no other.
  pub sighted :
      (is_known Untouched ≡ false) × (is_known (Placed 3) ≡ false) × (is_known (Deferred 4) ≡ false)
      × (is_known (Moved 4 3) ≡ false)
      × (is_known (Known 3) ≡ true)
  -- The advance that each carries, 0 where it carries none; and under which a record may wait for its place.
  pub advances :
      (advance Untouched ≡ 0) × (advance (Placed 3) ≡ 0) × (advance (Deferred 4) ≡ 4)
      × (advance (Moved 4 3) ≡ 4) × (advance (Known 3) ≡ 0)
  pub waits :
      (may_wait Untouched ≡ false) × (may_wait (Placed 3) ≡ false) × (may_wait (Deferred 4) ≡ true)
      × (may_wait (Moved 4 3) ≡ true)
      × (may_wait (Known 3) ≡ false)
  pub places : (place_number (At 3) ≡ 3) × (place_number (After 4) ≡ 4)
