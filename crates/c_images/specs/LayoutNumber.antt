-- The layout of the state that has the number `layout_number` (ImageCalls.antt). Whoever moves a number of the
-- state, or gives it another meaning, finds `LayoutIsNumbered` without a proof: write the new places here,
-- and raise layout_number and `luzhanem_parts_layout`. It follows from state/specs/Layout.antt, as an example
-- does: nobody has to believe it.
use Rattle.std.specs.Prelude.{List, ◌≡◌, get_or, ℕ, ◌+◌, ◌*◌, ◌<◌}
use Rattle.counters.specs.declared.Used.{Used}
use Rattle.buffers.specs.Marks.{contains}
use Rattle.windows.specs.Windows.{window}
use Rattle.standings.specs.declared.Standing.TheVariants.{Untouched, Placed, Deferred, Moved, Known}
use Rattle.state.specs.StoreMeaning.{transaction, standing_at, dirty_at, window_at}
use Rattle.state.specs.Journal.{decoded, write_record_at}
use Rattle.state.specs.Layout.{is_set, standing_of, store_of, journal_of, state_length}

abbrev pub records_of_grant : ℕ → ℕ → Used
records_of_grant records bytes = record { records = records; bytes = bytes }

-- The two numbers of each standing, and the one pair that no call puts.
pub record StandingCodes : Type 0 where
  pub untouched : standing_of 0 0 ≡ Untouched
  pub placed : (o : ℕ) → standing_of (o + 1) 0 ≡ Placed o
  pub deferred : (a : ℕ) → standing_of 0 (a + 2) ≡ Deferred a
  pub moved : (a o : ℕ) → standing_of (o + 1) (a + 2) ≡ Moved a o
  pub known : (o : ℕ) → standing_of (o + 1) 1 ≡ Known o
  pub left_over : standing_of 0 1 ≡ Known 0

-- Where the numbers of a state r stand.
pub record NumberedLayout (r : List ℕ) : Type 0 where
  pub size : state_length ≡ 2115
  pub records :
      (t k : ℕ) → t < 9 → k < 64
      → let at = 3 * (64 * t + k) in
      write_record_at (journal_of r) t k ≡ decoded (get_or r at 0) (get_or r (at + 1) 0) (get_or r (at + 2) 0)
  pub codes : StandingCodes
  pub standings :
      (t d : ℕ) → t < 8 → d < 16
      → standing_at (transaction (store_of r) t) d
      ≡ standing_of (get_or r (1728 + 8 * d + t) 0) (get_or r (1856 + 8 * d + t) 0)
  pub begun : (t : ℕ) → t < 8 → (transaction (store_of r) t).begun ≡ is_set (get_or r (1984 + t) 0)
  pub stale : (t : ℕ) → t < 8 → (transaction (store_of r) t).stale ≡ is_set (get_or r (1992 + t) 0)
  pub lengths_sighted : (t : ℕ) → t < 8 → (transaction (store_of r) t).lengthmarks ≡ get_or r (2000 + t) 0
  pub dirty :
      (t d : ℕ) → t < 8 → d < 16
      → dirty_at (transaction (store_of r) t) d ≡ contains (get_or r (2008 + t) 0) d
  pub used :
      (t : ℕ) → t < 8
      → (transaction (store_of r) t).used ≡ records_of_grant (get_or r (2016 + t) 0) (get_or r (2024 + t) 0)
  pub files : (d : ℕ) → d < 16 → get_or (store_of r).filenumbers d 0 ≡ get_or r (2032 + d) 0
  pub offsets : (d : ℕ) → d < 16 → get_or (store_of r).offsets d 0 ≡ get_or r (2048 + d) 0
  pub lengths : (f : ℕ) → f < 8 → get_or (store_of r).lengths f 0 ≡ get_or r (2064 + f) 0
  pub windows : (f : ℕ) → f < 8 → window_at (store_of r) f ≡ window (get_or r (2072 + f) 0) (get_or r (2080 + f) 0)
  pub found_offsets : (d : ℕ) → d < 16 → get_or (store_of r).undo.offsets d 0 ≡ get_or r (2088 + d) 0
  pub found_lengths : (f : ℕ) → f < 8 → get_or (store_of r).undo.lengths f 0 ≡ get_or r (2104 + f) 0
  pub undo_valid : (store_of r).undo.valid ≡ is_set (get_or r 2112 0)
  pub grant_used : (store_of r).undo.used ≡ records_of_grant (get_or r 2113 0) (get_or r 2114 0)

abbrev pub LayoutIsNumbered : Type 0
LayoutIsNumbered = (r : List ℕ) → NumberedLayout r
