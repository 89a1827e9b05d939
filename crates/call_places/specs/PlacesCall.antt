-- The places of a file that a transaction's write records cover, and those of its records that have no place
-- yet.
use Rattle.std.specs.Prelude.{is_some, Bool, true, false, not, ◌&&◌, List, ◌≡◌, eqb, get_or, ℕ, ◌+◌, ◌≤◌, ◌<◌}
use Rattle.limits.specs.Limits.{file_bytes}
use Rattle.counters.specs.declared.Used.{Used}
use Rattle.state.specs.declared.journal.WriteRecord.{WriteRecord}
use Rattle.state.specs.Journal.{write_record_at}
use Rattle.admission.specs.FirstRefusal.{some_below}
use Rattle.spec.specs.Places.{no_place, intervals_of, Interval as Listed}
use Rattle.read_lookup.specs.Lookup.{Recorded, recorded_in, supplier}
use Rattle.call_places.specs.declared.PlaceInterval.{PlaceInterval}

-- Whether a write record of transaction t, which has so many, covers place p of file f.
unfoldable pub covered_at : Recorded → ℕ → ℕ → ℕ → ℕ → Bool
covered_at j t records f p = is_some (supplier j t records f p)

-- The list of the places that the write records of a state cover.
abbrev pub intervals_in : List ℕ → ℕ → Used → ℕ → List Listed
intervals_in state t u f = intervals_of (covered_at (recorded_in state) t u.records f)

-- Whether a write record is one of file f and has no place yet.
unfoldable pub waits_on : List ℕ → ℕ → WriteRecord → Bool
waits_on filenumbers f w = eqb (get_or filenumbers w.descriptor 0) f && no_place w.place

unfoldable pub waits_on_file : Recorded → ℕ → ℕ → ℕ → Bool
waits_on_file j t records f = some_below (λ k. waits_on j.filenumbers f (write_record_at j.journal t k))
    records

-- The places from p to r are all in the set or all outside it, as b says, and r is the first that is not so,
-- or the end of the file.
pub record Upto (S : ℕ → Bool) (b : Bool) (p r : ℕ) : Type 0 where
  pub start : p ≤ r
  pub within : r ≤ file_bytes
  pub same : (q : ℕ) → p ≤ q → q < r → S q ≡ b
  pub turned : r < file_bytes → S r ≡ not b

-- s is the first interval of the set from place p on; it has length 0, and lies at the end of the file, where
-- there is none.
pub record NextOf (S : ℕ → Bool) (p : ℕ) (s : PlaceInterval) : Type 0 where
  pub before : Upto S false p s.offset
  pub whole : Upto S true s.offset (s.offset + s.length)
