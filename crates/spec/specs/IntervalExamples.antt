-- Request F-1, "Places a transaction would write" [R-15.1]: lists of intervals, computed, and lists that are
-- none.
use Rattle.std.specs.Prelude.{true, false, List, [], ◌∷◌, ◌≡◌, leb, ℕ}
use Rattle.standings.specs.declared.Place.{Place}
use Rattle.standings.specs.declared.Place.TheVariants.{At, After}
use Rattle.spec.specs.Transactions.{Write}
use Rattle.spec.specs.Places.{covered, unplaced, Interval, interval, listed, Proper, intervals_of}
use Rattle.spec.specs.Places.{encoded, ListsItsPlaces}

-- Places 2 to 4, and 6.
abbrev pub two_intervals : List Interval
two_intervals = interval 2 3 ∷ interval 6 1 ∷ []

-- A write through descriptor 0. Each descriptor's file is its own number.
abbrev pub wrote : Place → List ℕ → Write
wrote p bytes = record { descriptor = 0; place = p; bytes = bytes }

-- 2 bytes at 7, 3 at 2, 2 at 5, which touches, and none at 12, in that order: 2 to 8 are one interval; and 1
-- at 14.
abbrev pub five_writes : List Write
five_writes =
    wrote (At 7) (1 ∷ 1 ∷ []) ∷ wrote (At 2) (1 ∷ 1 ∷ 1 ∷ []) ∷ wrote (At 5) (1 ∷ 1 ∷ []) ∷ wrote (At 12) []
    ∷ wrote (At 14) (1 ∷ []) ∷ []

pub record IntervalExamples : Type 0 where
  -- The first place of an interval is in it, the first past it is not.
  pub ends :
      (listed two_intervals 1 ≡ false) × (listed two_intervals 2 ≡ true) × (listed two_intervals 4 ≡ true)
      × (listed two_intervals 5 ≡ false)
      × (listed two_intervals 6 ≡ true) × (listed two_intervals 7 ≡ false)
  -- "sorted by offset; touching stretches are joined and none is empty" [R-15.1]
  pub proper : Proper two_intervals
  pub unsorted : Proper (interval 6 1 ∷ interval 2 3 ∷ []) → ⊥
  pub touching : Proper (interval 2 3 ∷ interval 5 1 ∷ []) → ⊥
  pub hollow : Proper (interval 2 0 ∷ []) → ⊥
  -- 01: "A place in a file is 0 to 4,095" [R-1.1]: the whole file, and its last place.
  pub whole : intervals_of (λ p. true) ≡ interval 0 4096 ∷ []
  pub last : intervals_of (leb 4095) ≡ interval 4095 1 ∷ []
  pub last_listed :
      ListsItsPlaces → (listed (intervals_of (λ p. true)) 4095 ≡ true)
      × (listed (intervals_of (λ p. true)) 4096 ≡ false)
  -- "A place is in the list exactly when a write covers it" [R-15.1], on its own file.
  pub joins : intervals_of (covered (λ d. d) 0 five_writes) ≡ interval 2 7 ∷ interval 14 1 ∷ []
  pub other_file : intervals_of (covered (λ d. d) 1 five_writes) ≡ []
  -- "15 when a write on that file has no place yet" [R-16.1]: one of 0 bytes too, on its own file.
  pub waits : (unplaced (λ d. d) 0 (wrote (After 3) [] ∷ []) ≡ true)
      × (unplaced (λ d. d) 1 (wrote (After 3) [] ∷ []) ≡ false)
  -- "pairs of offset and length, each 16 bits, high byte first" [R-15.2]
  pub pairs : encoded (interval 0 4096 ∷ interval 4095 1 ∷ []) ≡ 0 ∷ 0 ∷ 16 ∷ 0 ∷ 15 ∷ 255 ∷ 0 ∷ 1 ∷ []
