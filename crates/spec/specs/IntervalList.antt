-- The list of the intervals of a set of places. Nobody has to believe it: it lists its places, is proper, and
-- no other list is and does (ListsItsPlaces, IsProper and OneList of Places.antt).
use Rattle.std.specs.Prelude.{Bool, cond, List, [], ◌∷◌, eqb, ℕ, zero, suc}
use Rattle.limits.specs.Limits.{file_bytes}
use Rattle.spec.specs.Intervals.{Interval, interval}

-- One place more on the left of a list: the first interval is lengthened where it starts at the next place.
unfoldable pub with_place : ℕ → List Interval → List Interval
with_place p [] = interval p 1 ∷ []
with_place p (s ∷ l) = cond (eqb s.offset (suc p)) (interval p (suc s.length) ∷ l)
    (interval p 1 ∷ (s ∷ l))

-- The intervals of those of n places from p on that are in the set; and of a file's 4,096 places.
unfoldable pub intervals_from : (ℕ → Bool) → ℕ → ℕ → List Interval
intervals_from S p zero = []
intervals_from S p (suc n) = cond (S p) (with_place p (intervals_from S (suc p) n)) (intervals_from S (suc p) n)

unfoldable pub intervals_of : (ℕ → Bool) → List Interval
intervals_of S = intervals_from S 0 file_bytes
