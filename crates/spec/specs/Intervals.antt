-- Intervals of places, and lists of them: what holds of the list of F-1.
use Rattle.std.specs.Prelude.{Bool, false, ◌&&◌, ◌||◌, List, [], ◌∷◌, leb, ltb, ℕ, suc, ◌+◌, ◌≤◌}

-- An interval of places: where it starts, and how many they are.
pub record Interval : Type 0 where
  pub offset : ℕ
  pub length : ℕ

abbrev pub interval : ℕ → ℕ → Interval
interval p n = record { offset = p; length = n }

-- The first place past it.
abbrev pub interval_end : Interval → ℕ
interval_end s = s.offset + s.length

-- Whether place p lies in an interval, and in one of a list.
unfoldable pub in_interval : Interval → ℕ → Bool
in_interval s p = leb s.offset p && ltb p (interval_end s)

unfoldable pub listed : List Interval → ℕ → Bool
listed [] p = false
listed (s ∷ l) p = in_interval s p || listed l p

-- "sorted by offset; touching stretches are joined and none is empty" [R-15.1]: no interval starts before b,
-- and each of the others after the first place past the one before it.
abbrev pub ProperFrom : ℕ → List Interval → Type 0
ProperFrom b [] = Unit {0}
ProperFrom b (s ∷ l) = (b ≤ s.offset) × (1 ≤ s.length) × ProperFrom (suc (interval_end s)) l

abbrev pub Proper : List Interval → Type 0
Proper l = ProperFrom 0 l
