-- What the meaning of a state fixes of its numbers. The promises of the calls say what a state means at
-- exit; by `MeaningFixes` they say its numbers, but for two things that are left open: a flag that is not set
-- may be any number but 1, and the first number of a standing Known at 0 may be 0 or 1. Nothing is asked of
-- the numbers.
use Rattle.std.specs.Prelude.{List, ◌≡◌, get_or, ℕ, ◌+◌, ◌*◌, ◌<◌, max}
use Rattle.buffers.specs.Marks.{contains}
use Rattle.state.specs.Layout.{is_set, store_of, journal_of}

-- Number i is the same in both; a flag there is set in both or in neither.
abbrev pub Same : List ℕ → List ℕ → ℕ → Type 0
Same r s i = get_or r i 0 ≡ get_or s i 0

abbrev pub SameFlag : List ℕ → List ℕ → ℕ → Type 0
SameFlag r s i = is_set (get_or r i 0) ≡ is_set (get_or s i 0)

-- The two numbers of one standing.
pub record SameStanding (a b c d : ℕ) : Type 0 where
  pub second : b ≡ d
  pub first : (b ≡ 1 → ⊥) → a ≡ c
  pub first_of_known : max a 1 ≡ max c 1

-- Two states, number by number, in the order of LayoutNumber.antt. The dirty descriptors are the sixteen
-- bits of a number.
pub record SameNumbers (r s : List ℕ) : Type 0 where
  pub records : (i : ℕ) → i < 1728 → Same r s i
  pub standings :
      (t d : ℕ) → t < 8 → d < 16
      → SameStanding (get_or r (1728 + 8 * d + t) 0) (get_or r (1856 + 8 * d + t) 0)
      (get_or s (1728 + 8 * d + t) 0) (get_or s (1856 + 8 * d + t) 0)
  pub begun : (t : ℕ) → t < 8 → SameFlag r s (1984 + t)
  pub stale : (t : ℕ) → t < 8 → SameFlag r s (1992 + t)
  pub lengths_sighted : (t : ℕ) → t < 8 → Same r s (2000 + t)
  pub dirty :
      (t d : ℕ) → t < 8 → d < 16 → contains (get_or r (2008 + t) 0) d ≡ contains (get_or s (2008 + t) 0) d
  pub records_used : (t : ℕ) → t < 8 → Same r s (2016 + t)
  pub bytes_used : (t : ℕ) → t < 8 → Same r s (2024 + t)
  pub files : (d : ℕ) → d < 16 → Same r s (2032 + d)
  pub offsets : (d : ℕ) → d < 16 → Same r s (2048 + d)
  pub lengths : (f : ℕ) → f < 8 → Same r s (2064 + f)
  pub starts : (f : ℕ) → f < 8 → Same r s (2072 + f)
  pub ends : (f : ℕ) → f < 8 → Same r s (2080 + f)
  pub found_offsets : (d : ℕ) → d < 16 → Same r s (2088 + d)
  pub found_lengths : (f : ℕ) → f < 8 → Same r s (2104 + f)
  pub undo_valid : SameFlag r s 2112
  pub grant_records : Same r s 2113
  pub grant_bytes : Same r s 2114

abbrev pub MeaningFixes : Type 0
MeaningFixes = (r s : List ℕ) → store_of r ≡ store_of s → journal_of r ≡ journal_of s → SameNumbers r s
