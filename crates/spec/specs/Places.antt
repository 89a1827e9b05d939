-- Request F-1, "Places a transaction would write" [R-15.1]: what its call lists, and what holds of the list.
use Rattle.std.specs.Prelude.{Bool, true, false, not, ◌&&◌, ◌||◌, List, [], ◌∷◌, ◌++◌, ◌≡◌, leb, ltb, eqb, length, drop, ℕ, ◌+◌, ◌*◌, ◌/◌, ◌%◌}
use Rattle.limits.specs.Limits.{last_file, file_bytes}
use Rattle.standings.specs.declared.Place.{Place}
use Rattle.standings.specs.declared.Place.TheVariants.{At, After}
use Rattle.state.specs.Outcomes.{pairs, refused}
use Rattle.admission.specs.FirstRefusal.{guarded, is_none, unless}
use Rattle.spec.specs.Messages.{Reply}
use Rattle.spec.specs.Transactions.{Txn, Write}
use Rattle.spec.specs.Reading.{lies_over}
pub use Rattle.spec.specs.Intervals.{Interval, interval, interval_end, ProperFrom, Proper}
unfoldable pub use Rattle.spec.specs.Intervals.{in_interval, listed}
unfoldable pub use Rattle.spec.specs.IntervalList.{with_place, intervals_from, intervals_of}

-- ---- the places

-- Whether some write of the list passes a test.
unfoldable pub some_write : (Write → Bool) → List Write → Bool
some_write test [] = false
some_write test (w ∷ ws) = test w || some_write test ws

-- "A place is in the list exactly when a write covers it" [R-15.1]: whether a write covers place p of file f,
-- given each descriptor's file; and whether one of the writes does. A write of 0 bytes covers nothing.
unfoldable pub covers_place : (ℕ → ℕ) → ℕ → ℕ → Write → Bool
covers_place file_of f p w = eqb (file_of w.descriptor) f && lies_over w.place (length w.bytes) p

unfoldable pub covered : (ℕ → ℕ) → ℕ → List Write → ℕ → Bool
covered file_of f ws p = some_write (covers_place file_of f p) ws

-- "15 when a write on that file has no place yet" [R-16.1], one of 0 bytes too.
unfoldable pub no_place : Place → Bool
no_place (At p) = false
no_place (After a) = true

unfoldable pub unplaced_on : (ℕ → ℕ) → ℕ → Write → Bool
unplaced_on file_of f w = eqb (file_of w.descriptor) f && no_place w.place

unfoldable pub unplaced : (ℕ → ℕ) → ℕ → List Write → Bool
unplaced file_of f ws = some_write (unplaced_on file_of f) ws

-- ---- the list

-- "pairs of offset and length, each 16 bits, high byte first" [R-15.2]
unfoldable pub sixteen : ℕ → List ℕ
sixteen n = n / 256 ∷ (n % 256 ∷ [])

unfoldable pub encoded : List Interval → List ℕ
encoded [] = []
encoded (s ∷ l) = (sixteen s.offset ++ sixteen s.length) ++ encoded l

-- "The answer is the count of pairs, which stand at the buffer's front; the rest of it is left." [R-15.2]
abbrev pub with_pairs : List Interval → List ℕ → List ℕ
with_pairs l out = encoded l ++ drop (4 * length l) out

-- ---- the reply

-- "15 when a write on that file has no place yet, after 4 and a file number above 7 (which is 6); 16 when the
-- buffer is shorter than the list, last." [R-16.2] 0 stands for none.
unfoldable pub places_refusal : (ℕ → ℕ) → ℕ → List ℕ → Txn → ℕ
places_refusal file_of f out x =
    unless (leb f last_file) 6
    (unless (not (unplaced file_of f x.writes)) 15
    (unless (leb (4 * length (intervals_of (covered file_of f x.writes))) (length out)) 16 0))

-- What the call gives for an open transaction: the store and the reference model both go by it.
unfoldable pub places_reply : (ℕ → ℕ) → ℕ → List ℕ → Txn → ℕ → Reply
places_reply file_of f out x n =
    guarded (λ k. record { answer = refused k; buffer = out }) (is_none n) n
    (let l = intervals_of (covered file_of f x.writes) in
    record { answer = pairs (length l); buffer = with_pairs l out })

unfoldable pub places_of : (ℕ → ℕ) → ℕ → List ℕ → Txn → Reply
places_of file_of f out x = places_reply file_of f out x (places_refusal file_of f out x)

-- ---- what is proved of it

-- "A place is in the list exactly when a write covers it" [R-15.1]: a place of the file when it is in the
-- set, and no other place.
abbrev pub ListsItsPlaces : Type 0
ListsItsPlaces = (S : ℕ → Bool) (p : ℕ) → listed (intervals_of S) p ≡ ltb p file_bytes && S p

-- "sorted by offset; touching stretches are joined and none is empty" [R-15.1]
abbrev pub IsProper : Type 0
IsProper = (S : ℕ → Bool) → Proper (intervals_of S)

-- "one set of places has one list" [R-15.1]
abbrev pub OneList : Type 0
OneList = (l m : List Interval) → Proper l → Proper m → ((p : ℕ) → listed l p ≡ listed m p) → l ≡ m
