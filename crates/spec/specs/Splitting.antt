-- Request F-12, "One long write or two short ones" [R-5.2]: the law, in three parts. (The one fact about
-- standings that it rests on is `AddsUp`, Corollaries.antt.)
use Rattle.std.specs.Prelude.{List, [], ◌∷◌, ◌++◌, map, ◌⊎◌, ◌≡◌, length, ℕ, ◌+◌}
use Rattle.windows.specs.Windows.{Windows}
use Rattle.standings.specs.declared.Place.{Place}
use Rattle.standings.specs.declared.Place.TheVariants.{At, After}
use Rattle.spec_undo.specs.OldBytes.{span_of, old_bytes, Inside}
use Rattle.spec.specs.Messages.{Op, write, Reply}
use Rattle.spec.specs.Items.{Item, Values, result, asked}
use Rattle.spec.specs.Transactions.{Txn, Write}
unfoldable pub use Rattle.spec.specs.Transactions.{through}
use Rattle.spec.specs.Steps.{refuse, accept, step}
use Rattle.spec.specs.Places.{places_of}
use Rattle.spec.specs.Windows.{for_closed}
use Rattle.spec.specs.Commits.{settings, fits}
use Rattle.spec.specs.Undo.{landings_of}

-- The place n bytes further on.
unfoldable pub further : ℕ → Place → Place
further n (At p) = At (p + n)
further n (After a) = After (a + n)

-- ---- what differs

-- "only the write records differ" [R-5.2]: two lists of writes are the same but for one place, where the
-- first has two writes of one descriptor, the second of them directly behind the first, and the other list
-- one write with the bytes joined.
pub data Split : List Write → List Write → Type 0 where
  here :
      (d : ℕ) (p : Place) (a b : List ℕ) (ws : List Write)
      → Split (through d p a ∷ (through d (further (length a) p) b ∷ ws)) (through d p (a ++ b) ∷ ws)
  there : (w : Write) (ws vs : List Write) → Split ws vs → Split (w ∷ ws) (w ∷ vs)

-- Two transactions that are the same but for that: "the same standing" [R-5.2], and the same dirty
-- descriptors.
pub record SplitTxn (x y : Txn) : Type 0 where
  pub standing : x.standing ≡ y.standing
  pub dirty : x.dirty ≡ y.dirty
  pub writes : Split x.writes y.writes

-- ---- accepted calls

-- A call of transaction x is accepted when these values are committed: it leads to y, with this reply and
-- these sightings.
pub record Accepts (file_of : ℕ → ℕ) (v : Values) (o : Op) (x y : Txn) (r : Reply) (is : List Item) : Type
    0 where
  pub leads : result v (step file_of o x) ≡ accept y r.answer r.buffer
  pub sights : asked v (step file_of o x) ≡ is

-- ---- the law

-- A further call, in x, where a write is split, and in y, where it is not. Accepted in x it is accepted in y,
-- with the same reply (answer and the reader's whole buffer) and sightings, and again only the writes differ.
-- Refused in x it is refused alike in y, unless with 10: x has one write more.
pub record SameStep (file_of : ℕ → ℕ) (v : Values) (o : Op) (x y : Txn) : Type 0 where
  pub accepted :
      (x' : Txn) (r : Reply) (is : List Item) → Accepts file_of v o x x' r is → (y' : Txn)
      × Accepts file_of v o y y' r is × SplitTxn x' y'
  pub refused : (n : ℕ) → result v (step file_of o x) ≡ refuse n
      → (n ≡ 10) ⊎ (result v (step file_of o y) ≡ refuse n)

-- "effect at Commit" [R-5.2]: all that it sets, and so the bytes, offsets and lengths, their setters, who
-- becomes stale, and the octet; the test of 12; and of 21 (F-11). "only the write records differ" [R-5.2]: a
-- grant saves the same old bytes (F-13), where the writes land inside the files buffer, as they do where that
-- test of 12 passes.
pub record SameCommit (file_of : ℕ → ℕ) (v : Values) (x y : Txn) : Type 0 where
  pub sets : settings file_of v x ≡ settings file_of v y
  pub placing : fits v x ≡ fits v y
  pub old :
      (files : List ℕ) → Inside (length files) (map span_of (landings_of file_of v y.writes))
      → old_bytes (landings_of file_of v x.writes) files ≡ old_bytes (landings_of file_of v y.writes) files
  pub closed : (windows : Windows) (minute : ℕ) → for_closed file_of windows minute x.writes
      ≡ for_closed file_of windows minute y.writes

pub record SplitLaw (file_of : ℕ → ℕ) : Type 0 where
  -- 1. "for one transaction and descriptor, when Write of a then Write of b directly after it are both
  -- accepted, they leave the same standing, sightings .. as one Write of a and b joined, if that is accepted"
  -- [R-5.2]: it always is. Whatever is committed at each of the three.
  pub writes :
      (u v w : Values) (d : ℕ) (a b : List ℕ) (z x x' : Txn) (r s : Reply) (is js : List Item)
      → Accepts file_of u (write d a) z x r is → Accepts file_of v (write d b) x x' s js
      → (y : Txn) × Accepts file_of w (write d (a ++ b)) z y s (is ++ js) × SplitTxn x' y
  -- 2. "bytes seen by later Reads" [R-5.2], "and the calls after it are the same and accepted in both"
  -- [R-5.2]: any further call, so any list of them (Corollaries.antt, `SplitLists`); F-1's too.
  pub later : (v : Values) (o : Op) (x y : Txn) → SplitTxn x y → SameStep file_of v o x y
  pub places : (f : ℕ) (out : List ℕ) (x y : Txn) → SplitTxn x y → places_of file_of f out x
      ≡ places_of file_of f out y
  -- 3. "and effect at Commit" [R-5.2]
  pub commit : (v : Values) (x y : Txn) → SplitTxn x y → SameCommit file_of v x y

abbrev pub SplitsAlike : Type 0
SplitsAlike = (file_of : ℕ → ℕ) → SplitLaw file_of
