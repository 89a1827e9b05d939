-- Request F-9: "Show that each old arrangement and its new one name the same pairs of transaction and byte,
-- and let all else rest on that fact." [R-2.4] The first half is buffers/specs/Marks.antt; this is the
-- second: of its marks a store uses the pairs that they name, and nothing else. A call leaves the
-- marks of all other transactions.
use Rattle.std.specs.Prelude.{Bool, List, ◌≡◌, length, ℕ, ◌<◌}
use Rattle.limits.specs.Limits.{buffer_bytes, transaction_count}
use Rattle.buffers.specs.Marks.{by_transaction, names, has_mark}
use Rattle.spec.specs.Messages.{read, Call, begin, on, commit, abort}
use Rattle.spec.specs.Machine.{Machine, with_marking}
use Rattle.spec.specs.Calls.{call}
use Rattle.spec.specs.Recovery.{Reached}
use Rattle.spec.specs.Age.{Alike}

-- These pairs are those that the marks of a store name.
abbrev pub Named : (ℕ → ℕ → Bool) → Machine → Type 0
Named pairs m = (t q : ℕ) → t < transaction_count → pairs t q ≡ names by_transaction m.marks t q

-- The store with other marks that name the same pairs answers every list of calls alike.
abbrev pub RestsOnPairs : Machine → Type 0
RestsOnPairs m =
    (marks : List ℕ) → length marks ≡ buffer_bytes → Named (names by_transaction marks) m → (cs : List Call)
    → Alike cs m (with_marking marks m)

abbrev pub AlwaysRestsOnPairs : Type 0
AlwaysRestsOnPairs = (m : Machine) → Reached m → RestsOnPairs m

-- The marks of transaction u are touched by its own Reads, Begin, Commit and Abort alone.
abbrev pub MarksLeft : Machine → Type 0
MarksLeft m =
    (c : Call) (u q : ℕ) → ((d n : ℕ) (buffer : List ℕ) → c ≡ on u (read d n buffer) → ⊥) → (c ≡ begin u → ⊥)
    → ((minute : ℕ) → c ≡ commit u minute → ⊥) → (c ≡ abort u → ⊥) → has_mark (call c m).after.marks u q
    ≡ has_mark m.marks u q

abbrev pub MarksAlwaysLeft : Type 0
MarksAlwaysLeft = (m : Machine) → Reached m → MarksLeft m
