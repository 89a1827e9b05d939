-- Request F-8, "Files with a length" [R-1.1]: what holds of the lengths of every store reached from Fresh,
-- also where its program went down.
use Rattle.std.specs.Prelude.{true, ◌≡◌, ℕ, ◌+◌, ◌*◌, ◌≤◌, ◌<◌}
use Rattle.limits.specs.Limits.{file_count, file_bytes, last_transaction}
use Rattle.state.specs.StoreMeaning.{transaction}
use Rattle.spec.specs.Items.{byte, file_length, Values}
use Rattle.spec.specs.Messages.{Call, undo_commit}
use Rattle.spec.specs.Machine.{Machine, values}
use Rattle.spec.specs.Undo.{undone}
use Rattle.spec.specs.Calls.{call}
use Rattle.spec.specs.Recovery.{Reached}

-- Beyond its committed length every byte of a file is 0. (False of `first_beyond`: Counterexamples.antt.)
abbrev pub ZeroBeyond : Values → Type 0
ZeroBeyond v =
    (f p : ℕ) → f < file_count → v (file_length f) ≤ p → p < file_bytes → v (byte (file_bytes * f + p)) ≡ 0

-- No length is shorter in the second values than in the first. (False of 1 and 0 there.)
abbrev pub Longer : Values → Values → Type 0
Longer v w = (f : ℕ) → v (file_length f) ≤ w (file_length f)

-- The committed values of a store.
abbrev pub committed_in : Machine → Values
committed_in m = values m.store m.files

pub record LengthsHold (m : Machine) : Type 0 where
  -- "Bytes between an old end and a write come from the file, and are 0 in every store reached from Fresh."
  -- [R-1.1]
  pub zeros : ZeroBeyond (committed_in m)
  -- They are 0 too in the values that F-13's undo would restore.
  pub zeros_undone : m.store.undo.valid ≡ true → ZeroBeyond (committed_in (undone m))
  -- "Each file gets a committed length, 0 to 4,096" [R-1.1]
  pub limit : (f : ℕ) → committed_in m (file_length f) ≤ file_bytes
  -- No call but F-13's undo lowers a length: a place below it stays below it. While a transaction is open
  -- that one changes nothing.
  pub grows : (c : Call) → (c ≡ undo_commit → ⊥) → Longer (committed_in m) (committed_in (call c m).after)
  pub opened :
      (t : ℕ) → t ≤ last_transaction → (transaction m.store t).begun ≡ true → (call undo_commit m).after ≡ m

abbrev pub LengthsAlwaysHold : Type 0
LengthsAlwaysHold = (m : Machine) → Reached m → LengthsHold m
