-- "No condition reads the store's age." [R-18.8]
use Rattle.std.specs.Prelude.{true, false, cond, List, ◌≡◌, ℕ, ◌≤◌}
use Rattle.limits.specs.Limits.{last_transaction}
use Rattle.state.specs.StoreMeaning.{transaction, window_at}
use Rattle.admission.specs.Admission.{admission_of_dispatch}
use Rattle.spec.specs.Messages.{Call}
use Rattle.spec.specs.Machine.{Machine, sizes, file_of, values}
use Rattle.spec.specs.Undo.{undone}
use Rattle.spec.specs.Calls.{calls_after, calls_replies}
use Rattle.spec.specs.Promises.{machine_of}
use Rattle.spec.specs.Plain.{Earlier, nothing, found, start_plain, plain_after}
use Rattle.spec.specs.Serializability.{Holds}
use Rattle.spec.specs.SerializabilityOfStore.{FreshlyMade, the_store}
use Rattle.spec.specs.UndoRestores.{SameCommitted}
unfoldable pub use Rattle.spec.specs.Young.{rejuvenated}
use Rattle.spec.specs.Recovery.{recovered, ProgramRun, runs_after, Reached, abort_all, calls_of_runs}

-- A store that runs and calls have led to from a fresh one, however many, and in which nothing is open now.
pub record AtRest (m : Machine) : Type 0 where
  pub reached : Reached m
  pub closed : (t : ℕ) → t ≤ last_transaction → (transaction m.store t).begun ≡ false

-- What an undo would restore: the values that the store's last grant found.
unfoldable pub earlier_in : Machine → Earlier
earlier_in m =
    let n = undone m in
    cond m.store.undo.valid (found (record { value = values n.store n.files; setter = λ i. 0 }) 0)
    nothing

-- Two stores answer a list of calls alike, reply for reply and byte for byte, and end with the same files,
-- offsets and lengths.
pub record Alike (cs : List Call) (m n : Machine) : Type 0 where
  pub replies : calls_replies cs m ≡ calls_replies cs n
  pub left : values (calls_after cs m).store (calls_after cs m).files
      ≡ values (calls_after cs n).store (calls_after cs n).files

-- Nothing that was granted is lost: the second store has the files, offsets, lengths and windows of the
-- first, and its grant to undo.
pub record NothingLost (m n : Machine) : Type 0 where
  pub committed : SameCommitted m n
  pub windows : n.store.windows ≡ m.store.windows
  pub earlier : earlier_in n ≡ earlier_in m

-- A store in range with nothing open, whatever led to it: its store is what numbers mean, and it passes 1, 2
-- and 19 of the dispatcher.
pub record Resting (m : Machine) : Type 0 where
  pub state : List ℕ
  pub meant : m ≡ machine_of state m.files m.logs m.marks m.undo
  pub passes : admission_of_dispatch (sizes m) m.store m.journal true ≡ 0

-- Two such stores with the same files of the descriptors, and the same committed state, answer alike for
-- ever: however many grants came before, and whatever log bytes, marks and old write records lie about.
abbrev pub CommittedDecides : Type 0
CommittedDecides =
    (m n : Machine) → Resting m → Resting n → n.store.filenumbers ≡ m.store.filenumbers → NothingLost m n
    → (cs : List Call) → Alike cs m n

-- To save a running store while its program is down, the state with every transaction ended, the files and
-- the undo log are enough.
pub record GoesOn (m₀ : Machine) (rs : List ProgramRun) : Type 0 where
  -- However often its program goes down, it answers every further list of calls as one that never did, on
  -- which every transaction was aborted instead.
  pub alike : (cs : List Call) → Alike cs (calls_after (calls_of_runs rs) m₀) (runs_after rs m₀)
  -- It is at rest, so all that is claimed of stores at rest goes on from what is committed in it.
  pub rests : AtRest (runs_after rs m₀)

abbrev pub Recovers : Type 0
Recovers = (numbers : List ℕ) (m₀ : Machine) → FreshlyMade numbers m₀ → (rs : List ProgramRun) → GoesOn m₀ rs

-- At any moment of any store: where it goes down, and where every transaction is aborted instead.
pub record Survives (m : Machine) (logs marks : List ℕ) : Type 0 where
  pub recovering : NothingLost m (recovered logs marks m)
  pub aborting : NothingLost m (calls_after abort_all m)

abbrev pub AlwaysSurvives : Type 0
AlwaysSurvives = (m : Machine) (logs marks : List ℕ) → Survives m logs marks

-- Serializability from any store at rest, Fresh's being one: the reference model starts with what is
-- committed there, with the windows, and with what an undo would restore.
abbrev pub SerializabilityAtRest : Type 0
SerializabilityAtRest =
    (m : Machine) → AtRest m → (cs : List Call)
    → let p = start_plain (file_of m.store) (values m.store m.files) (window_at m.store)
    (earlier_in m) in
    Holds the_store m p cs (calls_after cs m) (plain_after cs p)
