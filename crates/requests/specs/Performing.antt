-- What performing a request promises.
use Rattle.std.specs.Prelude.{List, ◌≡◌, ℕ}
use Rattle.state.specs.Outcomes.{Outcome}
use Rattle.requests.specs.declared.Request.{Request}
use Rattle.requests.specs.declared.Request.TheVariants.{Begin, Seek, Write, GetFilePointer, Read}
use Rattle.requests.specs.declared.Request.TheVariants.{Places, Commit, Abort, SetWindow, UndoCommit}
use Rattle.requests.specs.Requests.{call_of}
use Rattle.spec.specs.Messages.{buffer_of_call}
use Rattle.spec.specs.Machine.{Machine}
use Rattle.spec.specs.Calls.{call}
use Rattle.spec.specs.Promises.{Meets, Lent, handed, handed_back, LeftAsFound}

-- The buffer for an answer before and after: Read and Places answer in it, any other call leaves it.
unfoldable pub Unanswered : Request → List ℕ → List ℕ → Type 0
Unanswered (Begin t) before after = after ≡ before
Unanswered (Seek t d v) before after = after ≡ before
Unanswered (Write t d) before after = after ≡ before
Unanswered (GetFilePointer t d) before after = after ≡ before
Unanswered (Read t d n) before after = Unit
Unanswered (Places t f) before after = Unit
Unanswered (Commit t minute) before after = after ≡ before
Unanswered (Abort t) before after = after ≡ before
Unanswered (SetWindow f start end) before after = after ≡ before
Unanswered UndoCommit before after = after ≡ before

-- The outcome o, the machine m' and the buffer for an answer are those that the rules give for the request's
-- call, with these bytes and this buffer, on machine m.
pub record Performs (q : Request) (bytes reader : List ℕ) (m : Machine) (o : Outcome) (m' : Machine)
    (reader' : List ℕ) : Type 0 where
  pub meets : Meets (call (call_of q bytes reader) m) o m' (buffer_of_call (call_of q bytes reader'))
  pub unanswered : Unanswered q reader reader'

-- The promise of a call on lent arrays; a refusal other than 13 leaves the state number by number.
abbrev pub Performed : Request → List ℕ → Lent → Lent → Lent → Lent → Lent → Outcome → Lent → Type 0
Performed q bytes state files logs marks undo o reader =
    Performs q bytes reader.entry (handed state files logs marks undo) o
    (handed_back state files logs marks undo) reader.exit
    × LeftAsFound o state.entry state.exit
