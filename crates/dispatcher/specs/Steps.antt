-- What the steps of the dispatcher promise: the code's progress, state and buffers stand as the rounds' work
-- says.
use Rattle.std.specs.Prelude.{List, ◌≡◌, length, ℕ, ◌<◌}
use Rattle.limits.specs.Limits.{script_count}
use Rattle.admission.specs.Admission.{Gate}
use Rattle.admission.specs.Admission.{gate_number}
use Rattle.requests.specs.declared.Request.{Request}
use Rattle.requests.specs.declared.Request.TheVariants.{Seek, Write, GetFilePointer, Read}
use Rattle.buffers.specs.Parts.{cut}
use Rattle.spec.specs.Messages.{on}
use Rattle.spec.specs.Machine.{Machine}
use Rattle.spec.specs.Calls.{call, calls_after}
use Rattle.spec.specs.Promises.{Lent, handed, handed_back}
use Rattle.spec_dispatch.specs.Rounds.{ScriptCall, seeks, writes, asks, reads, Work, refusal_in, op_of}
use Rattle.spec_dispatch.specs.Rounds.{reader_after}
use Rattle.dispatcher.specs.declared.ends.Ended.{Ended}
use Rattle.dispatcher.specs.Types.{end_at}

-- The request of script k's call, and the bytes lent beside it.
unfoldable pub request_of : ℕ → ScriptCall → Request
request_of k (seeks d v) = Seek k d v
request_of k (writes d start n) = Write k d
request_of k (asks d) = GetFilePointer k d
request_of k (reads d n) = Read k d n

unfoldable pub bytes_of_script_call : ScriptCall → List ℕ → List ℕ
bytes_of_script_call (seeks d v) bytes = bytes
bytes_of_script_call (writes d start n) bytes = cut bytes start n
bytes_of_script_call (asks d) bytes = bytes
bytes_of_script_call (reads d n) bytes = bytes

-- Script k's call on machine m: its refusal, the machine after it and the reader's buffer after it.
pub record Makes (k : ℕ) (l : ScriptCall) (bytes : List ℕ) (m : Machine) (buffer : List ℕ) (g : Gate)
    (m' : Machine) (buffer' : List ℕ)
    : Type 0 where
  pub refusal : gate_number g ≡ refusal_in (call (on k (op_of bytes buffer l)) m).reply.answer
  pub machine : m' ≡ (call (on k (op_of bytes buffer l)) m).after
  pub reader : buffer' ≡ reader_after l (call (on k (op_of bytes buffer l)) m).reply buffer

-- After the work w, from machine m₀: the machine is what the work's calls left, and the reader's buffer, the
-- ends and the number of Commits are the work's.
pub record WorkStands (m₀ : Machine) (w : Work) (m : Machine) (buffer : List ℕ) (es : List Ended)
    (n : ℕ) : Type 0 where
  pub machine : m ≡ calls_after w.made m₀
  pub reader : buffer ≡ w.reader
  pub eight : length es ≡ script_count
  pub ends : (k : ℕ) → k < script_count → end_at es k ≡ w.ends k
  pub commits : n ≡ w.commits

-- A step f of the work: from any machine, what stood at entry stands at exit with the step done.
abbrev pub CarriesStep : (Machine → Work → Work) → Machine → List ℕ → List Ended → ℕ → Machine → List ℕ
    → List Ended → ℕ → Type 0
CarriesStep f m reader es commits m' reader' es' commits' =
    (m₀ : Machine) (w : Work) → WorkStands m₀ w m reader es commits
    → WorkStands m₀ (f m₀ w) m' reader' es' commits'

-- A step on lent arrays that makes no Commit; and one that the reader's buffer is not lent to.
abbrev pub Steps : (Machine → Work → Work) → Lent → Lent → Lent → Lent → Lent → Lent → List Ended → List Ended
    → Type 0
Steps f state files logs marks undo reader es es' =
    (commits : ℕ)
    → CarriesStep f (handed state files logs marks undo) reader.entry es commits
    (handed_back state files logs marks undo) reader.exit es' commits

abbrev pub StepsAside : (Machine → Work → Work) → Lent → Lent → Lent → Lent → Lent → List Ended → List Ended
    → Type 0
StepsAside f state files logs marks undo es es' =
    (reader : List ℕ) (commits : ℕ)
    → CarriesStep f (handed state files logs marks undo) reader es commits
    (handed_back state files logs marks undo) reader es' commits
