-- Serializability of the code (demand 3): a program makes calls, and runs the dispatcher between them. Each
-- keeps its promise on what the one before left, and no more is known of it.
use Rattle.std.specs.Prelude.{cond, List, [], ◌∷◌, ◌++◌, ◌≡◌, get_or, ℕ, ◌<◌}
use Rattle.limits.specs.Limits.{script_count}
use Rattle.state.specs.Outcomes.{Outcome}
use Rattle.state.specs.Outcomes.{done_answer, said}
use Rattle.admission.specs.FirstRefusal.{is_none}
use Rattle.spec.specs.Messages.{Call, Reply}
use Rattle.spec.specs.Plain.{Plain, fresh_plain, plain_call, plain_after}
use Rattle.spec.specs.Serializability.{Holds}
use Rattle.spec.specs.Machine.{Machine}
use Rattle.spec.specs.Calls.{fresh, call}
use Rattle.spec.specs.Promises.{Meets}
use Rattle.spec.specs.SerializabilityOfStore.{the_store}
use Rattle.spec_dispatch.specs.Rounds.{Scripts}
use Rattle.spec_dispatch.specs.Dispatch.{Dispatched, work_on_store, dispatch, plain_dispatch}

-- A call as its caller sees it: the call, its outcome, and what it left: state and buffers, and the reader's
-- buffer. It keeps its promise on m.
pub record CallMade : Type 0 where
  pub made : Call
  pub outcome : Outcome
  pub after : Machine
  pub reader : List ℕ

abbrev pub CallMeets : Machine → CallMade → Type 0
CallMeets m x = Meets (call x.made m) x.outcome x.after x.reader

abbrev pub made_reply : CallMade → Reply
made_reply x = record { answer = said x.outcome; buffer = x.reader }

-- The dispatcher as its caller sees it: what it was handed, and what it gave and left.
pub record DispatchMade : Type 0 where
  pub bytes : List ℕ
  pub minute : ℕ
  pub scripts : Scripts
  pub reader : List ℕ
  pub gave : Dispatched Machine

-- It gave what d says. There is room for eight ends.
pub record Gives {M : Type 0} (gave : Dispatched Machine) (d : Dispatched M) : Type 0 where
  pub refusal : gave.refusal ≡ d.refusal
  pub ends : (k : ℕ) → k < script_count → gave.ends k ≡ d.ends k
  pub commits : gave.commits ≡ d.commits
  pub reader : gave.reader ≡ d.reader

-- Its promise on m (dispatcher/specs/Promise.antt).
abbrev pub DispatchMeets : Machine → DispatchMade → Type 0
DispatchMeets m y =
    let d = dispatch y.bytes y.minute y.scripts m y.reader in
    Gives y.gave d × (y.gave.after ≡ d.after)

-- The calls that it made: those of its rounds, or none where it was refused.
unfoldable pub dispatch_calls : DispatchMade → Machine → List Call
dispatch_calls y m =
    cond (is_none y.gave.refusal) (work_on_store y.bytes y.minute y.scripts m y.reader).made []

-- Calls and dispatchers of the code have led from m₀ to m, one after the other; cs are the calls that were
-- made.
pub data Linked (m₀ : Machine) : List Call → Machine → Type 0 where
  start : Linked m₀ [] m₀
  called : (cs : List Call) (m : Machine) (x : CallMade) → Linked m₀ cs m → CallMeets m x
      → Linked m₀ (cs ++ (x.made ∷ [])) x.after
  ran : (cs : List Call) (m : Machine) (y : DispatchMade) → Linked m₀ cs m → DispatchMeets m y
      → Linked m₀ (cs ++ dispatch_calls y m) y.gave.after

-- What holds of the rules holds of the state and buffers that the caller is left with. The next call, and
-- the next dispatcher, gives what the reference model gives; as every beginning of a program is one, so do
-- all.
pub record CodeHolds (m₀ : Machine) (p₀ : Plain) (cs : List Call) (m : Machine) : Type 0 where
  pub holds : Holds the_store m₀ p₀ cs m (plain_after cs p₀)
  pub reply : (x : CallMade) → CallMeets m x → made_reply x ≡ (plain_call x.made (plain_after cs p₀)).reply
  pub dispatch :
      (y : DispatchMade) → DispatchMeets m y
      → let e = plain_dispatch y.bytes y.minute y.scripts (plain_after cs p₀) y.reader in
      Gives y.gave e × (e.after ≡ plain_after (cs ++ dispatch_calls y m) p₀)

abbrev pub SerializabilityOfCode : Type 0
SerializabilityOfCode =
    (numbers : List ℕ) (before : Machine) (o : Outcome) (m₀ : Machine)
    → Meets (fresh numbers before) o m₀ [] → said o ≡ done_answer
    → (cs : List Call) (m : Machine) → Linked m₀ cs m → CodeHolds m₀ (fresh_plain (λ d. get_or numbers d 0)) cs m
