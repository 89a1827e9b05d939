-- What follows from the statements of this crate. It is proved and used, and nobody has to believe it.
use Rattle.std.specs.Prelude.{true, List, [], ◌∷◌, map, ◌⊎◌, ◌≡◌, length, get_or, ℕ, ◌+◌, ◌*◌, ◌≤◌}
use Rattle.state.specs.Outcomes.{Outcome}
use Rattle.state.specs.Outcomes.{done_answer, said}
use Rattle.spec.specs.Messages.{Op, Call, on}
use Rattle.spec.specs.Steps.{is_read_call}
use Rattle.spec.specs.Machine.{Machine}
use Rattle.spec.specs.Calls.{fresh}
use Rattle.spec.specs.Promises.{Meets, machine_of}
use Rattle.spec.specs.Plain.{fresh_plain, plain_after, plain_replies}
use Rattle.spec.specs.Serializability.{IsAccepted, OneMoment}
use Rattle.spec.specs.Age.{AtRest}
use Rattle.spec_dispatch.specs.Rounds.{Scripts, scripts_in}
use Rattle.spec_dispatch.specs.Dispatch.{dispatch, Dispatches, plain_of}
use Rattle.spec_dispatch.specs.SerializabilityOfCode.{CallMade, CallMeets, made_reply, Linked}

-- ---- refusals (demand 1): of `dispatch`

-- The dispatcher's refusals.
abbrev pub IsDispatchRefusal : ℕ → Type 0
IsDispatchRefusal n = (n ≡ 1) ⊎ ((n ≡ 2) ⊎ ((n ≡ 19) ⊎ (n ≡ 20)))

-- Refusals of the dispatcher, on any state and any buffers m: it has these refusals (their conditions are
-- `admission_of_dispatch`), and "A refusal changes no buffer and no record" [R-18.1].
pub record RefusalsOfDispatch (bytes : List ℕ) (minute : ℕ) (x : Scripts) (m : Machine)
    (reader : List ℕ) : Type 0 where
  pub known : ((dispatch bytes minute x m reader).refusal ≡ 0 → ⊥)
      → IsDispatchRefusal (dispatch bytes minute x m reader).refusal
  pub leaves :
      ((dispatch bytes minute x m reader).refusal ≡ 0 → ⊥)
      → ((dispatch bytes minute x m reader).after ≡ m) × ((dispatch bytes minute x m reader).reader ≡ reader)

abbrev pub DispatchRefusals : Type 0
DispatchRefusals = (bytes : List ℕ) (minute : ℕ) (x : Scripts) (m : Machine) (reader : List ℕ)
    → RefusalsOfDispatch bytes minute x m reader

-- ---- of DispatchHolds

-- For every store at rest.
abbrev pub DispatchHoldsAtRest : Type 0
DispatchHoldsAtRest =
    (m : Machine) → AtRest m → (bytes : List ℕ) (minute : ℕ) (x : Scripts) (reader : List ℕ)
    → scripts_in (length bytes) x ≡ true → Dispatches bytes minute x m (plain_of m) reader

-- "counted commits in the dispatcher's result .. stay at most n(n+1)/2" [R-13.5]: on any record and any
-- buffers.
abbrev pub FewCommits : Type 0
FewCommits =
    (state files logs marks undo : List ℕ) (bytes : List ℕ) (minute : ℕ) (x : Scripts) (reader : List ℕ)
    → 2 * (dispatch bytes minute x (machine_of state files logs marks undo) reader).commits ≤ x.count *
    (x.count + 1)

-- ---- of SerializabilityOfCode

-- F-7 about one more call of the code, which keeps its promise too.
abbrev pub MomentOfCode : Type 0
MomentOfCode =
    (numbers : List ℕ) (before : Machine) (o : Outcome) (m₀ : Machine)
    → Meets (fresh numbers before) o m₀ [] → said o ≡ done_answer
    → (cs : List Call) (m : Machine) → Linked m₀ cs m
    → (x : CallMade) (t : ℕ) (op : Op) → x.made ≡ on t op → CallMeets m x
    → is_read_call op ≡ true → IsAccepted (made_reply x)
    → OneMoment (plain_after cs (fresh_plain (λ d. get_or numbers d 0))) t op (made_reply x)

-- Calls alone, as a list, each on what the one before left: all their replies are the reference model's.
unfoldable pub CallsMeet : Machine → List CallMade → Type 0
CallsMeet m [] = Unit {0}
CallsMeet m (x ∷ xs) = CallMeets m x × CallsMeet x.after xs

abbrev pub RepliesOfCode : Type 0
RepliesOfCode =
    (numbers : List ℕ) (before : Machine) (o : Outcome) (m₀ : Machine)
    → Meets (fresh numbers before) o m₀ [] → said o ≡ done_answer → (xs : List CallMade) → CallsMeet m₀ xs
    → map made_reply xs ≡ plain_replies (map (λ x. x.made) xs) (fresh_plain (λ d. get_or numbers d 0))
