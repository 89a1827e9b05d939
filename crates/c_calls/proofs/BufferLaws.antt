-- A promise made of four parts of one array holds of the array.
use mathlib.Core.{List.{List, []}, Path.{◌≡◌, sym, ap, ◌∙◌}}
use Prim.Native.Nat.{ℕ, ◌+◌}
use lib.IntN.{ℤ}
use Rattle.state.specs.{Outcomes.Outcome, Outcomes.said}
use Rattle.spec.specs.{Machine.Machine, Calls.Turn, Promises.{Lent, lent_shared, machine_of, handed, handed_back, LeftAsFound, Meets}}
use Rattle.limits.specs.Limits.{buffer_bytes, file_bytes}
use Rattle.buffers.specs.Parts.{cut}
use Rattle.c_calls.specs.Buffers.{AnswersInBlock}
use Rattle.c_codes.{specs.Codes.{code_of, AnswersAsCode}, proofs.CodeLaws.left-of}

pub answers-elsewhere : (rule : Machine → Turn) (state files logs marks undo : Lent) (before after : Machine) (o : Outcome)
    (reader : List ℕ) (r : ℤ) → Meets (rule before) o after reader × LeftAsFound o state.entry state.exit
    → r ≡ code_of (said o) → before ≡ handed state files logs marks undo → after ≡ handed_back state files logs marks undo
    → AnswersAsCode rule state files logs marks undo r reader
answers-elsewhere rule state files logs marks undo before after o reader r h e same back = let answer = h.0.outcome
    ∙ ap (λ (m : Machine). (rule m).reply.answer) same in record {
      answer = e ∙ ap code_of answer;
      machine = sym back ∙ (h.0.machine ∙ ap (λ (m : Machine). (rule m).after) same);
      buffer = h.0.reader ∙ ap (λ (m : Machine). (rule m).reply.buffer) same;
      left = λ n q other. left-of o _ _ h.1 n (answer ∙ q) other;
    }

pub same-machine : (state f l m u g k n v : List ℕ) → f ≡ g → l ≡ k → m ≡ n → u ≡ v
    → machine_of state f l m u ≡ machine_of state g k n v
same-machine state f l m u g k n v a b c d = rw (a, b, c, d)

-- A call on the four parts of a block answers what it promises of the block.
pub in-block : (rule : Machine → Turn) (state : Lent) (buffers f l m u : List ℕ) (o : Outcome) (r : ℤ)
    → (f ≡ cut buffers 0 buffer_bytes) × (l ≡ cut buffers buffer_bytes buffer_bytes)
    × (m ≡ cut buffers (buffer_bytes + buffer_bytes) buffer_bytes)
    × (u ≡ cut buffers (buffer_bytes + buffer_bytes + buffer_bytes) file_bytes)
    → Meets (rule (machine_of state.entry f l m u)) o (machine_of state.exit f l m u) [] × LeftAsFound o state.entry state.exit
    → r ≡ code_of (said o) → AnswersInBlock rule state (lent_shared buffers) r
in-block rule state buffers f l m u o r e h code = answers-elsewhere _ _ _ _ _ _ _ _ _ _ _ h code
    (same-machine _ _ _ _ _ _ _ _ _ e.0 e.1 e.2 e.3) (same-machine _ _ _ _ _ _ _ _ _ e.0 e.1 e.2 e.3)
