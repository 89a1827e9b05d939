-- How the promises of the calls cite the rules.
use Rattle.std.specs.declared.result.Result.TheVariants.{Err}
use Rattle.std.specs.Prelude.{List, ◌≡◌, ℕ}
use Rattle.state.specs.declared.outcomes.Refusal.{Refusal}
use Rattle.state.specs.Outcomes.{Outcome}
use Rattle.state.specs.Outcomes.{number, said}
use Rattle.state.specs.Layout.{store_of, journal_of}
use Rattle.spec.specs.Machine.{Machine, lent}
use Rattle.spec.specs.Calls.{Turn}

-- A call's outcome and what it left are those of a turn of the rules: the outcome in paper 01's numbers and
-- values, state and buffers at exit as one machine, and the reader's buffer (empty for a call that has none).
pub record Meets (w : Turn) (o : Outcome) (m : Machine) (at_reader : List ℕ) : Type 0 where
  pub outcome : said o ≡ w.reply.answer
  pub machine : m ≡ w.after
  pub reader : at_reader ≡ w.reply.buffer

-- The machine that the state's numbers and the four buffers mean (state/specs/Layout.antt). Promises are
-- about it. Of the state after a call that is not refused they do not fix which of several codes stands for
-- one meaning: a flag whose number is not 1 is not set, and 0 and 1 is Known at 0, as 1 and 1 is.
abbrev pub machine_of : List ℕ → List ℕ → List ℕ → List ℕ → List ℕ → Machine
machine_of state files logs marks undo = lent (store_of state) (journal_of state) files logs marks undo

-- A lent array or buffer: the numbers in it at entry and at exit.
pub record Lent : Type 0 where
  pub entry : List ℕ
  pub exit : List ℕ

-- One that a call is lent by `&mut`, as it was and as it is left, and one that is lent by `&`, which no call
-- changes.
abbrev pub lent_mut : List ℕ → List ℕ → Lent
lent_mut before after = record { entry = before; exit = after }

abbrev pub lent_shared : List ℕ → Lent
lent_shared xs = record { entry = xs; exit = xs }

-- What a call is handed, and what it leaves.
abbrev pub handed : Lent → Lent → Lent → Lent → Lent → Machine
handed state files logs marks undo =
    machine_of state.entry files.entry logs.entry marks.entry
    undo.entry

abbrev pub handed_back : Lent → Lent → Lent → Lent → Lent → Machine
handed_back state files logs marks undo =
    machine_of state.exit files.exit logs.exit marks.exit
    undo.exit

-- A refusal other than 13 leaves the state number by number, not only in what it means.
abbrev pub LeftAsFound : Outcome → List ℕ → List ℕ → Type 0
LeftAsFound o before after = (r : Refusal) → o ≡ Err r → (number r ≡ 13 → ⊥) → after ≡ before

-- The promise of a call: on what it is handed it answers o, and leaves state, buffers and reader's buffer, as
-- the rule says.
abbrev pub Follows : (Machine → Turn) → Lent → Lent → Lent → Lent → Lent → Outcome → List ℕ → Type 0
Follows rule state files logs marks undo o reader =
    Meets (rule (handed state files logs marks undo)) o (handed_back state files logs marks undo) reader
    × LeftAsFound o state.entry state.exit
