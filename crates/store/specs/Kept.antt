-- The promise of a call on a store that a program keeps in one place.
use Rattle.std.specs.Prelude.{List, ℕ}
use Rattle.state.specs.Outcomes.{Outcome}
use Rattle.spec.specs.Machine.{Machine}
use Rattle.spec.specs.Calls.{Turn}
use Rattle.spec.specs.Promises.{Meets, machine_of, LeftAsFound}
use Rattle.store.specs.declared.kept.Store.{Store}

-- The machine that a kept store is.
abbrev pub machine_in : Store → Machine
machine_in s = machine_of s.state s.files s.logs s.marks s.undo

-- What spec/specs/Promises.antt `Follows` says of lent parts, of the store before and after the call: it
-- answers o, and leaves the store and the reader's buffer, as the rule says.
abbrev pub Runs : (Machine → Turn) → Store → Store → Outcome → List ℕ → Type 0
Runs rule before after o reader =
    Meets (rule (machine_in before)) o (machine_in after) reader × LeftAsFound o before.state after.state
