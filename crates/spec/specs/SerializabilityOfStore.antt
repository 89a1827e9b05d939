-- Serializability of the store (demand 3): the rules of this crate on states and buffers (`call`). The code,
-- whose calls and whose dispatcher keep their promises, is spec_dispatch/specs/SerializabilityOfCode.antt.
use Rattle.std.specs.Prelude.{List, ◌≡◌, ℕ}
use Rattle.state.specs.StoreMeaning.{transaction}
use Rattle.state.specs.Outcomes.{done_answer}
use Rattle.spec.specs.Serializability.{Behaviour, SerializabilityOf}
use Rattle.spec.specs.Machine.{Machine, values}
use Rattle.spec.specs.Calls.{fresh, call}

-- "from a fresh store" [R-18.3]: Fresh with these file numbers, on any state and any buffers, was accepted,
-- and left m.
pub record FreshlyMade (numbers : List ℕ) (m : Machine) : Type 0 where
  pub before : Machine
  pub accepted : (fresh numbers before).reply.answer ≡ done_answer
  pub gave : m ≡ (fresh numbers before).after

-- How the store behaves.
abbrev pub the_store : Behaviour Machine
the_store =
    record {
      call = call;
      is_open = λ m t. (transaction m.store t).begun;
      committed = λ m. values m.store m.files;
    }

-- Serializability of the rules.
abbrev pub Serializability : Type 0
Serializability = SerializabilityOf Machine the_store FreshlyMade
