-- The dispatcher's promise is the link that serializability of the code takes
-- (spec_dispatch/specs/SerializabilityOfCode.antt).
use Rattle.std.specs.Prelude.{List, ℕ}
use Rattle.state.specs.Outcomes.{said}
use Rattle.spec.specs.Machine.{Machine}
use Rattle.spec_dispatch.specs.Rounds.{Scripts, refusal_in}
use Rattle.spec_dispatch.specs.Dispatch.{dispatch}
use Rattle.spec_dispatch.specs.SerializabilityOfCode.{DispatchMade, DispatchMeets}
use Rattle.dispatcher.specs.declared.ends.Dispatched.{Dispatched}
use Rattle.dispatcher.specs.Types.{end_at}
use Rattle.dispatcher.specs.Promise.{GivesDispatch}

-- What the caller sees: the answer a, the machine n and the reader's buffer at exit.
abbrev pub as_made : List ℕ → ℕ → Scripts → List ℕ → Dispatched → Machine → List ℕ → DispatchMade
as_made bytes minute x reader a n buffer =
    record {
      bytes = bytes;
      minute = minute;
      scripts = x;
      reader = reader;
      gave =
          record {
            refusal = refusal_in (said a.outcome);
            ends = end_at a.ends;
            commits = a.commits;
            reader = buffer;
            after = n;
          };
    }

abbrev pub DispatcherLinks : Type 0
DispatcherLinks =
    (bytes : List ℕ) (minute : ℕ) (x : Scripts) (m : Machine) (reader : List ℕ) (a : Dispatched) (n : Machine)
    (buffer : List ℕ) → GivesDispatch (dispatch bytes minute x m reader) x.count a n buffer
    → DispatchMeets m (as_made bytes minute x reader a n buffer)
