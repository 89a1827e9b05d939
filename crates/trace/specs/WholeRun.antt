-- A whole run of a trace. Paper 02, F-5: "A program reads standard input over a fresh store, descriptor d in
-- file d mod 8." [R-19.1] What is said of any program that works line by line is in
-- text_lines/specs/WholeRun.antt; whether `flush` writes what is handed over to it no contract says.
use Rattle.std.specs.Prelude.{List, [], ◌++◌, ◌≡◌, get_or, ℕ}
use Rattle.text_lines.specs.Lines.{lines_of}
use Rattle.text_lines.specs.Programs.{Under, transcript}
use Rattle.text_lines.specs.WholeRun.{Leg, input_of, output_of, Legs, PiecesReach}
use Rattle.spec.specs.Machine.{Machine}
use Rattle.spec.specs.Plain.{fresh_plain, plain_call}
use Rattle.spec.specs.SerializabilityOfStore.{FreshlyMade}
use Rattle.trace.specs.Transcript.{mod_eight, TraceState, tracing, store_trace}

-- Some pieces of input lead to u from a fresh store with nothing pending. Each turn of the program asks this
-- of what it is handed: the store, the reader's buffer and what is pending of a line.
pub record ReachedFresh (u : Under (TraceState Machine)) : Type 0 where
  pub store : Machine
  pub made : FreshlyMade mod_eight store
  pub reader : List ℕ
  pub reached : PiecesReach store_trace (record { machine = store; reader = reader }) u

-- Proved in proofs/WholeRun.antt: on the store that `start` promises, what is handed over to be written is
-- the text of the lines of the input, however it was cut; on the store, and on the reference model
-- (Serializability).
pub record TraceWhole (m : Machine) (reader : List ℕ) (legs : List Leg) (last : List ℕ) : Type 0 where
  pub on_store : output_of legs ++ last ≡ transcript store_trace (lines_of (input_of legs))
      (record { machine = m; reader = reader })
  pub on_plain :
      output_of legs ++ last
      ≡ transcript (tracing plain_call) (lines_of (input_of legs))
      (record { machine = fresh_plain (λ d. get_or mod_eight d 0); reader = reader })

abbrev pub TraceWholeRun : Type 0
TraceWholeRun =
    (m : Machine) → FreshlyMade mod_eight m
    → (reader : List ℕ) (legs : List Leg) (last : List ℕ) (k : TraceState Machine)
    → Legs store_trace [] (record { machine = m; reader = reader }) legs last k → TraceWhole m reader legs last
