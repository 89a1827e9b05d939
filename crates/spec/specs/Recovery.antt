-- A store whose program goes down while transactions are open, and that goes on from what was saved.
use Rattle.std.specs.Prelude.{List, [], ◌∷◌, ◌++◌, ◌≡◌, length, replicate, ℕ}
use Rattle.limits.specs.Limits.{buffer_bytes, transaction_count}
use Rattle.buffers.specs.Parts.{tabulate}
use Rattle.state.specs.declared.StoreMeaning.{StoreMeaning}
use Rattle.state.specs.StoreMeaning.{ended, with_transactions}
use Rattle.state.specs.Layout.{store_of, journal_of}
use Rattle.spec.specs.Messages.{Call, abort}
use Rattle.spec.specs.Machine.{Machine, with_store, with_logs, with_marking}
use Rattle.spec.specs.Calls.{calls_after}
use Rattle.spec.specs.SerializabilityOfStore.{FreshlyMade}

-- Every transaction as one that has ended; all else as before.
unfoldable pub all_ended : StoreMeaning → StoreMeaning
all_ended s = with_transactions (replicate transaction_count ended) s

-- The promise of the code that ends them: what the state's numbers mean at exit, by what they meant at entry.
abbrev pub EndsAll : List ℕ → List ℕ → Type 0
EndsAll before after = (store_of after ≡ all_ended (store_of before)) × (journal_of after ≡ journal_of before)

-- The state with every transaction ended, the files and the undo log were saved; the store goes on with them,
-- and with any logs and marks.
unfoldable pub recovered : List ℕ → List ℕ → Machine → Machine
recovered logs marks m = with_logs logs (with_marking marks (with_store (all_ended m.store) m))

-- A run of the program up to the moment of which the store was saved, and the logs and marks of the next run.
pub record ProgramRun : Type 0 where
  pub calls : List Call
  pub logs : List ℕ
  pub marks : List ℕ
  pub logs_length : length logs ≡ buffer_bytes
  pub marks_length : length marks ≡ buffer_bytes

-- The store with which the next run begins.
unfoldable pub runs_after : List ProgramRun → Machine → Machine
runs_after [] m = m
runs_after (r ∷ rs) m = runs_after rs (recovered r.logs r.marks (calls_after r.calls m))

-- A store that runs and then a list of calls have led to from a fresh one, however many.
pub record Reached (m : Machine) : Type 0 where
  pub numbers : List ℕ
  pub first : Machine
  pub made : FreshlyMade numbers first
  pub runs : List ProgramRun
  pub calls : List Call
  pub by : m ≡ calls_after calls (runs_after runs first)

-- The calls of one that never goes down: at the end of each run every transaction is aborted. (Where it is
-- not open, that is refused and changes nothing.)
unfoldable pub abort_all : List Call
abort_all = tabulate abort transaction_count

unfoldable pub calls_of_runs : List ProgramRun → List Call
calls_of_runs [] = []
calls_of_runs (r ∷ rs) = r.calls ++ (abort_all ++ calls_of_runs rs)
