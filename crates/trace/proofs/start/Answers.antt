-- `start` meets its contract: Fresh refuses no new store. Assumes nothing.
use Rattle.std.proofs.Common.{◌≡◌, ◌∙◌, refl, List, ℕ}
use Rattle.admission.specs.{FirstRefusal.{below, unless}, Admission.{sizes_in, admission_of_fresh}}
use Rattle.buffers.specs.Parts.{tabulate}
use Rattle.state.specs.Outcomes.{done_answer}
use Rattle.spec.specs.Calls.{fresh}
use Rattle.store.specs.Kept.{machine_in}
use Rattle.trace.specs.Transcript.{mod_eight}
use Rattle.trace.proofs.Starting.{Passes, passes, zeros-accepted, done-is-ok}
use Rattle.trace.proofs.start.Goals.{After-new-store}
use Rattle.trace.proofs.start.Goals as goal

accepted : (numbers : List ℕ) → Passes numbers → (c : After-new-store)
    → (fresh numbers (machine_in c.new-store.result)).reply.answer ≡ done_answer
accepted numbers p c = let z = c.new-store.ensures in zeros-accepted numbers p _ z.files z.logs z.marks z.undo

-- Whatever the list is, as long as Fresh's tests pass it.
pub unwrap-requires : goal.unwrap-requires
unfolding admission_of_fresh sizes_in below unless
unwrap-requires c =
    done-is-ok _ (c.fresh.ensures.0.outcome ∙ accepted _ refl (goal.at.unwrap-requires c).After-new-store)

pub returns : goal.returns
unfolding mod_eight tabulate
returns c = record {
  before = _;
  accepted = accepted mod_eight passes (goal.at.returns c).After-new-store;
  gave = c.fresh.ensures.0.machine;
}
