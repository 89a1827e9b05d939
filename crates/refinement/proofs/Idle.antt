-- What is committed decides: stores in range with nothing open that have the same committed state answer alike.
use mathlib.Core.{Bool.true, Path.{ap, ◌∙◌, subst⁻¹}}
use lib.ListN.{length}
use native.Mathlib.Omega.{arith}
use Rattle.state.specs.{Journal.journal_length, Layout.journal_of}
use Rattle.buffers.proofs.TableLaws.{length-tabulate}
use Rattle.admission.proofs.Laws.{admitted-dispatch}
use Rattle.spec.{specs.{Machine.{Machine, sizes}, Age.{Resting, CommittedDecides}}, proofs.Refinement.Relation.Shaped}
use Rattle.spec.proofs.Theorems.Age.{IdleMachine, idle-alike}
use Rattle.refinement.proofs.Shapes.{shaped}

pub resting-idle : (m : Machine) → Resting m → IdleMachine m
resting-idle m r = let a = admitted-dispatch (sizes m) m.store m.journal true r.passes in record {
  sound = record {
    shaped = subst⁻¹ (λ (n : Machine). Shaped n.store) r.meant (shaped r.state);
    journal = ap (λ (n : Machine). length n.journal) r.meant ∙ (unfold journal_of in length-tabulate _ journal_length);
    files = a.lengths.files;
    logs = a.lengths.logs;
    marks = a.lengths.marks;
    undo = a.lengths.undo;
    in_range = a.ranges;
  };
  closed = λ t l. a.idle t (omega arith);
}

pub committed-decides : CommittedDecides
committed-decides m n a b files lost cs = idle-alike m n (resting-idle m a) (resting-idle n b) files lost cs
