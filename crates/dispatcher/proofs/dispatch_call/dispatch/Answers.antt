-- `dispatch_call::dispatch` meets its contract.
use mathlib.Core.Path.{refl}
use Rattle.spec.specs.Promises.{machine_of}
use Rattle.refinement.proofs.TurnLaws.{done-follows}
use Rattle.spec_dispatch.proofs.DispatchTheorems.{few-commits}
use Rattle.dispatcher.proofs.DispatchLaws.{gate-scripts, refused-gives, done-gives}
use Rattle.dispatcher.proofs.dispatch_call.dispatch.Goals as goal

pub returns-in-Err : goal.returns-in-Err
returns-in-Err c =
    (refused-gives _ c.args.minute _ _ _ _ (rw c.of.ensures at c.admit-g.ensures) _ c.in-Err.is, λ r e h. refl)

pub run_rounds-p-requires : goal.run_rounds-p-requires
run_rounds-p-requires c = let a = c.args in
    let m = machine_of a.state.now a.files.now a.logs.now a.marks.now a.undo.now in
    gate-scripts a.bytes.now a.minute _ m a.reader.now _ (rw c.of.ensures at c.admit-g.ensures)
    c.in_default.is

pub returns : goal.returns
returns c = (
  done-gives _ c.args.minute _ _ _ _ (rw c.of.ensures at c.admit-g.ensures) c.in_default.is _ _ _ _
      c.run_rounds-p.ensures (few-commits _ _ _ _ _ _ c.args.minute _ _),
  done-follows _ _,
)
