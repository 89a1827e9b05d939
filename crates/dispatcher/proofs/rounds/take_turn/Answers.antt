-- `rounds::take_turn` meets its contract.
use Rattle.dispatcher.proofs.StepLaws.{stands-as, answered-passes, answered-fails, turn-done}
use borrow.Author.{Tests.{not-false}}
use Rattle.dispatcher.proofs.rounds.take_turn.Goals as goal

pub returns-in-Ok : goal.returns-in-Ok
returns-in-Ok c = λ minute x commits m₀ w s. turn-done _ minute x _ _ m₀ w _ _ _ commits s _ _ _ c.make.ensures _ _
    (λ v t. stands-as m₀ _ _ _ _ _ commits (answered-passes _ v _ c.in-Ok.is) t)

pub returns-in-Err : goal.returns-in-Err
returns-in-Err c = λ minute x commits m₀ w s. turn-done _ minute x _ _ m₀ w _ _ _ commits s _ _ _ c.make.ensures _ _
    (λ v t. stands-as m₀ _ _ _ _ _ commits (answered-fails _ v _ _ c.in-Err.is) (c.fail.ensures _ commits m₀ v t))
