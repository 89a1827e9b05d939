-- `rounds::begin_one` meets its contract.
use mathlib.Core.Bool.{true}
use Rattle.dispatcher.proofs.StepLaws.{stands-as, stands-call, goes-as, chosen-step}
use Rattle.dispatcher.proofs.rounds.begin_one.Goals as goal

pub returns-then-goes_on : goal.returns-then-goes_on
returns-then-goes_on c = λ reader commits m₀ w s. stands-as m₀ _ _ _ reader _ commits (chosen-step _ _ w (goes-as m₀ w _ reader _ commits s
    c.args.k c.requires _ true c.goes_on.ensures c.if-goes_on.true))
    (stands-call m₀ w _ reader _ commits s _ _ c.begin.ensures.0.machine)
