-- `rounds::fail` meets its contract.
use Rattle.dispatcher.proofs.StepLaws.{stands-failed}
use Rattle.dispatcher.proofs.rounds.fail.Goals as goal

pub returns : goal.returns
returns c = λ reader commits m₀ w s. stands-failed m₀ w _ reader _ commits s c.args.k c.args.r c.requires _
    c.abort.ensures.0.machine
