-- `rounds::commit_one` meets its contract.
use mathlib.Core.Bool.{true, false}
use native.Mathlib.Omega.{arith}
use borrow.Author.{Tests.{not-true, not-false}}
use Rattle.dispatcher.proofs.StepLaws.{stands-as, goes-as, commit-over, commit-done}
use mathlib.Core.Bool.{not}
use mathlib.Core.Path.{ap}
use Rattle.dispatcher.proofs.rounds.commit_one.Goals as goal

pub returns-then-not-goes_on : goal.returns-then-not-goes_on
returns-then-not-goes_on c = record {
  work = λ bytes x reader m₀ w s. stands-as m₀ _ _ _ reader _ _
      (commit-over bytes c.args.minute x c.args.k m₀ w (goes-as m₀ w _ reader _ _ s c.args.k
      c.requires.0 _ false c.goes_on.ensures (not-true _ (ap not c.if-not-goes_on.true)))) s;
  few = omega arith;
}

pub returns : goal.returns
returns c = record {
  work = λ bytes x reader m₀ w s. commit-done bytes c.args.minute x c.args.k m₀ w _ reader _ _ s _ _
      c.commit-o.ensures.0 (goes-as m₀ w _ reader _ _ s c.args.k
      c.requires.0 _ true c.goes_on.ensures (not-false _ (ap not c.if-not-goes_on.false))) _ _
      (λ v t. c.decide-out.ensures reader _ m₀ v t);
  few = omega arith;
}
