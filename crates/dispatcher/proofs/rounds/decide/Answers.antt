-- `rounds::decide` meets its contract.
use Rattle.std.proofs.Common.{◌≡◌, sym, ap, ◌∙◌, true, rules}
use Rattle.std.specs.Prelude.{Err}
use Rattle.state.specs.declared.outcomes.Refusal.{Refusal}
use Rattle.state.specs.declared.outcomes.Refusal.TheVariants.{Stale}
use Rattle.state.specs.contracts.outcomes.Refusal.{the_type}
use denote.Enum.Bare.{same_true, sameb}
use Rattle.dispatcher.proofs.StepLaws.{stale-is}
use mathlib.Core.Path.{sym, ◌∙◌}
use Rattle.dispatcher.specs.{declared.ends.End.TheVariants.Granted, Types.end_of_script}
use Rattle.dispatcher.proofs.StepLaws.{stands-as, stands-end, decided-passes, decided-stale, decided-fails}
use Rattle.dispatcher.proofs.rounds.decide.Goals as goal

pub returns-in-Ok : goal.returns-in-Ok
unfolding end_of_script
returns-in-Ok c = λ reader commits m₀ w s. stands-as m₀ _ _ _ reader _ commits (decided-passes _ w _ _ c.in-Ok.is)
    (stands-end m₀ w _ reader _ commits s c.args.k Granted c.requires)

pub returns-then-eq : goal.returns-then-eq
returns-then-eq c = λ reader commits m₀ w s. stands-as m₀ _ _ _ reader _ commits (decided-stale _ w _ (c.in-Err.is
    ∙ ap (λ (r : Refusal). Err r) (same_true the_type (search rules) _ _ (sym c.if-eq.ensures)))) s

pub returns-else-eq : goal.returns-else-eq
returns-else-eq c = λ reader commits m₀ w s. stands-as m₀ _ _ _ reader _ commits (decided-fails _ w _ _ c.in-Err.is
    (λ q. let e : c.in-Err.r ≡ Stale = stale-is _ q in
    let same : c.eq.result ≡ true = c.eq.ensures ∙ ap (λ (r : Refusal). sameb the_type r Stale) e in cc (same, c.if-eq.false)))
    (c.fail.ensures reader commits m₀ w s)
