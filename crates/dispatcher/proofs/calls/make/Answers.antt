-- `calls::make` meets its contract.
use Rattle.std.proofs.Common.{sym, ap, ◌∙◌}
use Rattle.std.proofs.lemmas.Result.{err_from_is_err_and}
use Rattle.state.specs.Outcomes.{Outcome, said}
use Rattle.admission.specs.Admission.{gate_number}
use Rattle.spec.specs.Messages.{refusal_of}
use Rattle.spec_dispatch.specs.Rounds.{refusal_in}
use Rattle.dispatcher.proofs.StepLaws.{accepted}
use Rattle.dispatcher.proofs.StepLaws.{makes-of}
use Rattle.dispatcher.proofs.calls.make.Goals as goal

pub returns-in_err-perform : goal.returns-in_err-perform
unfolding gate_number said refusal_in refusal_of
returns-in_err-perform c =
    let p = err_from_is_err_and c.from_residual.result c.from_residual.ensures.1 in rw (p.1, p.2)
    (makes-of _ _ _ _ _ _ _ _ _ _ _ c.request_of-q.ensures c.bytes_of-part.ensures
    (sym (ap (λ (o : Outcome). refusal_in (said o)) c.in_err-perform.was)) c.perform.ensures.0)

pub returns : goal.returns
unfolding gate_number
returns c = makes-of _ _ _ _ _ _ _ _ _ _ _ c.request_of-q.ensures c.bytes_of-part.ensures
    (accepted _ ∙ sym (ap (λ (o : Outcome). refusal_in (said o)) c.in_ok-perform.was)) c.perform.ensures.0
