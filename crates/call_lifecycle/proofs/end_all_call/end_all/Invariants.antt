-- `end_all_call::end_all` meets its contract. The loop's invariant: the transactions below t are ended.
use Rattle.call_lifecycle.proofs.EndRules.{EndedAll}
use Rattle.call_lifecycle.proofs.end_all_call.end_all.Given as goal

abbrev pub invariant-loop-t : goal.invariant-loop-t
invariant-loop-t l = EndedAll l.initial.state l.t l.state
