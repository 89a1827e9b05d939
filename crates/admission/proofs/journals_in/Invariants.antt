-- `admission::journals_in` meets its contract.
use mathlib.Core.{Path.{◌≡◌}, Bool.true}
use Rattle.admission.specs.FirstRefusal.{below}
use Rattle.admission.proofs.{Tests.records_in}
use Rattle.admission.proofs.journals_in.Given as goal

abbrev pub invariant-loop-t : goal.invariant-loop-t
invariant-loop-t l = below (records_in l.state) l.t ≡ true
