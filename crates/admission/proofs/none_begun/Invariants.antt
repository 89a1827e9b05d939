-- `admission::none_begun` meets its contract.
use mathlib.Core.{Bool.{not}, Path.{◌≡◌}}
use Rattle.state.specs.Layout.{transaction_of}
use Rattle.admission.specs.FirstRefusal.{below}
use Rattle.admission.proofs.none_begun.Given as goal

abbrev pub invariant-loop-t : goal.invariant-loop-t
invariant-loop-t l = l.none ≡ below (λ u. not (transaction_of l.state u).begun) l.t
