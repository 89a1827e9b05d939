-- Whether the advances passed fit.
use mathlib.Core.{Path.{◌≡◌}}
use Rattle.state.specs.{Layout.{store_of, transaction_of}}
use Rattle.admission.specs.FirstRefusal.{below}
use Rattle.commit_apply.proofs.OffsetLaws.{offset_fits_at}
use Rattle.commit_apply.proofs.offsets.places_fit.Given as goal

abbrev pub invariant-loop-d : goal.invariant-loop-d
invariant-loop-d l = l.good ≡ below (offset_fits_at (store_of l.state) (transaction_of l.state l.t)) l.d
