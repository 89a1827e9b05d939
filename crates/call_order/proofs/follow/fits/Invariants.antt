-- `call_order::follow::fits` meets its contract. The loop's invariant: whether the advances passed fit.
use mathlib.Core.{List.List, Bool.Bool, Path.◌≡◌}
use lib.{Dec.leb, ListN.get_or}
use Prim.Native.Nat.{ℕ, ◌+◌}
use Rattle.limits.specs.Limits.{file_bytes}
use Rattle.standings.specs.Table.{advance}
use Rattle.state.specs.{StoreMeaning.standing_at, Layout.transaction_of}
use Rattle.admission.specs.FirstRefusal.{below}
use Rattle.call_order.proofs.follow.fits.Given as goal

abbrev pub fits-at : List ℕ → ℕ → List ℕ → ℕ → Bool
fits-at state t offsets d = leb (get_or offsets d 0 + advance (standing_at (transaction_of state t) d)) file_bytes

abbrev pub invariant-loop-d : goal.invariant-loop-d
invariant-loop-d l = l.good ≡ below (fits-at l.state l.t l.offsets) l.d
