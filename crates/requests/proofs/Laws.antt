-- A request that is another is performed as the other.
use mathlib.Core.{List.List, Path.◌≡◌}
use Prim.Native.Nat.{ℕ}
use Rattle.state.specs.Outcomes.{Outcome}
use Rattle.requests.specs.{declared.Request.Request, Performing.Performs}
use Rattle.spec.specs.Machine.{Machine}

pub performs-as : (q p : Request) (bytes reader : List ℕ) (m : Machine) (o : Outcome) (m' : Machine) (reader' : List ℕ)
    → q ≡ p → Performs p bytes reader m o m' reader' → Performs q bytes reader m o m' reader'
performs-as q p bytes reader m o m' reader' e h = rw e h
