-- The serial order as runs in isolation: a proof device. The statement runs the granted ones again as a list of calls
-- (Rerun.antt).
use mathlib.Core.{Bool.true, List.{List, [], ◌∷◌, map}, Path.◌≡◌}
use lib.Dec.{leb}
use Prim.Native.Nat.{ℕ, ◌+◌}
use Rattle.limits.specs.Limits.{last_transaction}
use Rattle.windows.specs.Windows.{minute_in}
use Rattle.spec.specs.{Transactions.empty, Commits.fits, Sightings.Committed, LoneRuns.{Lone, lone}}
use Rattle.spec.specs.{Plain.{Accepted, ops, committing}, Grants.Grant}

-- One granted transaction run alone, with its accepted calls.
unfoldable pub again : (ℕ → ℕ) → Committed → List Accepted → Lone
again file_of c g = lone file_of c (ops g) empty

-- "For the serial order the granted ones are run alone from the state of Fresh, in the order of their grants, with their accepted
-- calls and then their granted Commit, each on what the one before left": what they leave, from grant number n on.
unfoldable pub serially : (ℕ → ℕ) → ℕ → List Grant → Committed → Committed
serially file_of n [] c = c
serially file_of n (g ∷ gs) c = serially file_of (n + 1) gs (committing file_of (n + 1) (again file_of c g.calls).txn c)

-- "meet no refusal, give the same answers and bytes": each gets through all its calls with the replies that it had, and its
-- Commit is not refused (alone it is not stale, and with Fresh's windows no file is closed, so by 22 or 12 at most).
pub record SameAgain (file_of : ℕ → ℕ) (c : Committed) (g : Grant) : Type 0 where
  pub small : leb g.txn_number last_transaction ≡ true
  pub daily : minute_in g.minute ≡ true
  pub through : (again file_of c g.calls).through ≡ true
  pub replies : (again file_of c g.calls).replies ≡ map (λ a. a.reply) g.calls
  pub fitting : fits c.value (again file_of c g.calls).txn ≡ true

unfoldable pub AllSame : (ℕ → ℕ) → ℕ → List Grant → Committed → Type 0
AllSame file_of n [] c = Unit {0}
AllSame file_of n (g ∷ gs) c = SameAgain file_of c g
    × AllSame file_of (n + 1) gs (committing file_of (n + 1) (again file_of c g.calls).txn c)
