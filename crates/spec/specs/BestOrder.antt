-- Request F-14, "Best order to commit in" [R-14.1]: what holds of the call's answer, beside its wording.
use Rattle.std.specs.Prelude.{List, map, ◌≡◌, length, ℕ, ◌+◌, ◌≤◌}
use Rattle.state.specs.Outcomes.{ordered}
use Rattle.spec_orders.specs.Orders.{tried_of, factorial, Arranges, Earliest}
use Rattle.spec.specs.Messages.{Call, commit, best_order, grants_among}
use Rattle.spec.specs.Machine.{Machine}
use Rattle.spec.specs.Calls.{call, calls_replies}

-- The Commits of an order at the minute, and how many of them are granted, made one after the other: "how
-- many grants Commit would give in it" [R-14.1].
abbrev pub commits_in : List ℕ → ℕ → List Call
commits_in o minute = map (λ t. commit t minute) o

unfoldable pub grants_by : Machine → ℕ → List ℕ → ℕ
grants_by m minute o = grants_among (calls_replies (commits_in o minute) m)

-- The list, the minute and the budget that were given, and what was answered: an order, its grants, the gap,
-- and how many were tried.
pub record BestOrder (m : Machine) (ts : List ℕ) (minute budget : ℕ) (order : List ℕ)
    (grants gap tried : ℕ) : Type 0 where
  pub arranges : Arranges ts order
  -- "the answer is the earliest of those tried with the most grants" [R-14.2]
  pub best : Earliest (grants_by m minute) (tried_of budget ts) (record { order = order; grants = grants })
  -- "No order has more grants than the answer plus the gap." [R-14.3]
  pub none_better : (o : List ℕ) → Arranges ts o → grants_by m minute o ≤ grants + gap
  -- "The gap is 0 when all orders were tried" [R-14.3]
  pub no_gap : tried ≡ factorial (length ts) → gap ≡ 0
  -- "The number of orders tried is in the result, never above the budget." [R-14.1]
  pub many : (tried ≡ length (tried_of budget ts)) × (tried ≤ budget)

-- call_order/specs/Answer.antt claims it of any state and any buffers.
pub record BestOrderHolds (m : Machine) : Type 0 where
  -- "the store is unchanged" [R-14.1]
  pub unchanged : (ts : List ℕ) (minute budget : ℕ) → (call (best_order ts minute budget) m).after ≡ m
  pub answered :
      (ts : List ℕ) (minute budget grants gap tried : ℕ)
      → (call (best_order ts minute budget) m).reply.answer ≡ ordered grants gap tried
      → BestOrder m ts minute budget (call (best_order ts minute budget) m).reply.buffer grants gap tried
