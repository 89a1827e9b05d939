-- Laws of the orders of a list: `orders` lists every order once, the best tried is the earliest, and none is
-- better than the gap allows. They follow from the definitions of Orders.antt, and the proofs of what is
-- claimed of the best order (spec/specs/BestOrder.antt) rest on them: nobody has to believe them.
use Rattle.std.specs.Prelude.{Bool, not, List, [], ◌∷◌, ◌↔◌, ◌≡◌, length, get_or, ℕ, ◌+◌, ◌≤◌}
use Rattle.spec_orders.specs.Orders.{orders, tried_of, factorial, best_tried, count_in, gap_of, Arranges}
use Rattle.spec_orders.specs.Orders.{Earliest}

-- A list is among others.
pub data In (o : List ℕ) : List (List ℕ) → Type 0 where
  first : (os : List (List ℕ)) → In o (o ∷ os)
  later : (p : List ℕ) (os : List (List ℕ)) → In o os → In o (p ∷ os)

-- The orders of the definition are those, n! of them.
pub record OrdersOf (ts : List ℕ) : Type 0 where
  pub these : (o : List ℕ) → In o (orders ts) ↔ Arranges ts o
  pub many : length (orders ts) ≡ factorial (length ts)
  -- "the given order first" [R-14.2]
  pub given_first : get_or (orders ts) 0 [] ≡ ts
  -- "The number of orders tried is in the result, never above the budget." [R-14.1]
  pub tried : (budget : ℕ) → length (tried_of budget ts) ≤ budget

-- "the answer is the earliest of those tried with the most grants" [R-14.2]
abbrev pub BestIsEarliest : Type 0
BestIsEarliest =
    (grants_in : List ℕ → ℕ) (budget : ℕ) (ts : List ℕ) → 1 ≤ budget
    → Earliest grants_in (tried_of budget ts) (best_tried grants_in budget ts)

-- "No order has more grants than the answer plus the gap" [R-14.3], where only those without a byte for a
-- closed file are granted.
abbrev pub NoneBetter : Type 0
NoneBetter =
    (grants_in : List ℕ → ℕ) (has_closed : ℕ → Bool)
    → ((o : List ℕ) → grants_in o ≤ count_in (λ t. not (has_closed t)) o)
    → (ts o : List ℕ) (budget : ℕ) → Arranges ts o
    → let a = best_tried grants_in budget ts in
    grants_in o ≤ a.grants + gap_of has_closed budget ts a.grants
