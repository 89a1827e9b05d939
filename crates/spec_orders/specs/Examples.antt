-- The orders of a small list, the best of them, the gap, and lists that are refused: theorems that the
-- checker computes.
use Rattle.std.specs.Prelude.{true, false, cond, List, [], ◌∷◌, ◌≡◌, ltb, eqb, length, get_or, ℕ, ◌+◌}
use Rattle.spec_orders.specs.Orders.{orders, tried_of, Rated, best_tried, gap_of, is_list}
use Rattle.spec_orders.specs.Orders.{Arranges, Earliest}
use Rattle.spec_orders.specs.Numbering.{order_at}

-- Whoever is below one granted before it is not granted: of 7 8 9 all are, of 9 7 8 the first.
unfoldable pub rising_from : ℕ → List ℕ → ℕ
rising_from n [] = 0
rising_from n (t ∷ ts) = cond (ltb t n) (rising_from n ts) (1 + rising_from t ts)

abbrev pub list : List ℕ
list = 9 ∷ 7 ∷ 8 ∷ []

abbrev pub best : ℕ → Rated
best budget = best_tried (rising_from 0) budget list

pub record OrderExamples : Type 0 where
  pub all :
      orders list
      ≡ (9 ∷ 7 ∷ 8 ∷ []) ∷ (9 ∷ 8 ∷ 7 ∷ []) ∷ (7 ∷ 9 ∷ 8 ∷ []) ∷ (7 ∷ 8 ∷ 9 ∷ []) ∷ (8 ∷ 9 ∷ 7 ∷ [])
      ∷ (8 ∷ 7 ∷ 9 ∷ [])
      ∷ []
  pub number_three : order_at 3 3 list ≡ 7 ∷ 8 ∷ 9 ∷ []
  -- A budget of 1: the given order is the worst.
  pub one : best 1 ≡ record { order = list; grants = 1 }
  pub gap_of_one : gap_of (λ t. false) 1 list 1 ≡ 2
  -- The best comes fourth; of orders with as many grants it is the earliest.
  pub four : best 4 ≡ record { order = 7 ∷ 8 ∷ 9 ∷ []; grants = 3 }
  pub alike : best_tried (λ o. 2) 6 list ≡ record { order = list; grants = 2 }
  -- A gap with an order left, where 8 has a byte for a closed file; a budget of exactly all, and one above.
  pub one_left : (length (tried_of 5 list) ≡ 5) × (gap_of (eqb 8) 5 list 1 ≡ 1)
  pub exact : (length (tried_of 6 list) ≡ 6) × (gap_of (eqb 8) 6 list 1 ≡ 0)
  pub above : (length (tried_of 7 list) ≡ 6) × (gap_of (eqb 8) 7 list 1 ≡ 0)
  -- What no order is, and what no answer is: a later one with as many grants, and one with fewer.
  pub not_an_order : (Arranges (1 ∷ 2 ∷ []) (1 ∷ 1 ∷ []) → ⊥) × (Arranges (1 ∷ 2 ∷ []) (2 ∷ []) → ⊥)
  pub too_late : Earliest (λ o. 1) ((1 ∷ 2 ∷ []) ∷ (2 ∷ 1 ∷ []) ∷ [])
      (record { order = 2 ∷ 1 ∷ []; grants = 1 }) → ⊥
  pub too_few : Earliest (λ o. get_or o 0 0) ((1 ∷ 2 ∷ []) ∷ (2 ∷ 1 ∷ []) ∷ [])
      (record { order = 1 ∷ 2 ∷ []; grants = 1 }) → ⊥
  -- 26.
  pub empty : (is_list [] ≡ false) × (is_list (7 ∷ []) ≡ true)
  pub repeated : is_list (8 ∷ 0 ∷ 8 ∷ []) ≡ false
  pub eight : is_list (0 ∷ 1 ∷ 2 ∷ 3 ∷ 4 ∷ 5 ∷ 6 ∷ 7 ∷ []) ≡ true
  pub nine : is_list (0 ∷ 1 ∷ 2 ∷ 3 ∷ 4 ∷ 5 ∷ 6 ∷ 7 ∷ 8 ∷ []) ≡ false
