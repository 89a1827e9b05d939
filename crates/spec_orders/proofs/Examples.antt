-- Small examples are computed.
use mathlib.Core.{List.{List, [], ◌∷◌}, Path.{refl, ap, ◌≡◌}}
use lib.ListN.{get_or}
use native.Mathlib.Omega.{arith}
use Prim.Native.Nat.{ℕ, zero, suc, ◌≤◌, ◌<◌}
use Rattle.spec_orders.specs.Orders.{without, chained, orders_of, orders, tried_of, factorial, better, best_of, best_tried}
use Rattle.spec_orders.specs.{Orders.{count_in, gap_of, is_in, distinct, is_list}, Numbering.order_at}
use Rattle.spec_orders.specs.Examples.{rising_from, OrderExamples}

-- An answer at position 1 has more grants than that at 0; no other order of two is at another position.
late : (p : ℕ) → p < 2 → ◌≡◌ {A = List ℕ} (2 ∷ 1 ∷ []) (get_or ((1 ∷ 2 ∷ []) ∷ (2 ∷ 1 ∷ []) ∷ []) p [])
    → ((i : ℕ) → i < p → 1 < 1) → ⊥
late zero l e h = let z : ◌≡◌ {A = ℕ} 2 1 = ap (λ (o : List ℕ). get_or o 0 0) e in omega arith
late (suc p) l e h = let z = h 0 (omega arith) in omega arith

pub order-examples : OrderExamples
unfolding without chained orders_of orders tried_of factorial order_at better best_of best_tried count_in gap_of is_in distinct is_list
    rising_from
order-examples = record {
  all = refl;
  number_three = refl;
  one = refl;
  gap_of_one = refl;
  four = refl;
  alike = refl;
  one_left = (refl, refl);
  exact = (refl, refl);
  above = (refl, refl);
  not_an_order = (λ h. let z : ◌≡◌ {A = ℕ} 0 1 = h 2 in omega arith, λ h. let z : ◌≡◌ {A = ℕ} 0 1 = h 1 in omega arith);
  too_late = λ h. late h.position h.inside h.order h.earliest;
  too_few = λ h. let z : 2 ≤ 1 = h.most 1 (omega arith) in omega arith;
  empty = (refl, refl);
  repeated = refl;
  eight = refl;
  nine = refl;
}
