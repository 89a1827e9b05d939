-- Small examples are computed.
use mathlib.Core.{List.{List, ◌++◌}, Path.{◌≡◌, refl, ap, ◌∙◌}}
use lib.ListN.{length, get_or, replicate}
use native.Mathlib.Omega.{arith}
use Prim.Native.Nat.{ℕ, ◌-◌}
use Rattle.call_order.specs.{Answer.order_part, Examples.OrderCallExamples}

pub order-call-examples : OrderCallExamples
order-call-examples = unfold order_part in record {
  front = refl;
  zeros = refl;
  only = λ order e p. p ∙ ap (λ (o : List ℕ). o ++ replicate (8 - length o) 0) e;
  at_the_end = λ p. let z : ◌≡◌ {A = ℕ} 5 0 = ap (λ (o : List ℕ). get_or o 5 0) p in omega arith;
  not_zero = λ p. let z : ◌≡◌ {A = ℕ} 1 0 = ap (λ (o : List ℕ). get_or o 3 0) p in omega arith;
  eight = refl;
  none = λ order. refl;
  refused = λ order p. p;
}
