-- Where an answered order stands in its array: theorems that the checker computes.
use Rattle.std.specs.declared.result.Result.TheVariants.{Ok, Err}
use Rattle.std.specs.Prelude.{List, [], ◌∷◌, ◌≡◌, ℕ}
use Rattle.state.specs.Outcomes.{Outcome}
use Rattle.state.specs.declared.outcomes.Answer.TheVariants.{Ordered}
use Rattle.state.specs.declared.outcomes.Refusal.TheVariants.{BadList}
use Rattle.call_order.specs.declared.order_call.Best.{Best}
use Rattle.call_order.specs.Answer.{order_in, Padded}

abbrev pub answer : Outcome → List ℕ → Best
answer o order = record { outcome = o; order = order }

-- The order 5 0 2 of a list of three, all granted, with all six orders tried.
abbrev pub three : List ℕ → Best
three order = answer (Ok (Ordered 3 0 6)) order

pub record OrderCallExamples : Type 0 where
  -- The order stands at the array's front, in order, and zeros behind it.
  pub front : order_in 3 (three (5 ∷ 0 ∷ 2 ∷ 0 ∷ 0 ∷ 0 ∷ 0 ∷ 0 ∷ [])) ≡ 5 ∷ 0 ∷ 2 ∷ []
  pub zeros : Padded 3 (three (5 ∷ 0 ∷ 2 ∷ 0 ∷ 0 ∷ 0 ∷ 0 ∷ 0 ∷ []))
  -- In no other array is it answered.
  pub only :
      (order : List ℕ) → order_in 3 (three order) ≡ 5 ∷ 0 ∷ 2 ∷ [] → Padded 3 (three order)
      → order ≡ 5 ∷ 0 ∷ 2 ∷ 0 ∷ 0 ∷ 0 ∷ 0 ∷ 0 ∷ []
  -- An order at the array's end, and one with another number behind it.
  pub at_the_end : Padded 3 (three (0 ∷ 0 ∷ 0 ∷ 0 ∷ 0 ∷ 5 ∷ 0 ∷ 2 ∷ [])) → ⊥
  pub not_zero : Padded 3 (three (5 ∷ 0 ∷ 2 ∷ 1 ∷ 0 ∷ 0 ∷ 0 ∷ 0 ∷ [])) → ⊥
  -- One of all eight leaves no room for zeros.
  pub eight : Padded 8 (answer (Ok (Ordered 8 0 40320)) (7 ∷ 6 ∷ 5 ∷ 4 ∷ 3 ∷ 2 ∷ 1 ∷ 0 ∷ []))
  -- With a refusal there is no order, and the array is zeros.
  pub none : (order : List ℕ) → order_in 3 (answer (Err BadList) order) ≡ []
  pub refused :
      (order : List ℕ) → Padded 3 (answer (Err BadList) order) → order ≡ 0 ∷ 0 ∷ 0 ∷ 0 ∷ 0 ∷ 0 ∷ 0 ∷ 0
      ∷ []
