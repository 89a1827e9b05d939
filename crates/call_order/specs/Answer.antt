-- Request F-14: where a caller of `best_order` finds the order that it was answered, and what holds of it.
use Rattle.std.specs.declared.result.Result.TheVariants.{Ok, Err}
use Rattle.std.specs.Prelude.{List, [], ◌++◌, ◌≡◌, length, take, replicate, ℕ, ◌-◌}
use Rattle.limits.specs.Limits.{transaction_count}
use Rattle.state.specs.Outcomes.{Outcome}
use Rattle.state.specs.declared.outcomes.Answer.TheVariants.{Done, Offset, Given, Granted, Pairs, Ordered}
use Rattle.spec.specs.Promises.{machine_of}
use Rattle.spec.specs.BestOrder.{BestOrderHolds}
use Rattle.call_order.specs.declared.order_call.Best.{Best}

-- "answer an order (as transaction numbers)" [R-14.1]: for a list of n the first n numbers of the array; none
-- with a refusal.
unfoldable pub order_part : Outcome → ℕ → List ℕ → List ℕ
order_part (Ok Done) n order = []
order_part (Ok (Offset o)) n order = []
order_part (Ok (Given k)) n order = []
order_part (Ok (Granted k)) n order = []
order_part (Ok (Pairs k)) n order = []
order_part (Ok (Ordered grants gap tried)) n order = take n order
order_part (Err r) n order = []

abbrev pub order_in : ℕ → Best → List ℕ
order_in n r = order_part r.outcome n r.order

-- The array of eight is the order and zeros after it; with a refusal, zeros.
abbrev pub Padded : ℕ → Best → Type 0
Padded n r = r.order ≡ order_in n r ++ replicate (transaction_count - length (order_in n r)) 0

-- What spec/specs/BestOrder.antt says of the answer, on any state and buffers.
abbrev pub BestOrderOfAny : Type 0
BestOrderOfAny = (state files logs marks undo : List ℕ)
    → BestOrderHolds (machine_of state files logs marks undo)
