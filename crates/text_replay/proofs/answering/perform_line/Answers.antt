-- `perform_line` meets its contract. Assumes nothing.
use Rattle.std.proofs.Common.{arith, refl}
use Rattle.state.specs.Outcomes.{said}
use Rattle.text_replay.proofs.Performing.{front-is, fresh-replies, asks-replies, order-line-replies}
use Rattle.text_replay.proofs.Performing.{none-replies, none-entry}
use Rattle.text_replay.proofs.answering.perform_line.Goals as goal

pub returns-in-Fresh : goal.returns-in-Fresh
returns-in-Fresh c = let h = fresh-replies _ c.args.bytes.now c.args.reader.now _ _ _ _ _
    (front-is c.args.bytes.now _ _ c.min.ensures) c.in-Fresh.is c.fresh-outcome.ensures.0 in
    (h.0, (h.1, c.fresh-outcome.ensures.1))

pub returns-in-Asks : goal.returns-in-Asks
returns-in-Asks c = let done = c.perform_request.ensures in
    let h = asks-replies _ c.args.bytes.now _ _ _ _ _ _ (front-is c.args.bytes.now _ _ c.min-in-Asks.ensures) _ _ _
    c.in-Asks.is (done.0, done.1.0) in (h.0, (h.1, done.1.1))

pub returns-in-Order : goal.returns-in-Order
returns-in-Order c = let done = c.perform_order.ensures in
    let h = order-line-replies _ c.args.bytes.now _ _ _ _ _ _ (front-is c.args.bytes.now _ _ c.min-in-Order.ensures) _ _ _
    c.in-Order.is (done.0, done.1.0) in (h.0, (h.1, done.1.1))

pub returns-in-Another : goal.returns-in-Another
unfolding said
returns-in-Another c = (
  omega arith,
  (
    rw (none-entry c.args.said c.args.bytes.now _ c.in-Another.is) (none-replies _ _ c.args.reader.now refl),
    λ r e other. refl,
  ),
)
