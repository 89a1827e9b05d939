-- `perform_order` meets its contract. Assumes nothing.
use Rattle.text_replay.proofs.Performing.{order-replies}
use Rattle.text_replay.proofs.answering.perform_order.Goals as goal

pub returns : goal.returns
returns c = let at-put-order = c in let at-best-order = at-put-order in
    let best = at-best-order.best_order-best.ensures.0 in
    let h = order-replies _ _ _ _ _ _ _ _ at-put-order.put_order.ensures.0 at-put-order.put_order.ensures.1
    c.order_size-size.ensures best.0 in (h.0, (h.1, best.1))
