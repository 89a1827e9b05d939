-- `call_order::best::OrderTable::best_of` meets its contract.
use mathlib.Core.{Bool.true, List.List, Path.{◌≡◌, sym, ap, ◌∙◌, subst}}
use lib.{Dec.leb, ListN.{length, take, drop, length-take}}
use native.Mathlib.Omega.{arith}
use Prim.Native.Nat.{ℕ, ◌<◌}
use Rattle.limits.specs.Limits.{last_transaction}
use Rattle.spec_orders.specs.{Orders.{factorial, best_of, best_tried, tried_of, all_in}, Numbering.order_at}
use Rattle.spec_orders.proofs.Distinct.{all-arranged}
use Rattle.call_order.specs.{OrderTable.grants_by_table, declared.best.BestFound.BestFound}
use Rattle.call_order.proofs.BestLaws.{order-arranges, best_first, takes-it, leaves-it}
use Rattle.call_order.proofs.best.OrderTable.best_of.Goals as goal
use Rattle.call_order.proofs.best.OrderTable.best_of.Goals.{else-best-grants, then-best-grants}

pub loop-i-init : goal.loop-i-init
unfolding best_of
loop-i-init c = (c.numbers_of-order.ensures.0, c.grants_of-grants.ensures, c.numbers_of-order.ensures.1)

pub invariant_of-arranged : goal.invariant_of-arranged
invariant_of-arranged c = let ts = c.args.list.numbers.now in let i = c.loop-i.i in
    let inside : i < factorial (length ts) = omega (arith, c.loop-i-test.true, c.requires) in record {
      few = omega (arith, length-take (length ts) c.order_at-order.result, c.args.list.few);
      small = subst (λ (o : List ℕ). all_in (λ t. leb t last_transaction) o ≡ true) (sym c.order_at-order.ensures.0)
          (all-arranged (λ t. leb t last_transaction) ts (order_at (length ts) i ts) (order-arranges ts i inside) c.args.list.small);
    }

pub loop-i-preserved : goal.loop-i-preserved
loop-i-preserved c = let l = c.loop-i in let ts = c.args.list.numbers.now in let n = length ts in
    let G = grants_by_table c.args.state.now c.args.self.now in
    let inside : l.i < factorial (length ts) = omega (arith, c.loop-i-test.true, c.requires) in
    let next = take n c.order_at-order.result in let more = c.grants_of-grants-in-loop-i.result in
    elim c.if-best-grants.branch [
      | then-best-grants w ↦ let e = takes-it G ts l.i inside (take n l.best.order) l.best.grants l.invariant.0 l.invariant.1
          next more c.order_at-order.ensures.0 c.grants_of-grants-in-loop-i.ensures w.if-best-grants.true in (
            ap (λ (b : BestFound). take n b.order) w.best-is ∙ e.0,
            ap (λ (b : BestFound). b.grants) w.best-is ∙ e.1,
            ap (λ (b : BestFound). drop n b.order) w.best-is ∙ c.order_at-order.ensures.1,
          )
      | else-best-grants w ↦ let e = leaves-it G ts l.i inside (take n l.best.order) l.best.grants l.invariant.0 l.invariant.1
          next more c.order_at-order.ensures.0 c.grants_of-grants-in-loop-i.ensures w.if-best-grants.false in (
            ap (λ (b : BestFound). take n b.order) w.best-is ∙ e.0,
            ap (λ (b : BestFound). b.grants) w.best-is ∙ e.1,
            ap (λ (b : BestFound). drop n b.order) w.best-is ∙ l.invariant.2,
          )
    ]

pub returns : goal.returns
unfolding best_tried tried_of
returns c = let l = c.loop-i in
    let best = best_first (grants_by_table c.args.state.now c.args.self.now) c.args.list.numbers.now in
    let e : l.i ≡ c.args.tried = omega arith in record {
      order = l.invariant.0 ∙ ap (λ (i : ℕ). (best i).order) e;
      grants = l.invariant.1 ∙ ap (λ (i : ℕ). (best i).grants) e;
      zeros = l.invariant.2;
    }
