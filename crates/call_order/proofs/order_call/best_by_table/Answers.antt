-- `call_order::order_call::best_by_table` meets its contract.
use mathlib.Core.{Path.{◌≡◌}}
use borrow.Author.Rules.{rules}
use lib.{ListN.{length}}
use native.Mathlib.Omega.{arith}
use Rattle.state.specs.Outcomes.{said}
use Rattle.admission.proofs.Laws.{first-zero}
use Rattle.call_order.specs.{Answer.order_part}
use Rattle.call_order.proofs.{ArrangeLaws.{factorial-most, padded-front}, Admitted.{list-in, land-all}}
use Rattle.call_order.proofs.Answered.{answer-is, buffer-is}
use Rattle.call_order.proofs.order_call.best_by_table.Goals as goal

pub octets_of-table-requires : goal.octets_of-table-requires
octets_of-table-requires c = let a = c.args in let ts = a.list.numbers.now in (
  land-all a.state.now ts a.minute a.budget c.requires.0 (list-in a.state.now ts a.minute a.budget c.requires.2),
  c.requires.1,
)

pub best_of-b-requires : goal.best_of-b-requires
best_of-b-requires c = omega (arith, c.min-tried.ensures, c.factorial-all.ensures)

pub overflow_cast-result : goal.overflow_cast-result
overflow_cast-result c = omega (
  arith,
  c.min-tried.ensures,
  c.factorial-all.ensures,
  factorial-most (length c.args.list.numbers.now) c.args.list.few,
)

pub returns : goal.returns
unfolding said order_part
returns c =
    let a = c.args in let ts = a.list.numbers.now in let found = c.best_of-b.ensures in
    let listed = list-in a.state.now ts a.minute a.budget c.requires.2 in
    let eight : length c.best_of-b.result.order ≡ 8 = search rules in (
      (λ files logs undo asking. let long = (first-zero _ _ _ 0 asking.admitted).0.logs in (
        answer-is a.state.now files logs a.marks.now undo ts a.minute a.budget asking listed _
            (c.octets_of-table.ensures files logs undo long) _ (c.closed_of-closed.ensures logs long) _
            c.none_waits-placed.ensures _ c.factorial-all.ensures _ c.min-tried.ensures _ _ found.grants
            c.gap_of-gap.ensures,
        buffer-is a.state.now files logs a.marks.now undo ts a.minute a.budget asking listed _
            (c.octets_of-table.ensures files logs undo long) _ (c.closed_of-closed.ensures logs long) _
            c.none_waits-placed.ensures _ c.factorial-all.ensures _ c.min-tried.ensures _ found.order,
      )),
      padded-front (length ts) c.best_of-b.result.order (omega (arith, eight, a.list.few)) found.zeros,
    )
