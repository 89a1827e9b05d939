-- `call_order::admit_list::has_unplaced` meets its contract.
use mathlib.Core.Path.{sym, ap, ◌∙◌}
use native.Mathlib.Omega.{arith}
use Rattle.counters.specs.declared.Used.{Used}
use Rattle.state.specs.{declared.journal.WriteRecord.WriteRecord, Layout.transaction_of}
use Rattle.admission.{proofs.Laws.{some_more, some-found}}
use Rattle.spec.specs.Places.{no_place}
use Rattle.commit_windows.proofs.ClosingLaws.{few-closing}
use Rattle.call_order.specs.OrderTable.{unplaced_in}
use Rattle.call_order.proofs.admit_list.has_unplaced.Invariants.{unplaced-at}
use Rattle.call_order.proofs.admit_list.has_unplaced.Goals as goal

pub record_at-w-requires : goal.record_at-w-requires
record_at-w-requires c = let same = ap (λ (u : Used). u.records) c.used_at-used.ensures in (
  omega (arith, c.requires.small),
  omega (arith, few-closing c.args.state.now c.args.t c.requires, same, c.loop-k-test.true),
)

pub returns-in-After : goal.returns-in-After
unfolding unplaced_in no_place
returns-in-After c = let a = c.args in let same = ap (λ (u : Used). u.records) c.used_at-used.ensures in
    sym (some-found (unplaced-at a.state.now a.t) (transaction_of a.state.now a.t).used.records c.loop-k.k
    (omega (arith, same, c.loop-k-test.true))
    (ap (λ (w : WriteRecord). no_place w.place) (sym c.record_at-w.ensures) ∙ ap no_place c.in-After.is))

pub loop-k-preserved : goal.loop-k-preserved
unfolding no_place
loop-k-preserved c = some_more _ c.loop-k.k c.loop-k.invariant
    (ap (λ (w : WriteRecord). no_place w.place) (sym c.record_at-w.ensures) ∙ ap no_place c.in_default.is)
