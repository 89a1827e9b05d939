-- `call_places::ascending::sweep_records` meets its contract. The loop's invariant: s is what a pass over the first k records
-- meets. Assumes nothing.
use mathlib.Core.Path.{ap, ap₂, ◌∙◌}
use native.Mathlib.Omega.{arith}
use Rattle.state.specs.{declared.journal.WriteRecord.WriteRecord, Layout.store_of}
use Rattle.read_lookup.specs.Lookup.{recorded_in}
use Rattle.call_places.specs.{declared.ascending.Sweep.Sweep, Ascending.{swept_record}}
use Rattle.call_places.proofs.AscendingLaws.{swept-few, swept_none, swept-more}
use Rattle.call_places.proofs.ascending.sweep_records.Goals as goal

pub loop-k-init : goal.loop-k-init
loop-k-init c = let a = c.args in
    c.unswept-s.ensures ∙ swept_none (recorded_in a.records.now.state.now) a.records.now.t a.f

pub sweep_record-s-requires : goal.sweep_record-s-requires
sweep_record-s-requires c = let l = c.loop-k in let few = swept-few (recorded_in c.args.records.now.state.now) c.args.records.now.t c.args.f l.k in (
  rw c.get-w.ensures (c.args.records.now.counted.descriptors l.k (omega arith)),
  omega (arith, ap (λ (r : Sweep). r.intervals) l.invariant, few, c.args.records.now.counted.records),
)

pub loop-k-preserved : goal.loop-k-preserved
loop-k-preserved c = let a = c.args in
    let l = c.loop-k in
    c.sweep_record-s.ensures
    ∙ ap₂ (λ (r : Sweep) (w : WriteRecord). swept_record (store_of a.records.now.state.now).filenumbers a.f r w)
    l.invariant c.get-w.ensures ∙ swept-more (recorded_in a.records.now.state.now) a.records.now.t a.f l.k
