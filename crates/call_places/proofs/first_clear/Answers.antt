-- `call_places::first_clear` meets its contract. The loop's invariant: the places from p to q are covered. Assumes nothing.
use mathlib.Core.{Path.{◌∙◌}}
use Prim.Native.Nat.{◌-◌}
use native.Mathlib.Omega.{arith}
use Rattle.limits.specs.Limits.{file_bytes}
use Rattle.read_lookup.specs.Lookup.{Recorded, extent, recorded_in}
use Rattle.call_places.proofs.CoverLaws.{first-clear-here, first-clear-after}
use mathlib.Core.Bool.{not}
use mathlib.Core.Path.{ap}
use Rattle.call_places.proofs.first_clear.Goals as goal

pub returns-then-is_none : goal.returns-then-is_none
returns-then-is_none c =
    let lent : Recorded = recorded_in c.args.records.now.state.now in
    let a = c.args in
    let l = c.loop-q in let r = c.latest_write-r in
    first-clear-here lent a.records.now.t a.records.now.used.records (extent a.f l.q (file_bytes - l.q)) r.result
    r.ensures.run a.p l.invariant.0 l.invariant.1 l.invariant.2 (c.is_none.ensures
    ∙ ap not c.if-is_none.true)

pub loop-q-preserved : goal.loop-q-preserved
loop-q-preserved c =
    let lent : Recorded = recorded_in c.args.records.now.state.now in
    let a = c.args in
    let l = c.loop-q in let r = c.latest_write-r in (
      omega arith,
      omega (arith, r.ensures.run.within),
      first-clear-after lent a.records.now.t a.records.now.used.records (extent a.f l.q (file_bytes - l.q)) r.result
          r.ensures.run a.p l.invariant.2 (c.is_none.ensures
          ∙ ap not c.if-is_none.false),
    )
