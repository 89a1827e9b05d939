-- `call_places::first_covered` meets its contract. Assumes nothing.
use mathlib.Core.{Path.{refl, sym, ◌∙◌}}
use Prim.Native.Nat.{◌-◌}
use native.Mathlib.Omega.{arith}
use Rattle.limits.specs.Limits.{file_bytes}
use Rattle.read_lookup.specs.Lookup.{Recorded, recorded_in, extent}
use Rattle.call_places.proofs.CoverLaws.{first-covered-here, first-covered-after}
use Rattle.call_places.proofs.first_covered.Goals as goal

pub returns-then-is_some : goal.returns-then-is_some
returns-then-is_some c =
    let lent : Recorded = recorded_in c.args.records.now.state.now in
    let a = c.args in let r = c.latest_write-r in
    first-covered-here lent a.records.now.t a.records.now.used.records (extent a.f a.p (file_bytes - a.p)) r.result
    r.ensures.run refl (omega arith) (sym c.is_some.ensures ∙ c.if-is_some.true)

pub returns : goal.returns
returns c =
    let lent : Recorded = recorded_in c.args.records.now.state.now in
    let a = c.args in
    let r = c.latest_write-r in
    first-covered-after lent a.records.now.t a.records.now.used.records (extent a.f a.p (file_bytes - a.p)) r.result
    r.ensures.run refl (omega arith) (sym c.is_some.ensures ∙ c.if-is_some.false)
