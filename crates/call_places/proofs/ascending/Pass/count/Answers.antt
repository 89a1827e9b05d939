-- `call_places::ascending::Pass::count` meets its contract. Assumes nothing.
use mathlib.Core.Path.{sym, ap, ◌∙◌}
use native.Mathlib.Omega.{arith}
use Rattle.read_lookup.specs.Lookup.{recorded_in}
use Rattle.call_places.specs.declared.ascending.Sweep.{Sweep}
use Rattle.call_places.proofs.AscendingLaws.{swept-is}
use Rattle.call_places.proofs.ascending.Pass.count.Goals as goal

pub returns-then-self : goal.returns-then-self
returns-then-self c = let a = c.args in let swept = c.args.self.now.swept in
    ap (λ (s : Sweep). s.intervals) swept
    ∙ sym (swept-is (recorded_in a.self.now.records.state.now) a.self.now.records.t a.self.now.file a.self.now.records.used.records c.args.self.now.within a.self.now.records.used.records
    (omega arith) (sym (ap (λ (s : Sweep). s.ascending) swept) ∙ c.if-self.true)).count
