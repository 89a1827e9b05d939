-- `call_places::ascending::Pass::is_waiting` meets its contract. Assumes nothing.
use mathlib.Core.Path.{sym, ap, ◌∙◌}
use Rattle.read_lookup.specs.Lookup.{recorded_in}
use Rattle.call_places.specs.declared.ascending.Sweep.{Sweep}
use Rattle.call_places.proofs.AscendingLaws.{swept-placed}
use Rattle.call_places.proofs.ascending.Pass.is_waiting.Goals as goal

pub returns-then-self : goal.returns-then-self
returns-then-self c = let a = c.args in
    sym (swept-placed (recorded_in a.self.now.records.state.now) a.self.now.records.t a.self.now.file a.self.now.records.used.records
    (sym (ap (λ (s : Sweep). s.ascending) c.args.self.now.swept) ∙ c.if-self.true))
