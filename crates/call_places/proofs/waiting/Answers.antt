-- `call_places::waiting` meets its contract. The loop's invariant: none of the first k records waits. Assumes nothing.
use mathlib.Core.Path.{sym, ap, ◌∙◌}
use native.Mathlib.Omega.{arith}
use Rattle.state.specs.Layout.{store_of}
use Rattle.admission.proofs.Laws.{some-found}
use Rattle.call_places.specs.PlacesCall.{waits_on, waits_on_file}
use Rattle.call_places.proofs.waiting.Invariants.{waits-at}
use Rattle.call_places.proofs.waiting.Goals as goal

pub returns-then-waits : goal.returns-then-waits
unfolding waits_on_file
returns-then-waits c = let a = c.args in
    sym (some-found (waits-at a.records.now.state.now a.records.now.t a.f) a.records.now.used.records c.loop-k.k (omega arith)
    (ap (waits_on (store_of a.records.now.state.now).filenumbers a.f) (sym c.get-w.ensures) ∙ sym c.waits.ensures ∙ c.if-waits.true))
