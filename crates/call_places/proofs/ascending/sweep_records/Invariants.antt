-- `call_places::ascending::sweep_records` meets its contract. The loop's invariant: s is what a pass over the first k records
-- meets. Assumes nothing.
use mathlib.Core.Path.{◌≡◌}
use Rattle.read_lookup.specs.Lookup.{recorded_in}
use Rattle.call_places.specs.{Ascending.{swept_in}}
use Rattle.call_places.proofs.ascending.sweep_records.Given as goal

abbrev pub invariant-loop-k : goal.invariant-loop-k
invariant-loop-k l = l.s ≡ swept_in (recorded_in l.records.state.now) l.records.t l.f l.k
