-- `read_lookup::Records::own_end` meets its contract. The loop's invariant: `end` is the largest of the ends of the records passed.
use mathlib.Core.Path.{◌≡◌}
use Rattle.read_lookup.specs.Lookup.{own_reach}
use Rattle.read_lookup.proofs.Records.own_end.Given as goal

abbrev pub invariant-loop-k : goal.invariant-loop-k
invariant-loop-k l = l.end ≡ own_reach l.self.state.now l.self.t l.k l.file
