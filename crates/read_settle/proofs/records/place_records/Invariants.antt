-- `records::place_records` meets its contract. The loop's invariant: the records below `k` are placed.
use Rattle.read_settle.specs.Records.{PlacedIn}
use Rattle.read_settle.proofs.records.place_records.Given as goal

abbrev pub invariant-loop-k : goal.invariant-loop-k
invariant-loop-k l = PlacedIn l.chosen l.t l.k l.initial.state l.state
