-- The numbers in the buffer, and those that the rest of the line may still have, make what was asked for.
use Rattle.std.proofs.Common.{◌≡◌, ◌≤◌, ◌-◌, ◌+◌, length, take, drop}
use Rattle.text_numerals.specs.Decimal.{numbers_in, prepended}
use Rattle.text_numerals.proofs.numbers_from.Given as goal

abbrev pub invariant-loop-at : goal.invariant-loop-at
invariant-loop-at l = record {
  within : l.n ≤ l.first + l.most;
  same_length : length l.buffer ≡ length l.initial.buffer;
  same : prepended (take l.first l.initial.buffer) (numbers_in l.most (drop l.from l.line))
      ≡ prepended (take l.n l.buffer) (numbers_in (l.first + l.most - l.n) (drop l.at l.line));
}

abbrev pub decreases-loop-at : goal.decreases-loop-at
decreases-loop-at l = l.first + l.most - l.n
