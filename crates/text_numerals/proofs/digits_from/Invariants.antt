-- The digits still allowed, from the number and place at hand on, make what those from the start make.
use Rattle.std.proofs.Common.{◌≡◌, ◌<◌, ◌-◌, ◌+◌, drop}
use Rattle.text_numerals.specs.Decimal.{past, digits, fitting}
use Rattle.text_numerals.proofs.digits_from.Given as goal

abbrev pub invariant-loop-at : goal.invariant-loop-at
invariant-loop-at l = record {
  small : l.value < past;
  same : fitting (digits l.more l.first (drop l.from l.line)) ≡ fitting (digits (l.from + l.more - l.at) l.value (drop l.at l.line));
}
