-- The octets so far, and those of the numbers that are left, make those of all numbers.
use Rattle.std.proofs.Common.{◌≡◌, length, take, drop}
use Rattle.text_numerals.specs.Decimal.{prepended}
use Rattle.text_log.specs.Octets.{octets_in}
use Rattle.text_log.proofs.parsing.octets_of.Given as goal

abbrev pub invariant-loop-i : goal.invariant-loop-i
invariant-loop-i l = record {
  same_length : length l.bytes ≡ length l.initial.bytes;
  same : octets_in l.numbers ≡ prepended (take l.i l.bytes) (octets_in (drop l.i l.numbers));
}
