-- The bytes in the buffer, and those of the pairs that are left, make those of all pairs.
use Rattle.std.proofs.Common.{◌≡◌, ◌*◌, length, take, drop}
use Rattle.text_numerals.specs.{Decimal.prepended, Pairs.pairs_in}
use Rattle.text_numerals.proofs.pairs_at.Given as goal

abbrev pub invariant-loop-i : goal.invariant-loop-i
invariant-loop-i l = record {
  same_length : length l.buffer ≡ length l.initial.buffer;
  same : pairs_in l.pairs ≡ prepended (take l.i l.buffer) (pairs_in (drop (2 * l.i) l.pairs));
}
