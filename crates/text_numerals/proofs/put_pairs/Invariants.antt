-- The loop's invariant: the pairs of the bytes so far are put.
use Rattle.std.proofs.Common.{◌≡◌, length, take}
use Rattle.text_numerals.specs.{Put.Put, Pairs.hex_pairs}
use Rattle.text_numerals.proofs.put_pairs.Given as goal

abbrev pub invariant-loop-b : goal.invariant-loop-b
invariant-loop-b l = record {
  put : Put l.initial.out l.at (hex_pairs (take l.b-index l.bytes)) l.out l.next;
  same_length : length l.out ≡ length l.initial.out;
}
