-- The loop's invariant: the numbers so far are put.
use Rattle.std.proofs.Common.{◌≡◌, length, take}
use Rattle.text_numerals.specs.{Put.Put, Decimal.spaced_texts}
use Rattle.text_numerals.proofs.put_list.Given as goal

abbrev pub invariant-loop-n : goal.invariant-loop-n
invariant-loop-n l = record {
  put : Put l.initial.out l.at (spaced_texts (take l.n-index l.list)) l.out l.next;
  same_length : length l.out ≡ length l.initial.out;
}
