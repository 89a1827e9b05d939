-- The loop's invariant: the letter, the first number and those so far behind spaces are put.
use Rattle.std.proofs.Common.{◌≡◌, ◌∷◌, ◌++◌, length, take, drop, get_or}
use Rattle.text_numerals.specs.{Decimal.{number_text, spaced_texts}, Put.Put}
use Rattle.text_log.proofs.put_numbers.Given as goal

abbrev pub invariant-loop-n : goal.invariant-loop-n
invariant-loop-n l = record {
  put : Put l.fn.out 0 (l.letter ∷ (number_text (get_or l.numbers 0 0) ++ spaced_texts (take l.n-index (drop 1 l.numbers)))) l.out l.next;
  same_length : length l.out ≡ length l.fn.out;
}
