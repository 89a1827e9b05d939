-- The words of the pairs so far are put.
use Rattle.std.proofs.Common.{◌≡◌, ◌*◌, length}
use Rattle.text_log.proofs.AnswerTexts.{Put-so-far}
use Rattle.text_log.proofs.answers.put_words.Given as goal

abbrev pub invariant-loop-i : goal.invariant-loop-i
invariant-loop-i l = record {
  put : Put-so-far l.initial.out l.at l.bytes (2 * l.i) l.out l.next;
  same_length : length l.out ≡ length l.initial.out;
}
