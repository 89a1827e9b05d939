-- The loop's invariant: the lines from i on, with the bytes pending now, are those from the start, with the bytes pending then.
use Rattle.std.proofs.Common.{◌≡◌, ◌≤◌, ◌-◌, length, take, drop}
use Rattle.text_lines.proofs.Laws.{Same}
use Rattle.text_lines.proofs.next_line.Given as goal

abbrev pub invariant-loop-i : goal.invariant-loop-i
invariant-loop-i l = record {
  room : l.n ≤ length l.initial.line;
  same_length : length l.line ≡ length l.initial.line;
  same : Same (length l.initial.line - 1) (take l.pending l.initial.line) (drop l.from l.piece) (take l.n l.line) (drop l.i l.piece);
}
