-- `step` meets its contract. Assumes nothing.
use mathlib.Core.Path.{ap, refl}
use lib.ListN.{length, drop, drop_of_length-le}
use native.Mathlib.Omega.{arith}
use Prim.Native.Nat.{ℕ, ◌≤◌}
use Rattle.buffers.specs.Parts.{cut}
use Rattle.text_log.specs.Replay.{replaying}
use Rattle.text_lines.proofs.Passing.{off, on, take_none, of_room, pending-passes, answer-passes}
use Rattle.text_replay_pieces.proofs.Laws.{took-line}
use Rattle.text_replay_pieces.proofs.step.Goals as goal

pub returns-then-not-scan : goal.returns-then-not-scan
returns-then-not-scan c = let looked = c in
    let start = looked in let piece = start.args.piece.now in
    let went = looked.next_line-scan.ensures.1 in let no = off looked.next_line-scan.result.complete c.if-not-scan.true in
    let whole = went.whole no in let past : length piece ≤ looked.next_line-scan.result.at = omega (arith, whole) in
    let a = start.requires.0.answer in (
      pending-passes replaying _ _ _ _ _ _ _ (of_room replaying _ _ _ _ _ _ start.requires.1.0
          looked.next_line-scan.ensures.0) no (drop_of_length-le piece past),
      record {
        pending = omega (arith, went.within, start.requires.1.0);
        waiting = omega (arith, start.requires.0.waiting);
        inside = went.inside;
        past = λ h. omega (arith, whole, h);
        answer = record { starts = a.starts; ends = a.ends };
      },
    )

pub returns : goal.returns
unfolding cut
returns c = let took = c in
    let cutting = took in
    let tested = cutting in
    let looked = tested in
    let start = looked in let piece = start.args.piece.now in
    let went = looked.next_line-scan.ensures.1 in let t = took.take_line.ensures in
    let yes = on looked.next_line-scan.result.complete tested.if-not-scan.false in let past = went.past yes in (
      answer-passes replaying _ _ _ _ _ _ _
          (of_room replaying _ _ _ _ _ _ start.requires.1.0 looked.next_line-scan.ensures.0) yes _ refl
          _ _ (took-line _ _ _ _ _ t.1) _ _ (take_none _ _ t.0.pending) (ap (λ (n : ℕ). drop n piece) t.0.at),
      record {
        pending = omega (arith, t.0.pending);
        waiting = t.0.waiting;
        inside = omega (arith, went.inside, t.0.at);
        past = λ h. omega (arith, past, t.0.at);
        answer = t.0.answer;
      },
    )
