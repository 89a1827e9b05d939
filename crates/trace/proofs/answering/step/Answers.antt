-- `step` meets its contract. Assumes nothing.
use mathlib.Core.Path.{ap}
use lib.ListN.{length, drop, drop_of_length-le}
use native.Mathlib.Omega.{arith}
use Prim.Native.Nat.{ℕ, ◌≤◌}
use Rattle.buffers.specs.Parts.{cut}
use Rattle.text_lines.proofs.Passing.{off, on, take_none, of_room, pending-passes, answer-passes}
use Rattle.trace.specs.Transcript.{store_trace}
use Rattle.trace.proofs.answering.step.Goals as goal

pub returns-then-not-scan : goal.returns-then-not-scan
returns-then-not-scan c = let scanned = c in
    let start = scanned in let piece = start.args.piece.now in
    let went = scanned.next_line-scan.ensures.1 in let no = off scanned.next_line-scan.result.complete c.if-not-scan.true in
    let whole = went.whole no in let past : length piece ≤ scanned.next_line-scan.result.at = omega (arith, whole) in (
      pending-passes store_trace _ _ _ _ _ _ _ (of_room store_trace _ _ _ _ _ _ start.requires.1.1
          scanned.next_line-scan.ensures.0) no (drop_of_length-le piece past),
      record {
        pending = omega (arith, went.within, start.requires.1.1);
        waiting = omega (arith, start.requires.0.waiting, start.requires.1.0.printable);
        inside = went.inside;
        past = λ h. omega (arith, whole, h);
      },
    )

pub returns : goal.returns
unfolding cut
returns c = let answered = c in let cutting = answered in
    let tested = cutting in
    let scanned = tested in
    let start = scanned in let piece = start.args.piece.now in
    let went = scanned.next_line-scan.ensures.1 in let e = answered.answer_line.ensures in
    let yes = on scanned.next_line-scan.result.complete tested.if-not-scan.false in let past = went.past yes in (
      answer-passes store_trace _ _ _ _ _ _ _
          (of_room store_trace _ _ _ _ _ _ start.requires.1.1 scanned.next_line-scan.ensures.0) yes _
          cutting.part.ensures _ _ e.0 _ _ (take_none _ _ e.1.1.0) (ap (λ (n : ℕ). drop n piece) e.1.1.1),
      record {
        pending = omega (arith, e.1.1.0);
        waiting = e.1.0;
        inside = omega (arith, went.inside, e.1.1.1);
        past = λ h. omega (arith, past, e.1.1.1);
      },
    )
