-- `answer_line` meets its contract. Assumes nothing.
use mathlib.Core.Path.{refl}
use lib.ListN.{length}
use native.Mathlib.Omega.{arith}
use Prim.Native.Nat.{◌≤◌}
use Rattle.trace.proofs.Turns.{answer-line}
use Rattle.trace.proofs.answering.answer_line.Goals as goal

pub returns : goal.returns
returns c = let put = c in let heard = put in
    let start = heard in
    let a = start.args in let h = heard.answer-o.ensures in let p = put.print_answer-waiting.ensures in
    let room : a.progress.waiting ≤ length a.out.now = omega (arith, start.requires.0, start.requires.1.printable) in (
      answer-line a.line.now a.reader.now _ _ _ _ a.out.now a.progress.waiting _ _ h p.0 room,
      (p.1, (refl, refl)),
    )
