-- `answer_last_line` meets its contract. Assumes nothing.
use mathlib.Core.Path.{refl}
use native.Mathlib.Omega.{arith}
use Rattle.buffers.specs.Parts.{cut}
use Rattle.text_lines.proofs.Passing.{off, on, take_none, no-last-line, last_line_lem}
use Rattle.trace.specs.Transcript.{store_trace}
use mathlib.Core.Bool.{not}
use mathlib.Core.Path.{ap}
use Rattle.trace.proofs.answering.answer_last_line.Goals as goal

pub returns-then-not-is_line : goal.returns-then-not-is_line
unfolding cut
returns-then-not-is_line c = let tested = c in let cutting = tested in let start = cutting in
    let none = start.requires.0.waiting in let no = off tested.is_line.result (ap not c.if-not-is_line.true) in (
      no-last-line store_trace _ _ _ _ _ cutting.part.ensures tested.is_line.ensures no (take_none _ _ none),
      (omega (arith, none), refl),
    )

pub returns : goal.returns
unfolding cut
returns c = let answered = c in let again = answered in
    let branch = again in let tested = branch in
    let cutting = tested in let start = cutting in
    let none = start.requires.0.waiting in let yes = on tested.is_line.result (ap not branch.if-not-is_line.false) in
    let e = answered.answer_line.ensures in (
      last_line_lem store_trace _ _ _ _ cutting.part.ensures tested.is_line.ensures yes _ (take_none _ _ none) _
          again.part-2.ensures _ _ e.0,
      (e.1.0, e.1.1.0),
    )
