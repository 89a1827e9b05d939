-- `replay_last_line` meets its contract. Assumes nothing.
use mathlib.Core.Path.{refl}
use native.Mathlib.Omega.{arith}
use Rattle.buffers.specs.Parts.{cut}
use Rattle.text_log.specs.Replay.{replaying}
use Rattle.text_lines.proofs.Passing.{off, on, take_none, no-last-line, last_line_lem}
use Rattle.text_replay_pieces.proofs.Laws.{took-line}
use mathlib.Core.Bool.{not}
use mathlib.Core.Path.{ap}
use Rattle.text_replay_pieces.proofs.replay_last_line.Goals as goal

pub returns-then-not-is_line : goal.returns-then-not-is_line
unfolding cut
returns-then-not-is_line c =
    let tested = c in
    let cutting = tested in
    let start = cutting in
    let none = start.requires.0.waiting in
    let a = start.requires.0.answer in
    let no = off tested.is_line.result (ap not c.if-not-is_line.true) in (
      no-last-line replaying _ _ _ _ _ refl tested.is_line.ensures no (take_none _ _ none),
      record { pending = refl; at = refl; waiting = omega (arith, none); answer = record { starts = a.starts; ends = a.ends } },
    )

pub returns : goal.returns
unfolding cut
returns c = let took = c in
    let again = took in
    let branch = again in let tested = branch in
    let cutting = tested in let start = cutting in
    let none = start.requires.0.waiting in let yes = on tested.is_line.result (ap not branch.if-not-is_line.false) in
    let t = took.take_line.ensures in (
      last_line_lem replaying _ _ _ _ refl tested.is_line.ensures yes _ (take_none _ _ none) _
          refl _ _ (took-line _ _ _ _ _ t.1),
      record { pending = t.0.pending; at = t.0.at; waiting = t.0.waiting; answer = t.0.answer },
    )
