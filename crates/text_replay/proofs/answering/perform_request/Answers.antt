-- `perform_request` meets its contract. Assumes nothing.
use lib.ListN.{length-take}
use native.Mathlib.Omega.{arith}
use Rattle.text_replay.proofs.Performing.{request-replies, size-within}
use Rattle.text_replay.proofs.answering.perform_request.Goals as goal

pub returns : goal.returns
returns c = let at-perform = c in let at-clipped = at-perform in
    let at-answer-size = at-clipped in
    let at-min = at-answer-size in let start = at-min in let a = start.args in
    let n = at-min.min-n.ensures in let part = length-take at-min.min-n.result a.reader.now in
    let o = at-perform.perform-outcome in let size = at-answer-size.answer_size-size.ensures in (
      size-within _ _ _ size (omega (arith, n)),
      (
        request-replies _ _ _ _ _ _ _ _ _ _ _ _ _ _ _ _ at-clipped.clipped.ensures size n
            (omega (arith, part, n, start.requires)) (omega (arith, o.auto, part, n, start.requires)) o.ensures.0,
        o.ensures.1,
      ),
    )
