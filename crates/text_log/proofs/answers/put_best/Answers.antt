-- ok, three numbers, and the list.
use native.Mathlib.Omega.{arith}
use Rattle.text_numerals.proofs.PutLaws.{length-number}
use Rattle.text_log.proofs.AnswerTexts.{best-text}
use Rattle.text_log.proofs.answers.put_best.Goals as goal

pub put_spaced-next-requires-2 : goal.put_spaced-next-requires-2
put_spaced-next-requires-2 c = omega (
  arith,
  c.put_ok-next.ensures.end,
  c.put_spaced-next.ensures.end,
  length-number c.from.result,
  c.requires,
)

pub put_spaced-next-requires-3 : goal.put_spaced-next-requires-3
put_spaced-next-requires-3 c = omega (
  arith,
  c.put_ok-next.ensures.end,
  c.put_spaced-next.ensures.end,
  length-number c.from.result,
  c.put_spaced-next-2.ensures.end,
  length-number c.from-2.result,
  c.requires,
)

pub put_list-requires : goal.put_list-requires
put_list-requires c = omega (
  arith,
  c.put_ok-next.ensures.end,
  c.put_spaced-next.ensures.end,
  length-number c.from.result,
  c.put_spaced-next-2.ensures.end,
  length-number c.from-2.result,
  c.put_spaced-next-3.ensures.end,
  length-number c.from-3.result,
  c.requires,
)

pub returns : goal.returns
returns c = let start = c in
    best-text start.args.order.now start.requires c.from.ensures c.from-2.ensures
    c.from-3.ensures
    c.put_ok-next.ensures c.put_spaced-next.ensures
    c.put_spaced-next-2.ensures
    c.put_spaced-next-3.ensures c.put_list.ensures
