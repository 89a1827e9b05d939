-- `answers::put_best` meets its contract, as that of calllog does.
use native.Mathlib.Omega.{arith}
use Rattle.text_numerals.proofs.PutLaws.{length-number}
use Rattle.text_log.proofs.AnswerTexts.{best-text}
use Rattle.c_lines.proofs.answers.put_best.Goals as goal

pub put_spaced-next-requires-2 : goal.put_spaced-next-requires-2
put_spaced-next-requires-2 c = let first = c in
    let ok = first in omega (
      arith,
      ok.put_ok-next.ensures.end,
      first.put_spaced-next.ensures.end,
      length-number first.from.result,
      ok.requires,
    )

pub put_spaced-next-requires-3 : goal.put_spaced-next-requires-3
put_spaced-next-requires-3 c = let second = c in
    let first = second in let ok = first in
    omega (
      arith,
      ok.put_ok-next.ensures.end,
      first.put_spaced-next.ensures.end,
      length-number first.from.result,
      second.put_spaced-next-2.ensures.end,
      length-number second.from-2.result,
      ok.requires,
    )

pub put_list-requires : goal.put_list-requires
put_list-requires c = let third = c in
    let second = third in
    let first = second in let ok = first in
    omega (
      arith,
      ok.put_ok-next.ensures.end,
      first.put_spaced-next.ensures.end,
      length-number first.from.result,
      second.put_spaced-next-2.ensures.end,
      length-number second.from-2.result,
      third.put_spaced-next-3.ensures.end,
      length-number third.from-3.result,
      ok.requires,
    )

pub returns : goal.returns
returns c = let third = c in
    let second = third in
    let first = second in let ok = first in
    let start = ok in
    best-text start.args.order.now start.requires first.from.ensures second.from-2.ensures
    third.from-3.ensures ok.put_ok-next.ensures first.put_spaced-next.ensures second.put_spaced-next-2.ensures
    third.put_spaced-next-3.ensures c.put_list.ensures
