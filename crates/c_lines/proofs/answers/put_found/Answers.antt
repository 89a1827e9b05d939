-- `answers::put_found` meets its contract.
use native.Mathlib.Omega.{arith}
use Rattle.state.specs.Outcomes.{ordered}
use Rattle.text_log.{specs.Answers.answer_text, proofs.AnswerTexts.length-answer}
use Rattle.c_lines.specs.Lines.{answer_line}
use Rattle.c_lines.proofs.AnswerLaws.{headed}
use Rattle.c_lines.proofs.answers.put_found.Goals as goal

pub put_byte-requires : goal.put_byte-requires
unfolding answer_text
put_byte-requires c = let start =
    c in omega (
      arith,
      length-answer (ordered start.args.grants start.args.gap start.args.tried) start.args.order.now,
      c.put_best-next.ensures.end,
      c.put_head-next.ensures.end,
      c.requires.0,
      c.requires.1,
    )

pub returns : goal.returns
unfolding answer_line answer_text
returns c = let head = c in
    let start = head in
    let text =
    answer_text (ordered start.args.grants start.args.gap start.args.tried) start.args.order.now in
    let l =
    length-answer (ordered start.args.grants start.args.gap start.args.tried) start.args.order.now in
    headed text (omega (arith, l, start.requires.0, start.requires.1)) head.put_head-next.ensures
    c.put_best-next.ensures c.put_byte.ensures
