-- `answers::put_places` meets its contract.
use native.Mathlib.Omega.{arith}
use Rattle.state.specs.Outcomes.{pairs, said}
use Rattle.text_log.{specs.Answers.answer_text, proofs.AnswerTexts.length-answer}
use Rattle.c_lines.specs.Lines.{answer_line}
use Rattle.c_lines.proofs.AnswerLaws.{headed}
use Rattle.c_lines.proofs.answers.put_places.Goals as goal

pub put_byte-requires : goal.put_byte-requires
unfolding said
put_byte-requires c = let start =
    c in omega (
      arith,
      length-answer (pairs start.args.r) start.args.bytes.now,
      c.put_reply-next.ensures.end,
      c.put_head-next.ensures.end,
      c.requires.0,
      c.requires.1,
    )

pub returns : goal.returns
unfolding answer_line said
returns c = let head = c in
    let start = head in
    let text = answer_text (pairs start.args.r) start.args.bytes.now in
    let l = length-answer (pairs start.args.r) start.args.bytes.now in
    headed text (omega (arith, l, start.requires.0, start.requires.1)) head.put_head-next.ensures
    c.put_reply-next.ensures c.put_byte.ensures
