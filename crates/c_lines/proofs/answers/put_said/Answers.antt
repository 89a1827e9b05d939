-- `answers::put_said` meets its contract.
use native.Mathlib.Omega.{arith}
use Rattle.state.specs.Outcomes.{said}
use Rattle.text_answers.{specs.Printed.spelled, proofs.Laws.length-spelled}
use Rattle.c_lines.specs.Lines.{spelled_line}
use Rattle.c_lines.proofs.AnswerLaws.{headed}
use Rattle.c_lines.proofs.answers.put_said.Goals as goal

pub put_byte-requires : goal.put_byte-requires
put_byte-requires c = let start =
    c in omega (
      arith,
      length-spelled (said start.args.o) start.args.buffer.now,
      c.put_answer-next.ensures.end,
      c.put_head-next.ensures.end,
      c.requires.0,
      c.requires.1,
    )

pub returns : goal.returns
unfolding spelled_line
returns c = let head = c in
    let start = head in
    let text = spelled (said start.args.o) start.args.buffer.now in
    let l = length-spelled (said start.args.o) start.args.buffer.now in
    headed text (omega (arith, l, start.requires.0, start.requires.1)) head.put_head-next.ensures
    c.put_answer-next.ensures c.put_byte.ensures
