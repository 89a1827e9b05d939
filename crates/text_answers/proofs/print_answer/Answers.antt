-- `print_answer` meets its contract. Assumes nothing.
use mathlib.Core.List.{[], ◌∷◌}
use native.Mathlib.Omega.{arith}
use Rattle.state.specs.Outcomes.{said}
use Rattle.text_answers.specs.Printed.{printed, spelled}
use Rattle.text_numerals.proofs.PutLaws.{then}
use Rattle.text_answers.proofs.Laws.{length-spelled}
use Rattle.text_answers.proofs.print_answer.Goals as goal

pub put_byte-requires : goal.put_byte-requires
put_byte-requires c = omega (
  arith,
  length-spelled (said c.args.outcome)
      c.args.reader.now,
  c.put_answer-next.ensures.end,
  c.requires,
)

pub returns : goal.returns
unfolding printed
returns c = let text =
    spelled (said c.args.outcome)
    c.args.reader.now in
    let l =
    length-spelled (said c.args.outcome)
    c.args.reader.now in
    let put = then text (10 ∷ [])
    (omega (arith, l, c.requires))
    c.put_answer-next.ensures c.put_byte.ensures in (
      put,
      omega (
        arith,
        l,
        c.requires,
        c.put_answer-next.ensures.end,
        c.put_byte.ensures.end,
      ),
    )
