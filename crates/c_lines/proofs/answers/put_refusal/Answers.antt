-- `answers::put_refusal` meets its contract.
use mathlib.Core.Path.{◌≡◌, sym, ap, ◌∙◌}
use native.Mathlib.Omega.{arith}
use Prim.Native.Nat.{ℕ, ◌-◌}
use Rattle.text_numerals.{specs.Decimal.number_text, proofs.PutLaws.length-number}
use Rattle.text_answers.{specs.Printed.{decimal, spelled}, proofs.Laws.{decimal-number, length-decimal}}
use Rattle.text_log.specs.Answers.{answer_text}
use Rattle.c_lines.specs.Lines.{answer_line}
use Rattle.c_lines.proofs.AnswerLaws.{headed}
use Rattle.c_lines.proofs.answers.put_refusal.Goals as goal

pub put_number-next-requires : goal.put_number-next-requires
put_number-next-requires c = let start = c in omega (
  arith,
  length-number (65536 - c.from.result),
  c.put_head-next.ensures.end,
  start.requires.0,
)

pub put_byte-requires : goal.put_byte-requires
put_byte-requires c = let start =
    c in omega (
      arith,
      length-number (65536 - c.from.result),
      c.put_number-next.ensures.end,
      c.put_head-next.ensures.end,
      c.requires.0,
    )

pub returns : goal.returns
unfolding answer_line answer_text spelled
returns c = let head = c in
    let start = head in let n = 65536 - start.args.r in
    let e : number_text (65536 - c.from.result) ≡ decimal n =
    ap (λ (k : ℕ). number_text (65536 - k)) c.from.ensures
    ∙ sym (decimal-number n (omega (arith, start.requires.1))) in
    headed (decimal n) (omega (arith, length-decimal n, start.requires.0)) head.put_head-next.ensures (rw e at
    c.put_number-next.ensures) c.put_byte.ensures
