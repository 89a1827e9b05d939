-- A refusal's number has at most five digits.
use Rattle.std.proofs.Common.{arith}
use Rattle.text_answers.proofs.Laws.{length-decimal}
use Rattle.text_answers.proofs.put_answer.Goals as goal

pub put_decimal-requires : goal.put_decimal-requires
put_decimal-requires c = omega (arith, length-decimal c.number.result, c.requires)
