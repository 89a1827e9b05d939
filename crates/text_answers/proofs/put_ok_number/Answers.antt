-- `put_ok_number` meets its contract. Assumes nothing.
use mathlib.Core.List.{[], ◌∷◌, ◌++◌}
use native.Mathlib.Omega.{arith}
use Rattle.text_answers.specs.Printed.{ok, ok_number, decimal}
use Rattle.text_numerals.proofs.PutLaws.{then}
use Rattle.text_answers.proofs.Laws.{length-decimal}
use Rattle.text_answers.proofs.put_ok_number.Goals as goal

pub put_decimal-requires : goal.put_decimal-requires
put_decimal-requires c = omega (
  arith,
  length-decimal c.args.n,
  c.put_byte-next.ensures.end,
  c.put_ok-next.ensures.end,
)

pub returns : goal.returns
unfolding ok_number
returns c = let n =
    c.args.n in
    let fits = c.requires in let l = length-decimal n in
    then (ok ++ (32 ∷ [])) (decimal n) (omega arith) (then ok (32 ∷ []) (omega arith)
    c.put_ok-next.ensures
    c.put_byte-next.ensures) c.put_decimal.ensures
