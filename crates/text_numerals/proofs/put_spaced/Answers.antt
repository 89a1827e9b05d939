-- A space, then the number directly after it.
use mathlib.Core.List.{[], ◌∷◌}
use native.Mathlib.Omega.{arith}
use Rattle.text_numerals.specs.Decimal.{number_text}
use Rattle.text_numerals.proofs.PutLaws.{then, length-number}
use Rattle.text_numerals.proofs.put_spaced.Goals as goal

pub put_number-requires : goal.put_number-requires
put_number-requires c = omega (
  arith,
  length-number c.args.n,
  c.put_byte-next.ensures.end,
)

pub returns : goal.returns
returns c = let start = c in
    let l = length-number start.args.n in let fits = start.requires in
    then (32 ∷ []) (number_text start.args.n) (omega arith)
    c.put_byte-next.ensures c.put_number.ensures
