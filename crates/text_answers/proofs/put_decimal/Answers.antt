-- A number of 16 bits has the same digits in the wider text.
use mathlib.Core.Path.{ap}
use native.Mathlib.Omega.{arith}
use lib.ListN.{length}
use Rattle.text_answers.proofs.Laws.{decimal-number}
use Rattle.text_answers.proofs.put_decimal.Goals as goal

pub put_number-requires : goal.put_number-requires
put_number-requires c = let start = c in
    let l = ap length (decimal-number start.args.n start.ranges.n.fits) in
    rw c.from.ensures (omega (arith, l, start.requires))

pub returns : goal.returns
returns c = let start = c in
    rw (decimal-number start.args.n start.ranges.n.fits, ← c.from.ensures)
    c.put_number.ensures
