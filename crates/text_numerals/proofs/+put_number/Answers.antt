-- `put_number` meets its contract: one digit, or the front digits and then the last.
use mathlib.Core.{Path.ap, List.{[], ◌∷◌}}
use Prim.Native.Nat.{◌/◌}
use native.Mathlib.Omega.{arith}
use lib.ListN.{length, length-append}
use Rattle.text_numerals.specs.Decimal.{number_text}
use Rattle.text_numerals.proofs.PutLaws.{then, number-digit, number_more}
use Rattle.text_numerals.proofs.+put_number.Goals as goal

pub put_byte-requires : goal.put_byte-requires
put_byte-requires t c = let l = ap length (number-digit c.args.n c.if-n-lt10.true) in omega (arith, l, c.requires)

pub returns-then-n-lt10 : goal.returns-then-n-lt10
returns-then-n-lt10 t c = rw (number-digit c.args.n c.if-n-lt10.true, ← c.glyph.ensures) c.put_byte.ensures

pub put_number-next-requires : goal.put_number-next-requires
put_number-next-requires t c = let n = c.args.n in
    let l = ap length (number_more n c.if-n-lt10.false c.ranges.n.fits) in
    (omega arith, omega (arith, simp length-append at l, c.requires))

pub put_byte-requires-2 : goal.put_byte-requires-2
put_byte-requires-2 t c = let n = c.args.n in
    let l = ap length (number_more n c.if-n-lt10.false c.ranges.n.fits) in
    omega (arith, simp length-append at l, c.requires, c.put_number-next.ensures.end)

pub returns : goal.returns
returns t c = let n = c.args.n in let e = number_more n c.if-n-lt10.false c.ranges.n.fits in
    let l = ap length e in
    rw (e, ← c.glyph-2.ensures)
    (then (number_text (n / 10)) (c.glyph-2.result ∷ []) (omega (arith, simp length-append at l, c.requires))
    c.put_number-next.ensures c.put_byte-2.ensures)
