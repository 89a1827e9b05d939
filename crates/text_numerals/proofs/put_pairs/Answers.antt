-- The pair of one byte more is put.
use Rattle.std.proofs.Common.{◌<◌, ◌+◌, ◌*◌, ◌≤◌, ◌∷◌, [], ◌++◌, arith, length, take, length-append}
use Rattle.std.proofs.Math.Seq.{length-take-le}
use Rattle.text_numerals.specs.Pairs.{hex_pairs}
use Rattle.text_numerals.proofs.PutLaws.{then, nothing, length_pairs, pairs-more}
use Rattle.text_numerals.proofs.put_pairs.Goals as goal

pub loop-b-init : goal.loop-b-init
unfolding hex_pairs
loop-b-init c = record { put = nothing _ _; same_length = omega arith }

pub put_byte-next-requires : goal.put_byte-next-requires
put_byte-next-requires c = let l = c.loop-b in let bs = c.args.bytes.now in
    omega (arith, l.invariant.put.end, length_pairs (take l.b-index bs), length-take-le l.b-index bs l.auto.b-index-end)

pub put_byte-next-requires-in-loop-b : goal.put_byte-next-requires-in-loop-b
put_byte-next-requires-in-loop-b c = let l = c.loop-b in let bs = c.args.bytes.now in
    omega (arith, l.invariant.put.end, length_pairs (take l.b-index bs), length-take-le l.b-index bs l.auto.b-index-end)

pub loop-b-preserved : goal.loop-b-preserved
loop-b-preserved c = let l = c.loop-b in let bs = c.args.bytes.now in
    let fits : c.args.at + 2 * length bs ≤ length c.args.out.now = c.requires in
    let h : l.b-index < length bs = c.loop-b-test.true in let n = length_pairs (take l.b-index bs) in
    let m = length-take-le l.b-index bs l.auto.b-index-end in let s = hex_pairs (take l.b-index bs) in
    let x = c.glyph.result in let y = c.glyph-in-loop-b.result in let e = length-append s (x ∷ []) in
    let first = then s (x ∷ []) (omega arith) l.invariant.put c.put_byte-next.ensures in
    let both = then (s ++ (x ∷ [])) (y ∷ []) (omega arith) first c.put_byte-next-in-loop-b.ensures in record {
      put = rw (pairs-more bs l.b-index h, ← c.glyph.ensures, ← c.glyph-in-loop-b.ensures) both;
      same_length = omega arith;
    }
