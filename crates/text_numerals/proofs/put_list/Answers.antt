-- One number more is put.
use Rattle.std.proofs.Common.{◌<◌, ◌∷◌, arith, length, take}
use Rattle.std.proofs.Math.Seq.{length-take-le}
use Rattle.text_numerals.specs.Decimal.{number_text, spaced_texts}
use Rattle.text_numerals.proofs.PutLaws.{then, nothing, length-number, length-texts, texts-more}
use Rattle.text_numerals.proofs.put_list.Goals as goal

pub loop-n-init : goal.loop-n-init
unfolding spaced_texts
loop-n-init c = record { put = nothing _ _; same_length = omega arith }

pub put_spaced-next-requires : goal.put_spaced-next-requires
put_spaced-next-requires c = let l = c.loop-n in let ns = c.args.list.now in
    omega (arith, l.invariant.put.end, length-texts (take l.n-index ns), length-take-le l.n-index ns l.auto.n-index-end)

pub loop-n-preserved : goal.loop-n-preserved
loop-n-preserved c = let l = c.loop-n in let ns = c.args.list.now in let h : l.n-index < length ns = c.loop-n-test.true in
    let n = length-texts (take l.n-index ns) in let m = length-take-le l.n-index ns l.auto.n-index-end in
    let x = c.from.result in let e = length-number x in record {
      put = rw (texts-more ns l.n-index h, ← c.from.ensures)
          (then (spaced_texts (take l.n-index ns)) (32 ∷ number_text x) (omega arith) l.invariant.put c.put_spaced-next.ensures);
      same_length = omega arith;
    }
