-- The letter, the list's front, and the line's end.
use mathlib.Core.{List.{[], ◌∷◌}, Path.{◌≡◌, sym, ap, ◌∙◌}}
use Prim.Native.Nat.{ℕ, min}
use native.Mathlib.Omega.{arith}
use lib.ListN.{length, take, length-take}
use Rattle.text_numerals.{specs.Decimal.joined_texts, proofs.PutLaws.{then, length-joined-texts, take_within}}
use Rattle.text_log.specs.LogLines.{fresh_line}
use Rattle.text_log.proofs.put_fresh.Goals as goal

pub put_byte-requires : goal.put_byte-requires
put_byte-requires c = let t = take c.min-end.result c.args.files.now in
    omega (
      arith,
      length-joined-texts t,
      length-take c.min-end.result c.args.files.now,
      c.min-end.ensures,
      c.put_byte-next.ensures.end,
      c.put_joined-next.ensures.end,
      c.requires,
    )

pub returns : goal.returns
unfolding fresh_line
returns c = let start = c in let fs = start.args.files.now in
    let n = c.min-end.result in
    let e : n ≡ min 17 (length fs) =
    omega (arith, c.min-end.ensures) in
    let l = length-joined-texts (take n fs) in let q = length-take n fs in let fits = start.requires in
    rw (sym (ap (λ (k : ℕ). take k fs) e ∙ take_within 17 fs))
    (then (70 ∷ joined_texts (take n fs)) (10 ∷ []) (omega arith) (then (70 ∷ []) (joined_texts (take n fs)) (omega arith)
    c.put_byte-next.ensures
    c.put_joined-next.ensures) c.put_byte.ensures)
