-- The letter with minute and budget, the list's front, and the line's end.
use mathlib.Core.{List.{[], ◌∷◌, ◌++◌}, Path.{◌≡◌, sym, ap, ◌∙◌}}
use Prim.Native.Nat.{ℕ, min}
use native.Mathlib.Omega.{arith}
use lib.ListN.{length, take, length-take, length-append}
use Rattle.text_numerals.{specs.Decimal.spaced_texts, proofs.PutLaws.{then, length-texts, take_within}}
use Rattle.text_log.specs.LogLines.{letter_and_numbers, most_ordered}
use Rattle.text_log.proofs.Texts.{order-text, length-joined}
use Rattle.text_log.proofs.put_order.Goals as goal

pub put_list-next-requires : goal.put_list-next-requires
put_list-next-requires c = omega (
  arith,
  length-take c.min-end.result
      c.args.list.now,
  c.min-end.ensures,
  length-joined c.args.minute
      (c.args.budget ∷ []),
  c.put_numbers-next.ensures.end,
  c.requires,
)

pub put_byte-requires : goal.put_byte-requires
put_byte-requires c = let t = take c.min-end.result c.args.list.now in
    omega (
      arith,
      length-texts t,
      length-take c.min-end.result c.args.list.now,
      c.min-end.ensures,
      length-joined c.args.minute (c.args.budget ∷ []),
      c.put_numbers-next.ensures.end,
      c.put_list-next.ensures.end,
      c.requires,
    )

pub returns : goal.returns
returns c = let start = c in let ts = start.args.list.now in
    let n = c.min-end.result in
    let e : n ≡ min most_ordered (length ts) =
    omega (arith, c.min-end.ensures) in
    let l = length-texts (take n ts) in let q = length-take n ts in
    let two = letter_and_numbers 79 (start.args.minute ∷ start.args.budget ∷ []) in
    let k = length-joined start.args.minute (start.args.budget ∷ []) in
    let a = length-append two (spaced_texts (take n ts)) in let fits = start.requires in rw (
      sym (ap (λ (k : ℕ). take k ts) e ∙ take_within most_ordered ts),
      order-text start.args.minute start.args.budget (take n ts),
    ) (then (two ++ spaced_texts (take n ts)) (10 ∷ []) (omega arith) (then two (spaced_texts (take n ts)) (omega arith)
    c.put_numbers-next.ensures
    c.put_list-next.ensures) c.put_byte.ensures)
