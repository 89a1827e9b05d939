-- The front of the bytes.
use mathlib.Core.Path.{◌≡◌, sym, ap, ◌∙◌}
use native.Mathlib.Omega.{arith}
use Prim.Native.Nat.{ℕ, min}
use lib.ListN.{length, take}
use Rattle.text_numerals.proofs.PutLaws.{take_within}
use Rattle.text_log.proofs.put_front.Goals as goal

pub returns : goal.returns
returns c = let bs = c.args.bytes.now in
    let n = c.min-end.result in
    let e : n ≡ min 4097 (length bs) = omega (arith, c.min-end.ensures) in
    rw (sym (ap (λ (k : ℕ). take k bs) e ∙ take_within 4097 bs)) c.put_write.ensures
