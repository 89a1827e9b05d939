-- `buffers::marks::mark_bits` meets its contract. Assumes nothing.
use mathlib.Core.Path.{◌≡◌, sym, ap, ◌∙◌}
use Prim.Native.Nat.{ℕ, ◌+◌, ◌*◌, ◌/◌}
use native.Mathlib.Omega.{arith}
use lib.{Bits.bit_or, ListN.{get_or, set}}
use Rattle.limits.specs.Limits.{mark_octets}
use Rattle.buffers.specs.Marks.{with_marks}
use Rattle.buffers.proofs.MarkLaws.{with-marks-none, octet-marked}
use Rattle.buffers.proofs.marks.mark_bits.Goals as goal

pub returns-then-n-eq0 : goal.returns-then-n-eq0
returns-then-n-eq0 c = let a = c.args in let e : a.n ≡ 0 = omega arith in
    sym (ap (λ (k : ℕ). with_marks a.t a.from k a.marks.now) e ∙ with-marks-none a.t a.from a.marks.now)

pub returns : goal.returns
returns c = let a = c.args in let xs = a.marks.now in
    let i = mark_octets * a.t + a.from / 8 in
    ap (λ (m : ℕ). set xs i (bit_or (get_or xs i 0) m)) c.span.ensures
    ∙ sym (octet-marked a.t a.from xs a.n (omega arith) (omega arith) (omega arith) (omega arith))
