-- `buffers::marks::span` meets its contract. Assumes nothing.
use mathlib.Core.Path.{ap₂}
use Prim.Native.Nat.{ℕ, ◌+◌, ◌-◌, ◌^◌, ◌≤◌}
use native.Mathlib.Omega.{arith}
use lib.Pow.{pow_mono}
use Rattle.buffers.specs.Bits.{span}
use Rattle.buffers.proofs.BitLaws.{shift_one}
use Rattle.buffers.proofs.marks.span.Goals as goal

pub overflow_sub-result : goal.overflow_sub-result
overflow_sub-result c = let a = c.args in let h : 2 ^ a.low ≤ 2 ^ (a.low + a.n) = pow_mono (omega arith) in
    omega (arith, shift_one 16 a.low (omega arith), shift_one 16 (a.low + a.n) (omega arith))

pub returns : goal.returns
unfolding span
returns c = let a = c.args in
    ap₂ (λ (x y : ℕ). x - y) (shift_one 16 (a.low + a.n) (omega arith)) (shift_one 16 a.low (omega arith))
