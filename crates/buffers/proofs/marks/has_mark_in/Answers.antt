-- `buffers::marks::has_mark_in` meets its contract. Assumes nothing.
use mathlib.Core.Path.{ap, ap₂, ◌∙◌}
use Prim.Native.Nat.{ℕ, ◌+◌, ◌*◌}
use native.Mathlib.Omega.{arith}
use mathlib.Core.Bool.{not}
use borrow.Author.Tests.{ne_eqb}
use Rattle.buffers.specs.Marks.{has_mark_in}
use Rattle.buffers.proofs.MarkLaws.{ends-decide, whole-decides}
use Rattle.buffers.proofs.marks.has_mark_in.Goals as goal

pub returns-then-ends-ne0 : goal.returns-then-ends-ne0
returns-then-ends-ne0 c = let a = c.args in ap not (ne_eqb _ 0 c.if-ends-ne0.true)
    ∙ ends-decide a.marks.now a.t a.from a.n (omega arith) (omega arith) _ _ c.requires.masks.0
    c.requires.masks.1 c.if-ends-ne0.true

pub returns-else-ends-ne0 : goal.returns-else-ends-ne0
returns-else-ends-ne0 c = let a = c.args in let xs = a.marks.now in
    whole-decides xs a.t a.from a.n (omega arith) (omega arith) _ _ c.requires.masks.0 c.requires.masks.1
    c.if-ends-ne0.false _ (c.has_mark_in_octets.ensures ∙ ap₂ (λ (h m : ℕ). has_mark_in xs a.t (a.from + h) (8 * m))
    c.min-head.ensures c.between.ensures)
