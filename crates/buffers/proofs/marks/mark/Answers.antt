-- `buffers::marks::mark` meets its contract. Assumes nothing.
use mathlib.Core.Path.{ap, ◌∙◌}
use Prim.Native.Nat.{◌+◌, ◌-◌, ◌*◌, ◌/◌}
use native.Mathlib.Omega.{arith}
use Rattle.buffers.specs.Marks.{with_marks}
use Rattle.buffers.proofs.MarkLaws.{with-marks-parts}
use Rattle.buffers.proofs.marks.mark.Goals as goal

pub returns : goal.returns
returns c = let a = c.args in
    let head = c.min-head.result in let whole = (a.n - head) / 8 in let done = head + whole * 8 in
    c.mark_bits-2.ensures ∙ ap (with_marks a.t (a.from + done) (a.n - done))
    (c.mark_octets.ensures ∙ ap (with_marks a.t (a.from + head)
    (8 * whole)) c.mark_bits.ensures)
    ∙ with-marks-parts a.t a.from a.n head whole a.marks.now (omega arith)
