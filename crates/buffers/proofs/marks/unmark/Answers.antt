-- `buffers::marks::unmark` meets its contract.
use Rattle.std.proofs.Common.{◌∙◌, ◌*◌, arith}
use Rattle.limits.specs.Limits.{mark_octets}
use Rattle.buffers.specs.Marks.{without_marks}
use Rattle.buffers.proofs.{BitLaws.cleared-fill, PartLaws.filled}
use Rattle.buffers.proofs.marks.unmark.Goals as goal

pub returns : goal.returns
unfolding without_marks
returns c = let marks = c.args.marks.now in let from = mark_octets * c.args.t in
    filled marks from mark_octets 0 _ (omega arith) (c.fill.ensures.after (λ y e. e))
    ∙ cleared-fill from mark_octets marks (omega arith)
