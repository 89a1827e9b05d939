-- `buffers::marks::mark_octets` meets its contract.
use Rattle.std.proofs.Common.{◌∙◌, ◌*◌, ◌+◌, ◌/◌, ◌<◌, ℕ, get_or, arith, rules}
use Rattle.limits.specs.Limits.{mark_octets}
use Rattle.buffers.proofs.{MarkLaws.octets-filled, PartLaws.filled}
use Rattle.buffers.proofs.marks.mark_octets.Goals as goal

pub returns : goal.returns
returns c = let a = c.args in let marks = a.marks.now in
    let octets : (k : ℕ) → get_or marks k 0 < 256 = λ k. search rules in
    filled marks (mark_octets * a.t + a.from / 8) a.n 255 _ (omega arith) (c.fill.ensures.after (λ y e. e))
    ∙ octets-filled a.t a.from a.n c.requires.1.1.0 (omega arith) (omega arith) marks (omega arith) octets
