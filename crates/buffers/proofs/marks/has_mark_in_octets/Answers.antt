-- `buffers::marks::has_mark_in_octets` meets its contract.
use Rattle.std.proofs.Common.{◌∙◌, ◌*◌, ◌+◌, ◌-◌, ◌/◌, ◌≡◌, ◌<◌, ℕ, get_or, ap, arith, rules, take, drop, not, nat_eq}
use Rattle.std.specs.{List.fold, Int.Bits.bit_or}
use Rattle.limits.specs.Limits.{mark_octets}
use Rattle.buffers.proofs.MarkLaws.{octets-folded}
use Rattle.buffers.proofs.marks.has_mark_in_octets.Goals as goal

pub returns : goal.returns
returns c = let a = c.args in let marks = a.marks.now in let i = mark_octets * a.t + a.from / 8 in
    let octets : (k : ℕ) → get_or marks k 0 < 256 = λ k. omega (arith, c.type_inv.marks k) in
    let one : c.fold.result ≡ fold bit_or 0 (take (i + a.n - i) (drop i marks)) = search rules in
    let range : i + a.n - i ≡ a.n = omega arith in
    ap (λ (x : ℕ). not (nat_eq x 0)) (one ∙ ap (λ (k : ℕ). fold bit_or 0 (take k (drop i marks))) range)
    ∙ octets-folded a.t a.from a.n c.requires.1.1.0 (omega arith) (omega arith) marks (omega arith) octets
