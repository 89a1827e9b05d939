-- `buffers::marks::markers` meets its contract.
use Rattle.std.proofs.Common.{Bool, ◌&&◌, ◌≡◌, ℕ, ◌∙◌, sym, ap, rules, arith}
use mathlib.Core.Bool.{and-false}
use Rattle.buffers.specs.{Bits.bits_of, Marks.{has_mark_in, contains}}
use Rattle.buffers.proofs.{MarkLaws.{has-in-none, contains-none}, SetLaws.contains-bits}
use Rattle.buffers.proofs.marks.markers.Goals as goal

pub returns-then-n-eq0 : goal.returns-then-n-eq0
returns-then-n-eq0 c = let a = c.args in let e : a.n ≡ 0 = omega arith in
    λ u small. contains-none u ∙ sym (ap (λ (k : ℕ). contains a.watched u && has_mark_in a.marks.now u a.from k) e
    ∙ ap (λ (b : Bool). contains a.watched u && b) (has-in-none a.marks.now u a.from)
    ∙ and-false (contains a.watched u))

pub returns : goal.returns
returns c = let a = c.args in
    let p : ℕ → Bool = λ u. contains a.watched u && has_mark_in a.marks.now u a.from a.n in
    let e : c.those.result ≡ bits_of p 8 = search rules in
    λ u small. ap (λ (x : ℕ). contains x u) e ∙ contains-bits p 8 u small
