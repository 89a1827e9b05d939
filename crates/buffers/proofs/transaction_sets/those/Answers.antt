-- `buffers::transaction_sets::those` meets its contract.
use Rattle.std.proofs.Common.{◌≡◌, refl, sym, ◌∙◌, ap, arith}
use Rattle.buffers.specs.Bits.{bits_of}
use Rattle.buffers.proofs.SetLaws.{gathered, passed-by}
use Rattle.buffers.proofs.transaction_sets.those.Goals as goal
use Rattle.buffers.proofs.transaction_sets.those.Goals.{then-test, else-test}

pub loop-u-init : goal.loop-u-init
unfolding bits_of
loop-u-init g c = λ p h. refl

pub loop-u-preserved : goal.loop-u-preserved
loop-u-preserved g c = λ p h. let l = c.loop-u in let so_far = l.invariant p h in
    let this = sym (h l.u c.test.result c.loop-u-test.true c.test.ensures) in elim c.if-test.branch [
      | then-test w ↦ w.found-is ∙ w.with-found.ensures ∙ gathered p l.found l.u so_far (this ∙ w.if-test.true)
      | else-test w ↦ w.found-is ∙ passed-by p l.found l.u so_far (this ∙ w.if-test.false)
    ]

pub returns : goal.returns
returns g c = λ p h. let e : c.loop-u.u ≡ 8 = omega arith in c.loop-u.invariant p h ∙ ap (bits_of p) e
