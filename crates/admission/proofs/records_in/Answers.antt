-- `admission::records_in` meets its contract.
use Rattle.admission.specs.{Admission.{journal_passes}}
use Rattle.state.specs.{Layout.{transaction_of, journal_of}, Journal.write_record_at}
use mathlib.Core.{Path.{ap, ◌∙◌, ◌≡◌}}
use lib.Dec.{eqb}
use Rattle.admission.proofs.Laws.{failed, test-held, below-zero, below_more, below_fails}
use Rattle.admission.proofs.Tests.{record-decides, lengths_none, lengths-more, and-fails, and_last}
use native.Mathlib.Omega.{arith}
use mathlib.Core.Bool.{not}
use Rattle.admission.proofs.records_in.Goals as goal

pub loop-k-init : goal.loop-k-init
loop-k-init c = (below-zero _, lengths_none _ _, omega arith)

pub returns-then-not-ends_by : goal.returns-then-not-ends_by
unfolding journal_passes
returns-then-not-ends_by c = let a = c.args in let k = c.loop-k.k in
    let x = transaction_of a.state.now a.t in let w = write_record_at (journal_of a.state.now) a.t k in
    and-fails _ _ (below_fails _ k _ (omega arith)
    (failed (c.ends_by.ensures ∙ record-decides x w c.requires.2) (ap not c.if-not-ends_by.true)))

pub loop-k-preserved : goal.loop-k-preserved
loop-k-preserved c = let a = c.args in let x = transaction_of a.state.now a.t in
    let w = write_record_at (journal_of a.state.now) a.t c.loop-k.k in (
      below_more _ _ c.loop-k.invariant.0
          (test-held (c.ends_by.ensures ∙ record-decides x w c.requires.2) (ap not c.if-not-ends_by.false)),
      lengths-more _ _ _ _ _ c.loop-k.invariant.1 (c.from-sum.ensures ∙ c.record_length.ensures),
      omega arith,
    )

pub returns : goal.returns
unfolding journal_passes
returns c = let i = c.loop-k in let e : i.k ≡ c.args.records = omega arith in
    and_last _ _ _ (rw e at i.invariant.0) (ap (λ n. eqb n c.args.bytes) (rw e at i.invariant.1))
