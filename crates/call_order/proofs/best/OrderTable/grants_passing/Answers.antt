-- `call_order::pass::grants_passing` meets its contract.
use mathlib.Core.{Bool.not, Path.{sym, ap, ap₂, ◌∙◌}}
use lib.ListN.{length, drop}
use native.Mathlib.Omega.{arith}
use Prim.Native.Nat.{ℕ, ◌+◌, ◌<◌}
use Rattle.admission.proofs.Laws.{failed, test-held}
use Rattle.call_order.specs.{OrderStatements.{pass_all}, OrderTable.{row}}
use Rattle.call_order.proofs.{PassLaws.{short, pass-granted, pass-skipped}}
use Rattle.call_order.proofs.best.OrderTable.grants_passing.Goals as goal
use Rattle.call_order.proofs.best.OrderTable.grants_passing.Goals.{else-not-contains, then-not-contains}

pub loop-member-preserved : goal.loop-member-preserved
loop-member-preserved c = let l = c.loop-member in let table = row c.args.self.now.table in let o = c.args.order.numbers.now in
    let t = c.from-t.result in let left : l.member-index < length o = omega arith in elim c.if-not-contains.branch [
      | then-not-contains w ↦ (
        omega (arith, l.invariant.0, w.grants-is),
        ap₂ (λ (s g : ℕ). pass_all table (drop (l.member-index + 1) o) (short s g)) w.skipped-is w.grants-is
            ∙ sym (pass-granted table o l.member-index t l.skipped l.grants left c.from-t.ensures
            (failed c.contains.ensures (ap not w.if-not-contains.true))) ∙ l.invariant.1,
      )
      | else-not-contains w ↦ (
        omega (arith, l.invariant.0, w.grants-is),
        ap₂ (λ (s g : ℕ). pass_all table (drop (l.member-index + 1) o) (short s g)) w.skipped-is w.grants-is
            ∙ sym (pass-skipped table o l.member-index t l.skipped l.grants left c.from-t.ensures
            (test-held c.contains.ensures (ap not w.if-not-contains.false))) ∙ l.invariant.1,
      )
    ]
