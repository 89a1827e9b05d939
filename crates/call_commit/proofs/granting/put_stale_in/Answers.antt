-- Those of the octet passed are stale.
use mathlib.Core.{List.List, Path.{◌≡◌, refl, sym, ap, ◌∙◌}}
use Prim.Native.Nat.{◌<◌}
use native.Mathlib.Omega.{arith}
use Rattle.limits.specs.Limits.{transaction_count}
use Rattle.state.specs.{declared.Transaction.Transaction, StoreMeaning.with_transactions, Layout.store_of}
use Rattle.state.proofs.Filled.{filled, filled_none, filled-all}
use Rattle.refinement.proofs.Shapes.{shaped}
use Rattle.call_commit.specs.Grant.{stale_in}
use Rattle.call_commit.proofs.CommitRules.{stale-put, stale-left}
use Rattle.call_commit.proofs.granting.put_stale_in.Goals as goal
use Rattle.call_commit.proofs.granting.put_stale_in.Goals.{else-contains, then-contains}

pub loop-u-init : goal.loop-u-init
loop-u-init c = let s = store_of c.args.state.now in record {
  store = ap (λ (xs : List Transaction). with_transactions xs s)
      (sym (filled_none (stale_in c.args.octet s) s.transactions));
  journal = refl;
  long = c.told-state;
}

pub loop-u-preserved : goal.loop-u-preserved
loop-u-preserved c = let l = c.loop-u in
    let few : l.u < transaction_count = omega arith in let e = sym c.contains.ensures in
    elim c.if-contains.branch [
      | then-contains w ↦ stale-put c.args.octet _ _ l.u few l.invariant (e ∙ w.if-contains.true) _
          (w.state-is ∙ w.put_stale.ensures)
      | else-contains w ↦ stale-left c.args.octet _ _ l.u few l.invariant
          (e ∙ w.if-contains.false) _ w.state-is
    ]

pub returns : goal.returns
returns c = let l = c.loop-u in let state = c.args.state.now in let s = store_of state in
    let f = stale_in c.args.octet s in let e : l.u ≡ 8 = omega arith in record {
      store = l.invariant.store ∙ ap (λ (xs : List Transaction). with_transactions xs s) (ap (filled f s.transactions) e
          ∙ filled-all f s.transactions 8 (omega (arith, (shaped state).transactions)));
      journal = l.invariant.journal;
      long = l.invariant.long;
    }
