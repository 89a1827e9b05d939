-- `call_order::follow::grants_following` meets its contract.
use mathlib.Core.{Path.{◌≡◌, sym, ap, ◌∙◌}}
use native.Mathlib.Omega.{arith}
use lib.ListN.{drop}
use Prim.Native.Nat.{◌+◌}
use Rattle.buffers.specs.Marks.{contains}
use Rattle.call_order.specs.OrderStatements.{Pass, follow_one}
use Rattle.call_order.specs.OrderTable.{row, descriptors_in, pass_of}
use Rattle.call_order.proofs.{PassLaws.{few-grants, follow-rest, one-octet}}
use Rattle.call_order.proofs.best.OrderTable.grants_following.Invariants.{follow}
use Rattle.call_order.proofs.best.OrderTable.grants_following.Goals as goal

pub loop-member-preserved : goal.loop-member-preserved
loop-member-preserved c = let l = c.loop-member in let a = c.args in let closed = contains a.self.now.closed in
    let txn = descriptors_in a.state.now in let t = c.from-t.result in let table = row a.self.now.table in
    let e : pass_of c.followed-p.result ≡ follow_one table closed txn t (pass_of l.p) = c.followed-p.ensures
    ∙ one-octet table closed txn t (pass_of l.p) in (
      omega (arith, l.invariant.0, few-grants table closed txn t (pass_of l.p), ap (λ (p : Pass). p.grants) e),
      ap (follow a.state.now a.self.now.closed a.self.now.table (drop (l.member-index + 1) a.order.numbers.now)) e
          ∙ sym (follow-rest table closed txn a.order.numbers.now l.member-index t (pass_of l.p) (omega arith) c.from-t.ensures)
          ∙ l.invariant.1,
    )
