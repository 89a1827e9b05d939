-- `read_settle::settle_chosen` meets its contract.
use borrow.Author.Tests.{not-true}
use mathlib.Core.{Bool.not, Path.ap}
use Rattle.std.proofs.lemmas.Result.{err_from_is_err_and}
use Rattle.read_settle.proofs.InRecord.{none-settled, past-settled, settled-fits, all_settled}
use Rattle.read_settle.proofs.settle_chosen.Goals as goal

pub returns-then-not-any : goal.returns-then-not-any
returns-then-not-any c = none-settled _ _ _ c.requires (c.any.ensures (not-true _ (ap not c.if-not-any.true)))

pub put_chosen-requires : goal.put_chosen-requires
put_chosen-requires c = (
  c.requires.small,
  λ e h q. settled-fits _ _ _ c.requires _ (rw c.transaction_at-x.ensures at c.settle.ensures) _ c.in_ok-y.was e h,
)

pub returns-in_err-y : goal.returns-in_err-y
returns-in_err-y c = let p = err_from_is_err_and c.from_residual.result c.from_residual.ensures.1 in
    rw (p.1, p.2) (past-settled _ _ _ c.requires _ (rw c.transaction_at-x.ensures at c.settle.ensures) _ c.in_err-y.was)

pub returns : goal.returns
returns c = let own = c.transaction_at-x.ensures in
    all_settled _ _ _ c.requires _ (rw own at c.settle.ensures) _ c.in_ok-y.was _ _
    (rw own at c.place_records.ensures) c.put_chosen.ensures
