-- `read_settle::settle_for_read` meets its contract.
use mathlib.Core.{Bool.not, Path.{sym, ap, ◌∙◌}}
use borrow.Author.Tests.{not-true, not-false}
use Rattle.state.specs.Layout.{transaction_of, store_of}
use Rattle.read_settle.proofs.{ChoiceLaws.{read-chooses-none, read-chooses-own}, InRecord.none-settled}
use Rattle.read_settle.proofs.settle_for_read.Goals as goal

pub returns-then-not-read_settles_at : goal.returns-then-not-read_settles_at
returns-then-not-read_settles_at c = none-settled _ _ _ c.requires.ready (read-chooses-none _ _ _
    (sym c.read_settles_at.ensures ∙ not-true _ (ap not c.if-not-read_settles_at.true)) (c.any_waits.ensures c.if-any_waits.false))

pub returns : goal.returns
returns c = let a = c.args in
    rw (read-chooses-own (store_of a.state.now).filenumbers (transaction_of a.state.now a.t) a.d
    (sym c.read_settles_at.ensures ∙ not-false _ (ap not c.if-not-read_settles_at.false))
    (c.any_waits.ensures c.if-any_waits.false)) at c.settle_one.ensures
