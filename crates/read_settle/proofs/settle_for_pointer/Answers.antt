-- `read_settle::settle_for_pointer` meets its contract.
use mathlib.Core.{Path.{sym, ap, ◌∙◌}}
use Rattle.standings.specs.Table.{pointer_settles}
use Rattle.state.specs.Layout.{transaction_of}
use Rattle.read_settle.proofs.{ChoiceLaws.{pointer-chooses-none, pointer-chooses-own}, InRecord.none-settled}
use Rattle.read_settle.proofs.settle_for_pointer.Goals as goal

pub returns-then-not-pointer_settles : goal.returns-then-not-pointer_settles
returns-then-not-pointer_settles c = none-settled _ _ _ c.requires.ready (pointer-chooses-none _ _
    (ap pointer_settles (sym c.standing_at-standing.ensures) ∙ sym c.pointer_settles.ensures ∙ c.if-not-pointer_settles.true))

pub returns : goal.returns
returns c = let a = c.args in
    rw (pointer-chooses-own (transaction_of a.state.now a.t) a.d (ap pointer_settles (sym c.standing_at-standing.ensures)
    ∙ sym c.pointer_settles.ensures ∙ c.if-not-pointer_settles.false)) at c.settle_one.ensures
