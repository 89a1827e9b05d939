-- `settle_call::chosen_by_read` meets its contract. The loop's invariant: those below `e` that wait are chosen.
use mathlib.Core.{Bool.{Bool, true, false}, List.List, Path.{◌≡◌, sym, ap, ap₂, ◌∙◌}}
use lib.{Dec.eqb, ListN.{set, replicate}}
use native.Mathlib.Omega.{arith}
use Prim.Native.Nat.{ℕ}
use Rattle.buffers.specs.Parts.{tabulate}
use Rattle.standings.specs.Table.{read_settles}
use Rattle.state.specs.{StoreMeaning.standing_at, Layout.{transaction_of, store_of}}
use Rattle.state.proofs.Filled.{filled, filled_none, filled-all, filled-set}
use Rattle.read_settle.proofs.ChoiceLaws.{waiting_of, chosen-with-own, chosen-without-own}
use Rattle.read_settle.proofs.settle_call.chosen_by_read.Goals.{After-read_settles_at-2}
use Rattle.read_settle.proofs.settle_call.chosen_by_read.Goals as goal

pub loop-e-init : goal.loop-e-init
loop-e-init c = sym (filled_none _ (replicate 16 false))

pub loop-e-preserved : goal.loop-e-preserved
loop-e-preserved c = let a = c.args in let e = c.loop-e.e in
    ap (λ (l : List Bool). set l e c.read_settles_at.result) c.loop-e.invariant
    ∙ filled-set _ (replicate 16 false) e c.read_settles_at.result (omega arith) (c.read_settles_at.ensures
    ∙ ap₂ (λ (f g : ℕ). read_settles (eqb f g) false (standing_at (transaction_of a.state.now a.t) e))
    c.file_at.ensures c.file_at-f.ensures)

-- After the loop, those that wait are chosen.
waiting : (c : After-read_settles_at-2) → c.loop-e.chosen
    ≡ tabulate (waiting_of (store_of c.args.state.now).filenumbers (transaction_of c.args.state.now c.args.t) c.args.d) 16
waiting c = let e : c.loop-e.e ≡ 16 = omega arith in
    c.loop-e.invariant ∙ ap (filled _ (replicate 16 false)) e ∙ filled-all _ (replicate 16 false) 16 (omega arith)

pub returns-then-read_settles_at : goal.returns-then-read_settles_at
returns-then-read_settles_at c =
    ap (λ (l : List Bool). set l c.args.d true) (waiting (goal.at.returns-then-read_settles_at c).After-read_settles_at-2)
    ∙ chosen-with-own _ _ c.args.d c.requires.1 (sym c.read_settles_at-2.ensures ∙ c.if-read_settles_at.true)

pub returns-else-read_settles_at : goal.returns-else-read_settles_at
returns-else-read_settles_at c = waiting (goal.at.returns-else-read_settles_at c).After-read_settles_at-2
    ∙ chosen-without-own _ _ _ (sym c.read_settles_at-2.ensures ∙ c.if-read_settles_at.false)
