-- `call_order::follow::offsets_of` meets its contract.
use mathlib.Core.{List.List, Path.{◌≡◌, refl, sym, ap, ◌∙◌}}
use lib.ListN.{set, replicate}
use Prim.Native.Nat.{ℕ}
use native.Mathlib.Omega.{arith}
use Rattle.buffers.specs.Parts.{tabulate}
use Rattle.state.{specs.Layout.store_of, proofs.Filled.{filled, filled_none, filled-set, filled-all}}
use Rattle.spec.proofs.Refinement.IndexedLists.{tabulate-get_d}
use Rattle.refinement.proofs.Shapes.{shaped}
use Rattle.call_order.proofs.follow.offsets_of.Invariants.{committed}
use Rattle.call_order.proofs.follow.offsets_of.Goals as goal

pub loop-d-init : goal.loop-d-init
loop-d-init c = (sym (filled_none (committed c.args.state.now) _), refl)

pub loop-d-preserved : goal.loop-d-preserved
loop-d-preserved c = let l = c.loop-d in let state = c.args.state.now in (
  ap (λ (xs : List ℕ). set xs l.d c.offset_at.result) l.invariant.0
      ∙ filled-set (committed state) _ l.d c.offset_at.result (omega arith) c.offset_at.ensures,
  l.invariant.1,
)

pub returns : goal.returns
returns c = let l = c.loop-d in let state = c.args.state.now in let e : l.d ≡ 16 = omega arith in
    l.invariant.0 ∙ ap (filled (committed state) (replicate 16 0)) e ∙ filled-all (committed state) (replicate 16 0) 16
    (omega arith) ∙ ap (tabulate (committed state)) (sym (shaped state).offsets) ∙ tabulate-get_d (store_of state).offsets 0
