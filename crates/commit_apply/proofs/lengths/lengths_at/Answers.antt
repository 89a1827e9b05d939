-- `commit_apply::lengths::lengths_at` meets its contract. The loop's invariant: the lengths read so far, and zeros after them.
use mathlib.Core.{List.List, Path.{◌≡◌, refl, sym, ap, ◌∙◌}}
use lib.ListN.{set, replicate}
use Prim.Native.Nat.{ℕ}
use native.Mathlib.Omega.{arith}
use Rattle.buffers.specs.Parts.{tabulate}
use Rattle.state.{specs.Layout.store_of, proofs.Filled.{filled, filled_none, filled-set, filled-all}}
use Rattle.spec.proofs.Refinement.IndexedLists.{tabulate-get_d}
use Rattle.refinement.proofs.Shapes.{shaped}
use Rattle.commit_apply.proofs.lengths.lengths_at.Invariants.{committed}
use Rattle.commit_apply.proofs.lengths.lengths_at.Goals as goal

pub loop-f-init : goal.loop-f-init
loop-f-init c = (sym (filled_none (committed c.args.state.now) _), refl)

pub loop-f-preserved : goal.loop-f-preserved
loop-f-preserved c = let l = c.loop-f in let state = c.args.state.now in (
  ap (λ (xs : List ℕ). set xs l.f c.length_at.result) l.invariant.0
      ∙ filled-set (committed state) _ l.f c.length_at.result (omega arith) c.length_at.ensures,
  l.invariant.1,
)

pub returns : goal.returns
returns c = let l = c.loop-f in let state = c.args.state.now in let e : l.f ≡ 8 = omega arith in
    l.invariant.0 ∙ ap (filled (committed state) (replicate 8 0)) e ∙ filled-all (committed state) (replicate 8 0) 8
    (omega arith) ∙ ap (tabulate (committed state)) (sym (shaped state).lengths) ∙ tabulate-get_d (store_of state).lengths 0
