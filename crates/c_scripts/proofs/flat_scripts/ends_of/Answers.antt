-- `flat_scripts::ends_of` meets its contract.
use mathlib.Core.{List.List, Path.{refl, sym, ap, ◌∙◌}}
use lib.ListN.{set}
use Prim.Native.Nat.{ℕ}
use Rattle.state.proofs.Filled.{filled_none, filled-set}
use native.Mathlib.Omega.{arith}
use Rattle.c_scripts.proofs.flat_scripts.ends_of.Goals as goal

pub loop-k-init : goal.loop-k-init
loop-k-init c = (refl, sym (filled_none _ _))

pub loop-k-preserved : goal.loop-k-preserved
loop-k-preserved c = let l = c.loop-k in (
  l.invariant.0,
  ap (λ (xs : List ℕ). set xs l.k c.end_of.result) l.invariant.1
      ∙ filled-set _ _ l.k c.end_of.result (omega arith) c.end_of.ensures,
)
