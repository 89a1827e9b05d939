-- `state::readers::tables_at_most` meets its contract.
use mathlib.Core.Path.{◌≡◌, ◌∙◌}
use native.Mathlib.Omega.{arith}
use Rattle.state.proofs.ReaderLaws.{tables-decide}
use Rattle.state.proofs.readers.tables_at_most.Goals as goal

pub returns : goal.returns
returns c = let e : c.loop-k.k ≡ 8 = omega arith in (rw e at c.loop-k.invariant) ∙ tables-decide _ _ _ _ _
