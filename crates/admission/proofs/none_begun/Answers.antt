-- `admission::none_begun` meets its contract.
use mathlib.Core.Path.{◌≡◌, ◌∙◌}
use native.Mathlib.Omega.{arith}
use Rattle.admission.proofs.Tests.{none-decides}
use Rattle.admission.proofs.none_begun.Goals as goal

pub returns : goal.returns
returns c = let e : c.loop-t.t ≡ 8 = omega arith in rw e at c.loop-t.invariant ∙ none-decides c.args.state.now
