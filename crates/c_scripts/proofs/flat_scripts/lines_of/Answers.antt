-- `flat_scripts::lines_of` meets its contract.
use mathlib.Core.{List.List, Path.{refl, sym, ap, ◌∙◌}}
use lib.ListN.{set}
use Rattle.state.proofs.Filled.{filled_none, filled-set}
use Rattle.dispatcher.specs.declared.scripts.ScriptLine.{ScriptLine}
use native.Mathlib.Omega.{arith}
use Rattle.c_scripts.proofs.flat_scripts.lines_of.Goals as goal

pub loop-j-init : goal.loop-j-init
loop-j-init c = (refl, sym (filled_none _ _))

pub loop-j-preserved : goal.loop-j-preserved
loop-j-preserved c = let l = c.loop-j in (
  l.invariant.0,
  ap (λ (xs : List ScriptLine). set xs l.j c.line_at-line.result) l.invariant.1
      ∙ filled-set _ _ l.j c.line_at-line.result (omega arith) c.line_at-line.ensures,
)
