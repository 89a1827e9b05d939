-- `flat_scripts::line_at` meets its contract.
use mathlib.Core.Path.{ap}
use Rattle.dispatcher.specs.declared.scripts.{ScriptCall.ScriptCall, ScriptLine.ScriptLine}
use Rattle.c_scripts.specs.FlatScripts.{line_from}
use Rattle.c_scripts.proofs.flat_scripts.line_at.Goals as goal

abbrev line : ScriptCall → ScriptLine
line x = record { call = x }

pub returns : goal.returns
returns c = unfold line_from in ap (λ (x : ScriptCall). line x) c.call_of.ensures
