-- `flat_scripts::lines_of` meets its contract.
use mathlib.Core.{Path.{◌≡◌}}
use lib.ListN.{length}
use Prim.Native.Nat.{◌-◌, ◌≤◌}
use Rattle.state.proofs.Filled.{filled}
use Rattle.c_scripts.specs.FlatScripts.{line_from}
use Rattle.c_scripts.proofs.flat_scripts.lines_of.Given as goal

abbrev pub invariant-loop-j : goal.invariant-loop-j
invariant-loop-j l = (length l.initial.all ≡ 128) × (l.all ≡ filled (line_from l.flat) l.initial.all l.j)
