-- `scripts::script_in` meets its contract. The loop's invariant: the calls below i are in range.
use mathlib.Core.{Bool.true, Path.{◌≡◌}}
use lib.ListN.{get_or}
use Prim.Native.Nat.{◌+◌, ◌-◌, ◌*◌, ◌≤◌}
use Rattle.admission.{specs.FirstRefusal.below}
use Rattle.spec_dispatch.specs.Rounds.{part_in, script_in}
use Rattle.dispatcher.specs.Types.{scripts_of}
use Rattle.dispatcher.proofs.scripts.script_in.Given as goal

abbrev pub invariant-loop-i : goal.invariant-loop-i
invariant-loop-i l = below (λ j. part_in l.n (((scripts_of l.scripts).script l.k).call j)) l.i ≡ true
