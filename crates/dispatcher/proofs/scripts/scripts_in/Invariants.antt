-- `scripts::scripts_in` meets its contract. The loop's invariant: the scripts below k are in range.
use mathlib.Core.{Bool.true, Path.{◌≡◌}}
use lib.ListN.{get_or}
use Prim.Native.Nat.{◌+◌, ◌-◌, ◌*◌, ◌≤◌}
use Rattle.admission.{specs.FirstRefusal.below}
use Rattle.spec_dispatch.specs.Rounds.{part_in, script_in}
use Rattle.dispatcher.specs.Types.{scripts_of}
use Rattle.dispatcher.proofs.scripts.scripts_in.Given as goal

abbrev pub invariant-loop-k : goal.invariant-loop-k
invariant-loop-k l = below (λ j. script_in l.n ((scripts_of l.scripts).script j)) l.k ≡ true
