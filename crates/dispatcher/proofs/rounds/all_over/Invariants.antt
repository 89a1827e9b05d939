-- `rounds::all_over` meets its contract. The loop's invariant: those below k are over.
use mathlib.Core.{Bool.{true, not}, Path.{◌≡◌}}
use Prim.Native.Nat.{◌-◌, ◌≤◌}
use Rattle.admission.{specs.FirstRefusal.below}
use Rattle.spec_dispatch.specs.Rounds.{goes_on}
use Rattle.dispatcher.specs.Types.{end_at}
use Rattle.dispatcher.proofs.rounds.all_over.Given as goal

abbrev pub invariant-loop-k : goal.invariant-loop-k
invariant-loop-k l = below (λ j. not (goes_on (end_at l.ends j))) l.k ≡ true
