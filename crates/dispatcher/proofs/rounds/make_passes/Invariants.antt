-- `rounds::make_passes` meets its contract. The loop's invariant: the calls below i of every script are made.
use mathlib.Core.{Path.{◌≡◌}}
use lib.{ListN.{length}}
use Prim.Native.Nat.{ℕ, ◌+◌, ◌-◌, ◌*◌, ◌≤◌}
use Rattle.spec.specs.Promises.{machine_of}
use Rattle.spec_dispatch.specs.{Rounds.{turns, passes}, Dispatch.store_reply}
use Rattle.dispatcher.specs.{Types.scripts_of, Steps.CarriesStep}
use Rattle.dispatcher.proofs.rounds.make_passes.Given as goal

abbrev pub invariant-loop-i : goal.invariant-loop-i
invariant-loop-i l = (length l.files ≡ length l.initial.files)
    × (length l.logs ≡ length l.initial.logs) × (length l.marks ≡ length l.initial.marks) × (length l.undo ≡ length l.initial.undo)
    × (length l.reader ≡ length l.initial.reader) × ((minute n : ℕ) → CarriesStep (λ m w. passes (store_reply m) l.bytes minute
    (scripts_of l.scripts) l.i w)
    (machine_of l.initial.state l.initial.files l.initial.logs l.initial.marks l.initial.undo) l.initial.reader l.initial.out n (machine_of l.state l.files l.logs l.marks l.undo) l.reader l.out n)
