-- `rounds::run` meets its contract. The loop's invariant: what stands is the work of the rounds below j.
use mathlib.Core.Path.{◌≡◌}
use lib.ListN.{length}
use Prim.Native.Nat.{◌-◌, ◌*◌, ◌≤◌}
use Rattle.spec.specs.Promises.{machine_of}
use Rattle.spec_dispatch.specs.{Rounds.{nothing_done, rounds}, Dispatch.{store_reply}}
use Rattle.dispatcher.specs.{Types.scripts_of, Steps.WorkStands}
use Rattle.dispatcher.proofs.rounds.run_rounds.Given as goal

abbrev pub invariant-loop-round : goal.invariant-loop-round
invariant-loop-round l =
    let m = machine_of l.initial.state l.initial.files l.initial.logs l.initial.marks l.initial.undo in
    (l.p.commits ≤ 8 * l._round) × (length l.files ≡ length l.initial.files) × (length l.logs ≡ length l.initial.logs)
    × (length l.marks ≡ length l.initial.marks) × (length l.undo ≡ length l.initial.undo) × (length l.reader ≡ length l.initial.reader) × WorkStands m
    (rounds (store_reply m) l.bytes l.minute (scripts_of l.scripts) l._round (nothing_done l.initial.reader)) (machine_of l.state l.files l.logs l.marks l.undo)
    l.reader l.p.ends l.p.commits
