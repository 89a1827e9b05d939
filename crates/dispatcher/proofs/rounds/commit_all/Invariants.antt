-- `rounds::commit_all` meets its contract. The loop's invariant: those below k are committed.
use mathlib.Core.{List.List, Path.{◌≡◌}}
use lib.ListN.{length}
use Prim.Native.Nat.{ℕ, ◌+◌, ◌-◌, ◌≤◌}
use Rattle.spec.specs.Promises.{machine_of}
use Rattle.spec_dispatch.specs.{Rounds.{Scripts, commit_all}, Dispatch.store_reply}
use Rattle.dispatcher.specs.Steps.{CarriesStep}
use Rattle.dispatcher.proofs.rounds.commit_all.Given as goal

abbrev pub invariant-loop-k : goal.invariant-loop-k
invariant-loop-k l =
    (l.out.commits ≤ l.initial.out.commits + l.k) × (length l.files ≡ length l.initial.files) × (length l.marks ≡ length l.initial.marks)
    × (length l.undo ≡ length l.initial.undo) × ((bytes : List ℕ) (x : Scripts) (reader : List ℕ)
    → CarriesStep (λ m. commit_all (store_reply m) bytes l.minute x l.k) (machine_of l.initial.state l.initial.files l.logs l.initial.marks l.initial.undo) reader
    l.initial.out.ends l.initial.out.commits (machine_of l.state l.files l.logs l.marks l.undo) reader l.out.ends l.out.commits)
