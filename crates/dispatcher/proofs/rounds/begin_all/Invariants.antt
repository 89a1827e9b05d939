-- `rounds::begin_all` meets its contract. The loop's invariant: those below k are begun.
use mathlib.Core.{List.List, Path.{◌≡◌}}
use lib.ListN.{length}
use Prim.Native.Nat.{ℕ, ◌-◌, ◌≤◌}
use Rattle.spec.specs.Promises.{machine_of}
use Rattle.spec_dispatch.specs.{Rounds.{Scripts, begins}, Dispatch.store_reply}
use Rattle.dispatcher.specs.Steps.{CarriesStep}
use Rattle.dispatcher.proofs.rounds.begin_all.Given as goal

abbrev pub invariant-loop-k : goal.invariant-loop-k
invariant-loop-k l =
    (length l.marks ≡ length l.initial.marks) × ((bytes : List ℕ) (minute : ℕ) (x : Scripts) (reader : List ℕ) (n : ℕ)
    → CarriesStep (λ m. begins (store_reply m) bytes minute x l.k) (machine_of l.initial.state l.files l.logs l.initial.marks l.undo) reader l.ends n
    (machine_of l.state l.files l.logs l.marks l.undo) reader l.ends n)
