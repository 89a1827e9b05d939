-- The lengths put so far, and those that stood there after them.
use mathlib.Core.{List.List, Path.{◌≡◌}}
use lib.ListN.{length, get_or}
use Prim.Native.Nat.{ℕ}
use Rattle.state.{specs.{StoreMeaning.with_lengths, Layout.store_of}, proofs.Filled.{filled}}
use Rattle.commit_apply.specs.Apply.{Means}
use Rattle.commit_apply.proofs.lengths.put_lengths.Given as goal

-- The lengths once the first n are put.
abbrev pub put_into : List ℕ → List ℕ → ℕ → List ℕ
put_into lengths state n = filled (λ f. get_or lengths f 0) (store_of state).lengths n

abbrev pub invariant-loop-f : goal.invariant-loop-f
invariant-loop-f l =
    Means l.initial.state l.state (with_lengths (put_into l.lengths l.initial.state l.f) (store_of l.initial.state)) × (length l.lengths ≡ 8)
