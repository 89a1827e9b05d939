-- The definitions by index as loops go through them: none, and one more.
use mathlib.Core.{Bool.cond, List.{List, [], ◌∷◌, ◌++◌}, Path.{◌≡◌, refl, ap}}
use native.Mathlib.Omega.{arith}
use Prim.Native.Nat.{ℕ, suc, ◌+◌}
use Rattle.spec.specs.{Messages.{Call, begin, Reply, after_all}, Machine.Machine, Calls.{call, calls_after}}
use Rattle.spec_dispatch.specs.Rounds.{Scripts, goes_on, Work, with_call, begins, turn, turns, passes, commit_one, commit_all}
use Rattle.spec_dispatch.specs.Rounds.{round, rounds}

-- The store after one call more.
pub after_call : (cs : List Call) (c : Call) (m : Machine) → calls_after (cs ++ (c ∷ [])) m ≡ (call c (calls_after cs m)).after
unfolding after_all
after_call [] c m = refl
after_call (d ∷ cs) c m = after_call cs c (call d m).after

next : (k : ℕ) → k + 1 ≡ suc k
next k = omega arith

module _ (reply_to : Call → List Call → Reply) (bytes : List ℕ) (minute : ℕ) (x : Scripts) (w : Work) where
  pub begins-more : (k : ℕ) → begins reply_to bytes minute x (k + 1) w ≡ cond (goes_on ((begins reply_to bytes minute x k
      w).ends k)) (with_call (begin k) (begins reply_to bytes minute x k w)) (begins reply_to bytes minute x k w)
  begins-more k = unfold begins in ap (λ (n : ℕ). begins reply_to bytes minute x n w) (next k)

  pub turns_more : (i k : ℕ) → turns reply_to bytes minute x i (k + 1) w
      ≡ turn reply_to bytes minute x i k (turns reply_to bytes minute x i k w)
  turns_more i k = unfold turns in ap (λ (n : ℕ). turns reply_to bytes minute x i n w) (next k)

  pub passes_none : passes reply_to bytes minute x 0 w ≡ w
  passes_none = unfold passes in refl

  pub passes-more : (i : ℕ) → passes reply_to bytes minute x (i + 1) w
      ≡ turns reply_to bytes minute x i x.count (passes reply_to bytes minute x i w)
  passes-more i = unfold passes in ap (λ (n : ℕ). passes reply_to bytes minute x n w) (next i)

  pub commits-more : (k : ℕ) → commit_all reply_to bytes minute x (k + 1) w
      ≡ commit_one reply_to bytes minute x k (commit_all reply_to bytes minute x k w)
  commits-more k = unfold commit_all in ap (λ (n : ℕ). commit_all reply_to bytes minute x n w) (next k)

  pub rounds-more : (j : ℕ) → rounds reply_to bytes minute x (j + 1) w
      ≡ round reply_to bytes minute x (rounds reply_to bytes minute x j w)
  rounds-more j = unfold rounds in ap (λ (n : ℕ). rounds reply_to bytes minute x n w) (next j)
