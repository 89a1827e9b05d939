-- `rounds::begin_all` meets its contract. The loop's invariant: those below k are begun.
use mathlib.Core.{Path.{◌≡◌, refl, sym, ap}}
use native.Mathlib.Omega.{arith}
use Prim.Native.Nat.{ℕ}
use borrow.Author.Rules.{rules}
use Rattle.spec_dispatch.specs.{Rounds.{begins}, Dispatch.store_reply}
use Rattle.dispatcher.proofs.StepLaws.{stands-as, begins-again}
use Rattle.dispatcher.proofs.rounds.begin_all.Goals as goal

pub loop-k-init : goal.loop-k-init
loop-k-init c = unfold begins in (refl, λ bytes minute x reader n m₀ w s. s)

pub loop-k-preserved : goal.loop-k-preserved
loop-k-preserved c = let l = c.loop-k in (
  search rules,
  λ bytes minute x reader n m₀ w s. stands-as m₀ _ _ _ reader _ n (begins-again (store_reply m₀) bytes minute x l.k w)
      (c.begin_one.ensures reader n m₀ _ (l.invariant.1 bytes minute x reader n m₀ w s)),
)

pub returns : goal.returns
returns c = let l = c.loop-k in
    let e : l.k ≡ c.args.count = omega arith in
    λ bytes minute x reader n m₀ w s. stands-as m₀ _ _ _ reader _ n
    (ap (λ (k : ℕ). begins (store_reply m₀) bytes minute x k w) (sym e)) (l.invariant.1 bytes minute x reader n m₀ w s)
