-- `rounds::commit_all` meets its contract. The loop's invariant: those below k are committed.
use mathlib.Core.{Path.{◌≡◌, refl, sym, ap}}
use native.Mathlib.Omega.{arith}
use Prim.Native.Nat.{ℕ}
use borrow.Author.Rules.{rules}
use Rattle.spec_dispatch.specs.{Rounds.{commit_all}, Dispatch.store_reply}
use Rattle.dispatcher.proofs.StepLaws.{stands-as, commits-again}
use Rattle.dispatcher.proofs.rounds.commit_all.Goals as goal

pub loop-k-init : goal.loop-k-init
loop-k-init c = unfold commit_all in (omega arith, refl, refl, refl, λ bytes x reader m₀ w s. s)

pub loop-k-preserved : goal.loop-k-preserved
loop-k-preserved c = let l = c.loop-k in (
  omega (arith, l.invariant.0, c.commit_one-out.ensures.few),
  search rules,
  search rules,
  search rules,
  λ bytes x reader m₀ w s. stands-as m₀ _ _ _ reader _ _ (commits-again (store_reply m₀) bytes _ x l.k w)
      (c.commit_one-out.ensures.work bytes x reader m₀ _ (l.invariant.4 bytes x reader m₀ w s)),
)

pub returns : goal.returns
returns c = let l = c.loop-k in let a = c.args in
    let e : l.k ≡ a.count = omega arith in record {
      work = λ bytes x reader m₀ w s. stands-as m₀ _ _ _ reader _ _
          (ap (λ (k : ℕ). commit_all (store_reply m₀) bytes a.minute x k w) (sym e)) (l.invariant.4 bytes x reader m₀ w s);
      few = omega (arith, l.invariant.0, e);
    }
