-- `rounds::make_passes` meets its contract.
use mathlib.Core.{Bool.{Bool, ◌&&◌}, Path.{◌≡◌, refl, sym, ap, ◌∙◌}}
use borrow.Author.{Tests.ltb-true, Rules.rules}
use lib.{Dec.ltb, ListN.{get_or}}
use native.Mathlib.Omega.{arith}
use Prim.Native.Nat.{ℕ}
use Rattle.admission.proofs.Laws.{and_right}
use Rattle.spec_dispatch.specs.{Rounds.{goes_on, turns, passes}, Dispatch.store_reply}
use Rattle.dispatcher.specs.{Types.scripts_of}
use Rattle.dispatcher.proofs.ScriptLaws.{scripts-eight, call-in}
use Rattle.dispatcher.proofs.StepLaws.{stands-as, turn-as, turns-again, passes-again}
use Rattle.dispatcher.proofs.rounds.make_passes.Goals as goal

pub loop-i-init : goal.loop-i-init
unfolding passes
loop-i-init c = (refl, refl, refl, refl, refl, λ minute n m₀ w s. s)

pub loop-i-preserved : goal.loop-i-preserved
unfolding scripts_of
loop-i-preserved c = let l = c.loop-i in let a = c.args in (
  search rules,
  search rules,
  search rules,
  search rules,
  search rules,
  λ minute n m₀ w s. stands-as m₀ _ _ _ _ _ n (passes-again (store_reply m₀) _ minute (scripts_of a.scripts) l.i w)
      (c.make_pass-next.ensures minute n m₀ _ (l.invariant.5 minute n m₀ w s)),
)

pub returns : goal.returns
returns c = let l = c.loop-i in let e : l.i ≡ 16 = omega arith in
    λ minute n m₀ w s. stands-as m₀ _ _ _ _ _ n
    (ap (λ (i : ℕ). passes (store_reply m₀) c.args.bytes.now minute (scripts_of c.args.scripts) i w) (sym e)) (l.invariant.5 minute n m₀ w s)
