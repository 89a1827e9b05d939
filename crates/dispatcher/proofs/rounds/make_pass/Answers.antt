-- `rounds::make_pass` meets its contract.
use Rattle.std.proofs.Common.{◌<◌, ◌+◌, cond}
use Rattle.limits.specs.Limits.{script_count}
use Rattle.spec.specs.Machine.{Machine}
use Rattle.spec.specs.Promises.{machine_of}
use Rattle.spec_dispatch.specs.Rounds.{Scripts, Work, perform}
use Rattle.dispatcher.specs.Steps.{WorkStands}
use Rattle.dispatcher.proofs.StepLaws.{chosen-step, passed_over}
use mathlib.Core.{Bool.{Bool, ◌&&◌}, Path.{◌≡◌, refl, sym, ap, ◌∙◌}}
use borrow.Author.{Tests.ltb-true, Rules.rules}
use lib.{Dec.ltb, ListN.{get_or}}
use native.Mathlib.Omega.{arith}
use Prim.Native.Nat.{ℕ}
use Rattle.admission.proofs.Laws.{and_right}
use Rattle.spec_dispatch.specs.{Rounds.{goes_on, turns, passes}, Dispatch.store_reply}
use Rattle.dispatcher.specs.{Types.scripts_of}
use Rattle.dispatcher.proofs.ScriptLaws.{scripts-eight, call-in}
use Rattle.dispatcher.proofs.StepLaws.{stands-as, turn-as, turns-again, passes-again}
use Rattle.dispatcher.proofs.rounds.make_pass.Goals as goal
use Rattle.dispatcher.proofs.rounds.make_pass.Goals.{then-goes_on-i, else-goes_on-i}

pub loop-k-init : goal.loop-k-init
unfolding turns
loop-k-init c = (refl, refl, refl, refl, refl, λ minute n m₀ w s. s)

pub goes_on-requires : goal.goes_on-requires
goes_on-requires c = omega (arith, scripts-eight _ _ c.requires.1, c.loop-k-test.true)

pub bounds-scripts-k : goal.bounds-scripts-k
bounds-scripts-k c = omega (arith, scripts-eight _ _ c.requires.1, c.loop-k-test.true)

pub offset_bounds-scripts-k : goal.offset_bounds-scripts-k
offset_bounds-scripts-k c = omega (arith, scripts-eight _ _ c.requires.1, c.loop-k-test.true)

pub take_turn-next-requires : goal.take_turn-next-requires
take_turn-next-requires c = (
  omega (arith, scripts-eight _ _ c.requires.1, c.loop-k-test.true),
  call-in _ _ c.requires.1 _ _ c.loop-k-test.true (ltb-true _ _ (and_right c.goes_on.result _ c.if-goes_on-i.true)),
)

pub loop-k-preserved : goal.loop-k-preserved
unfolding scripts_of
loop-k-preserved c =
    let l = c.loop-k in let a = c.args in
    let small : l.k < script_count = omega (arith, scripts-eight _ _ c.requires.1, c.loop-k-test.true) in
    let due : Bool = c.goes_on.result && ltb a.i (get_or a.scripts.now.counts l.k 0) in
    let x : Scripts = scripts_of a.scripts.now in
    let before : (minute : ℕ) (m₀ : Machine) → Work → Work = λ minute m₀ w. turns (store_reply m₀) a.bytes.now minute x a.i l.k w in
    let made : (minute : ℕ) (m₀ : Machine) → Work → Work = λ minute m₀ v.
    perform (store_reply m₀) a.bytes.now minute x l.k ((x.script l.k).call a.i) v in
    let step : (minute n : ℕ) (m₀ : Machine) (w : Work)
    → WorkStands m₀ w (machine_of a.state.now a.files.now a.logs.now a.marks.now a.undo.now) a.reader.now a.ends n
    → turns (store_reply m₀) a.bytes.now minute x a.i (l.k + 1) w ≡ cond due (made minute m₀ (before minute m₀ w)) (before minute m₀ w) =
    λ minute n m₀ w s. turns-again (store_reply m₀) _ minute _ a.i l.k w ∙ turn-as _ minute x a.i l.k m₀ (before minute m₀ w) due
    (ap (λ b. b && ltb a.i (get_or a.scripts.now.counts l.k 0))
    (c.goes_on.ensures ∙ ap goes_on ((l.invariant.5 minute n m₀ w s).ends l.k small))) in
    elim c.if-goes_on-i.branch [
      | then-goes_on-i v ↦ (
        search rules,
        search rules,
        search rules,
        search rules,
        search rules,
        rw (v.state-is, v.files-is, v.logs-is, v.marks-is, v.undo-is, v.reader-is, v.out-is) (λ minute n m₀ w s.
            stands-as m₀ _ _ _ _ _ n (step minute n m₀ w s ∙ chosen-step due _ _ v.if-goes_on-i.true)
            (v.take_turn-next.ensures minute x n m₀ _ (l.invariant.5 minute n m₀ w s))),
      )
      | else-goes_on-i v ↦ (
        search rules,
        search rules,
        search rules,
        search rules,
        search rules,
        rw (v.state-is, v.files-is, v.logs-is, v.marks-is, v.undo-is, v.reader-is, v.out-is) (λ minute n m₀ w s.
            stands-as m₀ _ _ _ _ _ n (step minute n m₀ w s ∙ passed_over due _ _ v.if-goes_on-i.false)
            (l.invariant.5 minute n m₀ w s)),
      )
    ]

pub returns : goal.returns
unfolding scripts_of
returns c = let l = c.loop-k in let e : l.k ≡ c.args.scripts.now.count = omega arith in
    λ minute n m₀ w s. stands-as m₀ _ _ _ _ _ n
    (ap (λ (k : ℕ). turns (store_reply m₀) c.args.bytes.now minute (scripts_of c.args.scripts.now) c.args.i k w) (sym e)) (l.invariant.5 minute n m₀ w s)
