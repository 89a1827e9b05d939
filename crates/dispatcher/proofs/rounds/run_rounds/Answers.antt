-- `rounds::run` meets its contract. The loop's invariant: what stands is the work of the rounds below j.
use mathlib.Core.Path.{◌≡◌, refl, sym, ap, ◌∙◌}
use lib.ListN.{length}
use native.Mathlib.Omega.{arith}
use Prim.Native.Nat.{ℕ}
use borrow.Author.Rules.{rules}
use Rattle.spec.specs.Promises.{machine_of}
use Rattle.spec_dispatch.specs.{Rounds.{nothing_done, rounds, dispatched}, Dispatch.{store_reply, work_on_store}}
use Rattle.dispatcher.specs.{Types.scripts_of}
use Rattle.dispatcher.proofs.{ScriptLaws.scripts-eight, StepLaws.{stands-as, rounds-again, rounds-stopped, nothing-stands}}
use Rattle.dispatcher.proofs.rounds.run_rounds.Goals as goal

pub loop-round-init : goal.loop-round-init
loop-round-init c = unfold rounds in (omega arith, refl, refl, refl, refl, refl, nothing-stands _ _)

pub all_over-requires : goal.all_over-requires
all_over-requires c = scripts-eight _ _ c.requires

pub returns-then-all_over : goal.returns-then-all_over
unfolding work_on_store dispatched scripts_of
returns-then-all_over c = let l = c.loop-round in
    let a = c.args in
    let m = machine_of a.state.now a.files.now a.logs.now a.marks.now a.undo.now in
    rounds-stopped m _ _ (scripts_of a.scripts) l._round _ _ _ _ _ l.invariant.6 (scripts-eight (length a.bytes.now)
    a.scripts c.requires) (omega arith) (sym c.all_over.ensures ∙ c.if-all_over.true)

pub run_round-p-requires : goal.run_round-p-requires
run_round-p-requires c = let few = scripts-eight _ _ c.requires in
    (c.requires, omega (arith, few, c.loop-round.invariant.0))

pub loop-round-preserved : goal.loop-round-preserved
loop-round-preserved c = let l = c.loop-round in
    let few = scripts-eight _ _ c.requires in
    let more = c.run_round-p.ensures in (
      omega (arith, few, l.invariant.0, more.few),
      search rules,
      search rules,
      search rules,
      search rules,
      search rules,
      stands-as _ _ _ _ _ _ _ (rounds-again _ _ _ _ l._round _) (more.work _ _ l.invariant.6),
    )

pub returns : goal.returns
unfolding work_on_store dispatched scripts_of
returns c = let l = c.loop-round in let a = c.args in
    let m = machine_of a.state.now a.files.now a.logs.now a.marks.now a.undo.now in
    let e : l._round ≡ a.scripts.count = omega arith in
    stands-as m _ _ _ _ _ _ (ap (λ (j : ℕ). rounds (store_reply m) a.bytes.now a.minute (scripts_of a.scripts) j
    (nothing_done a.reader.now)) (sym e)) l.invariant.6
