-- `settle_call::settle` meets its contract. The loop's invariant: the descriptors below `e` fit, and are settled where chosen.
use mathlib.Core.{List.List, Path.{◌≡◌, ap, ◌∙◌}}
use lib.ListN.{length, set}
use native.Mathlib.Omega.{arith}
use Prim.Native.Nat.{ℕ, ◌≤◌, ◌<◌}
use Rattle.limits.specs.Limits.{file_bytes}
use Rattle.admission.{proofs.Laws.{below-zero, below_more, below_fails}}
use Rattle.standings.specs.{declared.Standing.Standing, Table.settled}
use Rattle.state.specs.{StoreMeaning.{standing_at, dirty_at, with_descriptors}, Layout.store_of, declared.{Transaction.Transaction, Descriptor.Descriptor}}
use Rattle.read_settle.specs.Choices.{settles_within, all_within, settling_of}
use Rattle.read_settle.proofs.ChoiceLaws.{settled_front, settled-none, settled-all, settled-more, settled-preserved, settled_as}
use Rattle.read_settle.proofs.ChoiceLaws.{within-preserved, within-settled, within-past}
use Rattle.read_settle.proofs.settle_call.settle.Goals as goal
use Rattle.read_settle.proofs.settle_call.settle.Goals.{else-chosen-e, then-chosen-e+else-c-advance}

pub loop-e-init : goal.loop-e-init
loop-e-init c = (ap (λ (y : Transaction). y.descriptors) (settled-none _ _ _), below-zero _)

pub returns-then-c-advance : goal.returns-then-c-advance
unfolding all_within settling_of
returns-then-c-advance c = let a = c.args in let offsets = (store_of a.state.now).offsets in let e = c.loop-e.e in
    let low : c.offset_at-c.result ≤ file_bytes = rw c.offset_at-c.ensures (c.requires.committed e (omega arith)) in
    rw (below_fails (settles_within a.chosen offsets a.x) e 16 (omega arith) (within-past a.chosen offsets a.x e
    c.if-chosen-e.true (omega (arith, c.advance.ensures, c.offset_at-c.ensures, low))))

pub loop-e-preserved : goal.loop-e-preserved
loop-e-preserved c = let l = c.loop-e in let a = c.args in
    let x = a.x in let offsets = (store_of a.state.now).offsets in let e = l.e in
    let h : e < length x.descriptors = omega (arith, c.requires.sixteen) in
    let own : Transaction → List Descriptor = λ y. y.descriptors in (
      elim c.if-chosen-e.branch [
        | then-chosen-e+else-c-advance w ↦ w.descriptors-is ∙ ap (λ (ds : List Descriptor). set ds e
            (record { standing = w.settled.result; dirty = dirty_at x e })) l.invariant.0 ∙ ap (λ (z : Standing).
            set (settled_front a.chosen offsets x e).descriptors e (record { standing = z; dirty = dirty_at x e }))
            (w.settled.ensures ∙ ap (λ (o : ℕ). settled o (standing_at x e)) w.offset_at-c.ensures)
            ∙ ap own (settled-more a.chosen offsets x e h w.if-chosen-e.true)
        | else-chosen-e w ↦ w.descriptors-is ∙ l.invariant.0 ∙ ap own (settled-preserved a.chosen offsets x e h w.if-chosen-e.false)
      ],
      below_more (settles_within a.chosen offsets x) e l.invariant.1 (elim c.if-chosen-e.branch [
        | then-chosen-e+else-c-advance w ↦ within-settled a.chosen offsets x e
            (omega (arith, w.offset_at-c.ensures, w.advance.ensures, w.if-c-advance.false, c.requires.committed e (omega arith)))
        | else-chosen-e w ↦ within-preserved a.chosen offsets x e w.if-chosen-e.false
      ]),
    )

pub returns : goal.returns
unfolding all_within settling_of
returns c = let l = c.loop-e in let a = c.args in
    let offsets = (store_of a.state.now).offsets in let e : l.e ≡ 16 = omega arith in
    rw (rw e at l.invariant.1) (ap (settled_as a.chosen offsets a.x) (ap (λ (ds : List Descriptor). with_descriptors ds a.x)
    (l.invariant.0 ∙ ap (λ (n : ℕ). (settled_front a.chosen offsets a.x n).descriptors) e)
    ∙ settled-all a.chosen offsets a.x c.requires.sixteen))
