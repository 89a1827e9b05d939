-- The rules of the call after each of its tests.
use mathlib.Core.{List.{List, []}, Bool.{Bool, true, false}, Logic.{◌⊎◌, inl, inr, ⊎_elim}, Path.{◌≡◌, refl, sym, ◌∙◌}}
use Prim.Native.Nat.{ℕ}
use Rattle.state.specs.{declared.outcomes.Refusal.Refusal, Outcomes.{Outcome, number, said}}
use Rattle.admission.{specs.{Admission.{first_tests, sizes_in, store_in}, FirstRefusal.unless}, proofs.Laws.number-suc}
use Rattle.spec.specs.{Messages.best_order, OrderReply.{order_refusal, order_replied, order_reply}, Machine.{Machine, sizes}}
use Rattle.spec.specs.{Calls.{refuse_turn, asked_of, order_turn, call}, Promises.Meets}
use Rattle.refinement.proofs.TurnLaws.{passing-number, passing-on}

-- The test that a refusal is of: one of the first, or a later one.
which : (b c : Bool) (later n : ℕ) → n ≡ unless b 1 (unless c 2 later)
    → (n ≡ unless b 1 (unless c 2 0)) ⊎ ((unless b 1 (unless c 2 0) ≡ 0) × (n ≡ later))
unfolding unless
which false c later n e = inl e
which true false later n e = inl e
which true true later n e = inr (refl, e)

module _ (m : Machine) (ts : List ℕ) (minute budget : ℕ) where
  abbrev refusal : ℕ
  refusal = order_refusal (asked_of minute m) ts minute budget

  -- Refused with 1 or 2.
  first_refused : (r : Refusal) → number r ≡ first_tests (sizes m) m.store m.journal 0
      → call (best_order ts minute budget) m ≡ refuse_turn (number r) [] m
  first_refused r e = unfold call in rw (sym e) (passing-number r [] m (order_turn ts minute budget m))

  module _ (passes : first_tests (sizes m) m.store m.journal 0 ≡ 0) where
    call-on : call (best_order ts minute budget) m ≡ order_turn ts minute budget m
    unfolding call
    call-on = passing-on (first_tests (sizes m) m.store m.journal 0) [] m (order_turn ts minute budget m) passes

    -- With one of the others.
    then-refused : (r : Refusal) → number r ≡ refusal → call (best_order ts minute budget) m ≡ refuse_turn (number r) [] m
    then-refused r e = unfold order_turn order_reply order_replied refuse_turn in call-on ∙ rw (sym e, (number-suc r).1) refl

    -- Answered.
    pub answered-meets : (o : Outcome) (order : List ℕ) → said o ≡ (order_reply (asked_of minute m) ts minute budget).answer
        → order ≡ (order_reply (asked_of minute m) ts minute budget).buffer → Meets (call (best_order ts minute budget) m) o m order
    answered-meets o order e f = unfold order_turn in rw call-on (record { outcome = e; machine = refl; reader = f })

  -- Refused, by whichever test.
  pub refused-with : (r : Refusal) → number r ≡ first_tests (sizes m) m.store m.journal refusal
      → call (best_order ts minute budget) m ≡ refuse_turn (number r) [] m
  unfolding first_tests unless
  refused-with r e = ⊎_elim (first_refused r) (λ p. then-refused p.0 r p.1)
      (which (sizes_in (sizes m)) (store_in m.store m.journal) refusal (number r) e)
