-- F-14: what holds of the answer, on every store that meets neither 1 nor 2.
use mathlib.Core.{Bool.{Bool, true, false, cond, not, ◌&&◌, true≢false}, List.{List, [], ◌∷◌, map}}
use mathlib.Core.Path.{◌≡◌, refl, sym, ap, ◌∙◌, fun_ext, subst}
use borrow.Author.Tests.{leb-true, eq-eqb}
use lib.{Dec.leb, ListN.length}
use native.Mathlib.Omega.{arith}
use Prim.Native.Nat.{ℕ, zero, suc, ◌+◌, ◌≤◌}
use Rattle.limits.specs.Limits.{last_transaction, most_orders}
use Rattle.state.specs.{StoreMeaning.transaction, Outcomes.{Said, done_answer, pointer, given, granted, pairs, ordered, refused}}
use Rattle.admission.proofs.Laws.{and_left}
use Rattle.spec_orders.specs.Orders.{orders, tried_of, factorial, Rated, best_tried, count_in, gap_of, Earliest}
use Rattle.spec_orders.proofs.{Numbered.{many-orders, orders-of}, Best.{best-is-earliest, best-arranges, none-better}}
use Rattle.spec.specs.Messages.{commit, is_grant, grants_among, replies_to}
use Rattle.spec.specs.{OrderReply.{grants_in, Asked, order_refusal, order_replied, order_reply}, Machine.Machine}
use Rattle.spec.specs.Calls.{passing, commit_call, asked_of, order_turn, call, calls_after, calls_replies}
use Rattle.spec.specs.{BestOrder.{grants_by, BestOrder, BestOrderHolds}, Corollaries.BestOrderAlwaysHolds}
use Rattle.spec.proofs.Abstract.AbstractStore.{vacant, occupied, is_occupied, writes_seat, abstract_asked}
use Rattle.spec.proofs.Abstract.{OrderReplies.passed, ClosedCommits.{may, fewer-count, few-closed}}
use Rattle.spec.proofs.Refinement.{Relation.{open_txn_in, seat, view, Sound}, Admissions.first-is, OrderTurn.order-grants}
use Rattle.spec.proofs.Theorems.{Answers.answer-not-refused, Serializability.{calls-agree, fresh-facts}}

-- The grants asked are those of Serializability's calls.
made : (minute : ℕ) (o : List ℕ) (m : Machine) → grants_in (λ t n. (commit_call t minute n).reply)
    (λ t n. (commit_call t minute n).after) o m ≡ grants_among (calls_replies (map (λ t. commit t minute) o) m)
unfolding grants_in grants_among call replies_to
made minute [] m = refl
made minute (t ∷ o) m = ap (λ (n : ℕ). is_grant (commit_call t minute m).reply.answer + n)
    (made minute o (commit_call t minute m).after)

grants-by : (m : Machine) (minute : ℕ) → (asked_of minute m).grants ≡ grants_by m minute
grants-by m minute = unfold asked_of grants_by in fun_ext (λ o. made minute o m)

-- The three numbers of an answer.
record Numbers : Type 0 where
  grants : ℕ
  gap : ℕ
  tried : ℕ

numbers_in : Said → Numbers
numbers_in done_answer = record { grants = 0; gap = 0; tried = 0 }
numbers_in (pointer o) = record { grants = 0; gap = 0; tried = 0 }
numbers_in (given n) = record { grants = 0; gap = 0; tried = 0 }
numbers_in (granted n) = record { grants = 0; gap = 0; tried = 0 }
numbers_in (pairs n) = record { grants = 0; gap = 0; tried = 0 }
numbers_in (ordered grants gap tried) = record { grants = grants; gap = gap; tried = tried }
numbers_in (refused n) = record { grants = 0; gap = 0; tried = 0 }

module _ (m : Machine) (sound : Sound m) (minute : ℕ) where
  may-open : (t : ℕ) → may minute (view m) ((view m).seats t) ≡ true → not ((asked_of minute m).has_closed t) ≡ true
  unfolding view seat
  may-open t e = pick (leb t last_transaction && (transaction m.store t).begun) e
    where
      pick : (b : Bool) → may minute (view m) (cond b (occupied (open_txn_in m t)) vacant) ≡ true
          → not ((asked_of minute m).has_closed t) ≡ true
      pick true k = unfold may is_occupied writes_seat open_txn_in view asked_of in k
      pick false k = absurd (true≢false (sym (unfold may is_occupied in k)))

  store-few : (o : List ℕ) → (asked_of minute m).grants o ≤ count_in (λ t. not ((asked_of minute m).has_closed t)) o
  store-few o = unfold abstract_asked in let e = order-grants minute m sound o in let a = few-closed minute o (view m) in
      let c = fewer-count minute (λ t. may minute (view m) ((view m).seats t)) (λ t. not ((asked_of minute m).has_closed t))
      may-open o in omega arith

  module _ (ts : List ℕ) (budget : ℕ) where
    best : Rated
    best = best_tried (asked_of minute m).grants budget ts

    gap : ℕ
    gap = gap_of (asked_of minute m).has_closed budget ts (best_tried (asked_of minute m).grants budget ts).grants

    -- All were tried.
    no_gap_lem : length (tried_of budget ts) ≡ factorial (length ts) → gap ≡ 0
    no_gap_lem e = unfold gap gap_of in rw (eq-eqb (length (tried_of budget ts)) (length (orders ts)) (e ∙ sym (many-orders ts)))

    holds : 1 ≤ budget → BestOrder m ts minute budget best.order best.grants gap (length (tried_of budget ts))
    holds l = unfold best gap in let e = grants-by m minute in record {
      arranges = best-arranges (asked_of minute m).grants budget ts l;
      best = subst (λ (f : List ℕ → ℕ). Earliest f (tried_of budget ts) (best_tried (asked_of minute m).grants budget ts)) e
          (best-is-earliest (asked_of minute m).grants budget ts l);
      none_better = λ o h. subst (λ (f : List ℕ → ℕ). f o ≤ best.grants + gap) e
          (none-better (asked_of minute m).grants (asked_of minute m).has_closed store-few ts o budget h);
      no_gap = no_gap_lem;
      many = (refl, (orders-of ts).tried budget);
    }

    -- An answer with these numbers.
    answered : (n grants gap tried : ℕ) → (n ≡ 0 → 1 ≤ budget)
        → (order_replied (asked_of minute m) ts budget n).answer ≡ ordered grants gap tried
        → BestOrder m ts minute budget (order_replied (asked_of minute m) ts budget n).buffer grants gap tried
    unfolding order_replied best gap
    answered zero g k r h e =
        let x : Numbers = record { grants = best.grants; gap = gap; tried = length (tried_of budget ts) } in
        let q : x ≡ record { grants = g; gap = k; tried = r } = unfold numbers_in in ap numbers_in e in
        subst (λ (y : Numbers). BestOrder m ts minute budget best.order y.grants y.gap y.tried) q (holds (h refl))
    answered (suc n) g k r h e = absurd (answer-not-refused (ordered g k r) (suc n) tt (sym e))

budget-passed : (a : Asked) (ts : List ℕ) (minute budget : ℕ) → order_refusal a ts minute budget ≡ 0 → 1 ≤ budget
budget-passed a ts minute budget e =
    leb-true 1 budget (and_left (leb 1 budget) (leb budget most_orders) (passed a ts minute budget e).affordable)

pub best-order : (m : Machine) → Sound m → BestOrderHolds m
best-order m sound = unfold call passing order_turn order_reply in let z = first-is m 0 sound in record {
  unchanged = λ ts minute budget. rw z refl;
  answered = λ ts minute budget g k r e. rw z (answered m sound minute ts budget
      (order_refusal (asked_of minute m) ts minute budget) g k r (budget-passed (asked_of minute m) ts minute budget)
      (sym (ap (λ (n : ℕ). (passing n [] m (order_turn ts minute budget m)).reply.answer) z) ∙ e));
}

pub best-order-always-holds : BestOrderAlwaysHolds
best-order-always-holds numbers m₀ made cs = best-order (calls_after cs m₀)
    (calls-agree cs m₀ (fresh-facts numbers m₀ made).sound).sound
