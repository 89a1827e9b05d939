-- A list that is refused for its length is refused as its front.
use mathlib.Core.{Bool.{Bool, true, false, ◌&&◌}, List.{List, []}, Path.{◌≡◌, refl, sym, ap, ◌∙◌}}
use Prim.Native.Nat.{ℕ, ◌≤◌}
use native.Mathlib.Omega.{arith}
use lib.{Dec.leb, ListN.{length, take}, Seq.{take_all, length-take-le}}
use borrow.Author.Tests.{leb-true, leb-false, lt-leb, ne_eqb}
use Rattle.text_log.specs.LogLines.{most_ordered}
use Rattle.state.specs.Outcomes.{refused}
use Rattle.spec_orders.specs.Orders.{is_list, distinct}
use Rattle.admission.specs.{FirstRefusal.unless, Admission.{sizes_in, first_tests, admission_of_fresh}}
use Rattle.spec.specs.{Machine.{Machine, sizes}, Messages.{best_order, says}}
use Rattle.spec.specs.OrderReply.{Asked, order_refusal, order_replied, order_reply}
use Rattle.spec.specs.Calls.{Turn, refuse_turn, passing, fresh, order_turn, asked_of, call}

-- Equal for lists within n, and for longer ones alike whatever the list is.
by_length : {A : Type 0} (n : ℕ) (l : List ℕ) (f : List ℕ → A) (x : A) → ((k : List ℕ) → n ≤ length k → f k ≡ x) → f (take n l)
    ≡ f l
by_length n l f x same = pick (leb (length l) n) refl
  where
    pick : (b : Bool) → leb (length l) n ≡ b → f (take n l) ≡ f l
    pick true e = ap f (take_all n l (leb-true (length l) n e))
    pick false e = let h = leb-false (length l) n e in
        same (take n l) (omega (arith, length-take-le n l (omega arith))) ∙ sym (same l (omega arith))

denied : (s b : Bool) (m : Machine) (x : Turn) → passing (unless (s && false) 1 (unless b 14 0)) [] m x ≡ refuse_turn 1 [] m
unfolding passing unless
denied true b m x = refl
denied false b m x = refl

no-fresh : (m : Machine) (files : List ℕ) → 17 ≤ length files → fresh files m ≡ refuse_turn 1 [] m
unfolding fresh admission_of_fresh
no-fresh m files h = rw (ne_eqb (length files) 16 (λ e. omega (arith, e, h))) (denied (sizes_in (sizes m)) _ m _)

pub fresh-cut : (files : List ℕ) (m : Machine) → fresh (take 17 files) m ≡ fresh files m
fresh-cut files m = by_length 17 files (λ l. fresh l m) (refuse_turn 1 [] m) (no-fresh m)

and-off : (b c : Bool) → (b && false && c) ≡ false
and-off true c = refl
and-off false c = refl

no-list : (ts : List ℕ) → most_ordered ≤ length ts → is_list ts ≡ false
no-list ts h = unfold is_list in rw (lt-leb (length ts) 8 (omega arith)) (and-off (leb 1 (length ts)) (distinct ts))

no-order : (a : Asked) (minute budget : ℕ) (ts : List ℕ) → most_ordered ≤ length ts
    → order_reply a ts minute budget ≡ says (refused 26)
no-order a minute budget ts h = unfold order_reply order_replied order_refusal unless in rw (no-list ts h)

pub order-cut : (ts : List ℕ) (minute budget : ℕ) (m : Machine)
    → call (best_order (take most_ordered ts) minute budget) m ≡ call (best_order ts minute budget) m
unfolding call order_turn
order-cut ts minute budget m = ap (λ r. passing (first_tests (sizes m) m.store m.journal 0) [] m
    (record { reply = r; after = m })) (by_length most_ordered ts (λ l. order_reply (asked_of minute m) l minute budget)
    (says (refused 26)) (no-order (asked_of minute m) minute budget))
