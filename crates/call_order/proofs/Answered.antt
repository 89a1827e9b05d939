-- What the code answers is the reply of the rules.
use mathlib.Core.{Bool.{Bool, cond, not, ◌&&◌}, List.List, Path.{◌≡◌, sym, ap, ap₂, ◌∙◌}}
use lib.{Dec.eqb, ListN.length}
use Prim.Native.Nat.{ℕ, ◌-◌, min}
use Rattle.limits.specs.Limits.{transaction_count}
use Rattle.buffers.specs.{Bits.bits_of, Marks.contains}
use Rattle.state.specs.{Outcomes.ordered, Layout.transaction_of}
use Rattle.spec_orders.specs.Orders.{orders, tried_of, factorial, Rated, best_tried, count_in, all_in, gap_of}
use Rattle.spec_orders.proofs.Numbered.{many-orders, many-tried}
use Rattle.spec.specs.{Messages.Reply, OrderReply.{Asked, order_replied, order_reply}, Calls.asked_of, Promises.machine_of}
use Rattle.commit_windows.specs.WindowCheck.{has_byte_for_closed}
use Rattle.call_order.specs.{OrderStatements.Asking, OrderTable.{waits_in, Tabled, grants_by_table}}
use Rattle.call_order.proofs.{Admitted.ListIn, Grading.{count-is, grants-are}, BestLaws.{best-same, best-tried-most}}

module _ (state files logs marks undo ts : List ℕ) (minute budget : ℕ)
    (a : Asking (machine_of state files logs marks undo) ts minute budget) (listed : ListIn state ts minute budget)
    (table : List ℕ) (tabled : Tabled (machine_of state files logs marks undo) ts table) (shut : ℕ)
    (shut_is : shut ≡ bits_of (λ t. (transaction_of state t).begun && has_byte_for_closed state logs t minute) transaction_count)
    (placed : Bool) (placed_is : placed ≡ all_in (λ t. not (waits_in state t)) ts) (all : ℕ)
    (all_is : all ≡ factorial (length ts)) (tried : ℕ) (tried_is : tried ≡ min budget all) where
  abbrev asked : Asked
  asked = asked_of minute (machine_of state files logs marks undo)

  abbrev G : List ℕ → ℕ
  G = grants_by_table state (record { table = table; closed = shut; placed = placed })

  abbrev best : Rated
  best = best_tried asked.grants budget ts

  tried-is : tried ≡ length (tried_of budget ts)
  tried-is = tried_is ∙ ap (min budget) all_is ∙ sym (many-tried ts budget)

  best-is : best_tried G tried ts ≡ best
  best-is = ap (λ (n : ℕ). best_tried G n ts) (tried_is ∙ ap (min budget) all_is) ∙ best-tried-most G budget ts
      ∙ best-same G asked.grants budget ts
      (λ o h. grants-are state files logs marks undo ts minute budget a listed table tabled shut shut_is o h placed placed_is)

  reply-is : order_reply asked ts minute budget ≡ record {
    answer = ordered best.grants (gap_of asked.has_closed budget ts best.grants) (length (tried_of budget ts));
    buffer = best.order;
  }
  reply-is = unfold order_reply order_replied in ap (order_replied asked ts budget) a.passed

  module _ (grants gap : ℕ) (grants_is : grants ≡ (best_tried G tried ts).grants)
      (gap_is : gap ≡ cond (eqb tried all) 0 (count_in (λ t. not (contains shut t)) ts - grants)) where
    gap_is_lem : gap ≡ gap_of asked.has_closed budget ts best.grants
    unfolding gap_of
    gap_is_lem = gap_is ∙ ap₂ (λ (x y : ℕ). cond (eqb x y) 0 (count_in (λ t. not (contains shut t)) ts - grants)) tried-is (all_is
        ∙ sym (many-orders ts)) ∙ ap₂ (λ (x y : ℕ). cond (eqb (length (tried_of budget ts)) (length (orders ts))) 0 (x - y))
        (count-is state files logs marks undo ts minute budget a listed table tabled shut shut_is) (grants_is
        ∙ ap (λ (r : Rated). r.grants) best-is)

    pub answer-is : ordered grants gap tried ≡ (order_reply asked ts minute budget).answer
    answer-is = ap₂ (λ (g k : ℕ). ordered g k tried) (grants_is ∙ ap (λ (r : Rated). r.grants) best-is) gap_is_lem
        ∙ ap (ordered best.grants (gap_of asked.has_closed budget ts best.grants)) tried-is
        ∙ sym (ap (λ (r : Reply). r.answer) reply-is)

  pub buffer-is : (order : List ℕ) → order ≡ (best_tried G tried ts).order → order ≡ (order_reply asked ts minute budget).buffer
  buffer-is order e = e ∙ ap (λ (r : Rated). r.order) best-is ∙ sym (ap (λ (r : Reply). r.buffer) reply-is)
