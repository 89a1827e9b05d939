-- Request F-14, "Best order to commit in" [R-14.1]: what a machine, be it the store or the reference model,
-- is asked, and its reply. (The orders of a list and the best of those tried are
-- spec_orders/specs/Orders.antt.)
use Rattle.std.specs.Prelude.{Bool, not, ◌&&◌, List, [], ◌∷◌, leb, length, ℕ, ◌+◌}
use Rattle.limits.specs.Limits.{last_transaction, most_orders}
use Rattle.windows.specs.Windows.{minute_in}
use Rattle.state.specs.Outcomes.{ordered, refused}
use Rattle.admission.specs.FirstRefusal.{guarded, is_none, unless}
use Rattle.spec_orders.specs.Orders.{tried_of, best_tried, all_in, gap_of, is_list}
use Rattle.spec.specs.Transactions.{Write}
use Rattle.spec.specs.Places.{some_write, no_place}
use Rattle.spec.specs.Messages.{Reply, says, is_grant}

-- "how many grants Commit would give in it" [R-14.1]: how many of the Commits, made one after the other on a
-- machine s, are granted. A Commit of t replies `reply t s`, and leaves `after t s`.
module _ {S : Type 0} (reply : ℕ → S → Reply) (after : ℕ → S → S) where
  unfoldable pub grants_in : List ℕ → S → ℕ
  grants_in [] s = 0
  grants_in (t ∷ ts) s = is_grant (reply t s).answer + grants_in ts (after t s)

-- "has a write without a place" [R-14.4], of 0 bytes too.
unfoldable pub has_unplaced : List Write → Bool
has_unplaced ws = some_write (λ w. no_place w.place) ws

-- What a machine is asked at the minute: who is open, who "is stale or has a write without a place" [R-14.4],
-- who has a byte "for a file closed at the minute" [R-14.3], and the grants of an order.
pub record Asked : Type 0 where
  pub is_open : ℕ → Bool
  pub not_ready : ℕ → Bool
  pub has_closed : ℕ → Bool
  pub grants : List ℕ → ℕ

-- "26 when the list is empty, over 8 or has a repeat, before 3" [R-16.1]; 3 for any of them before 4 for any;
-- "25 when one is stale or has a write without a place, after 4 and 22" [R-16.1]; "27 when the budget is
-- outside its range, last" [R-16.1]: "1 to 40,320" [R-14.1]. 0 stands for none.
unfoldable pub order_refusal : Asked → List ℕ → ℕ → ℕ → ℕ
order_refusal a ts minute budget =
    unless (is_list ts) 26
    (unless (all_in (λ t. leb t last_transaction) ts) 3
    (unless (all_in a.is_open ts) 4
    (unless (minute_in minute) 22
    (unless (all_in (λ t. not (a.not_ready t)) ts) 25
    (unless (leb 1 budget && leb budget most_orders) 27 0)))))

-- "answer an order (as transaction numbers), how many grants Commit would give in it, and a gap" [R-14.1];
-- "The number of orders tried is in the result" [R-14.1]. The order stands where other replies have the
-- reader's buffer.
unfoldable pub order_replied : Asked → List ℕ → ℕ → ℕ → Reply
order_replied a ts budget n =
    let b = best_tried a.grants budget ts in
    guarded (λ k. says (refused k)) (is_none n) n
    (record {
      answer = ordered b.grants (gap_of a.has_closed budget ts b.grants)
          (length (tried_of budget ts));
      buffer = b.order;
    })

unfoldable pub order_reply : Asked → List ℕ → ℕ → ℕ → Reply
order_reply a ts minute budget = order_replied a ts budget (order_refusal a ts minute budget)
