-- What the code computes for F-14, read off the state.
use Rattle.std.specs.Prelude.{Bool, cond, not, ◌&&◌, ◌||◌, List, ◌≡◌, leb, length, get_or, take, drop, replicate, ℕ, ◌-◌, ◌<◌}
use Rattle.limits.specs.Limits.{descriptor_count, transaction_count, last_transaction, most_orders}
use Rattle.windows.specs.Windows.{minute_in}
use Rattle.buffers.specs.Marks.{contains}
use Rattle.standings.specs.Table.{may_wait}
use Rattle.state.specs.StoreMeaning.{standing_at}
use Rattle.state.specs.Journal.{write_record_at}
use Rattle.state.specs.Layout.{store_of, journal_of, transaction_of}
use Rattle.state.specs.Outcomes.{said}
use Rattle.admission.specs.FirstRefusal.{some_below, unless}
use Rattle.spec_orders.specs.Orders.{all_in, best_tried, is_list}
use Rattle.spec.specs.Transactions.{Txn}
use Rattle.spec.specs.Places.{no_place}
use Rattle.spec.specs.OrderReply.{order_reply}
use Rattle.spec.specs.Machine.{Machine}
use Rattle.spec.specs.Calls.{asked_of}
use Rattle.spec.specs.Promises.{machine_of}
use Rattle.commit_apply.specs.Apply.{descriptors_only, CanLandIn}
use Rattle.commit_conflicts.specs.Conflicts.{stale_by}
use Rattle.commit_windows.specs.WindowCheck.{OpenIn}
use Rattle.call_order.specs.Answer.{order_in}
use Rattle.call_order.specs.OrderStatements.{Pass, follow_one, follow_all, pass_all, Asking}
use Rattle.call_order.specs.declared.best.OrderTable.{OrderTable}
use Rattle.call_order.specs.declared.best.BestFound.{BestFound}
use Rattle.call_order.specs.declared.follow.Pass.{Pass as Followed}
use Rattle.call_order.specs.declared.order_call.Best.{Best}

-- ---- the list

-- Transaction t has a write without a place; is not stale and has none; stands Deferred or Moved somewhere.
unfoldable pub unplaced_in : List ℕ → ℕ → Bool
unplaced_in state t = some_below (λ k. no_place (write_record_at (journal_of state) t k).place)
    (transaction_of state t).used.records

unfoldable pub is_ready : List ℕ → ℕ → Bool
is_ready state t = not ((transaction_of state t).stale || unplaced_in state t)

unfoldable pub waits_in : List ℕ → ℕ → Bool
waits_in state t = some_below (λ d. may_wait (standing_at (transaction_of state t) d)) descriptor_count

-- Each member is open; and its writes land inside the files.
abbrev pub AllOpen : List ℕ → List ℕ → Type 0
AllOpen state ts = (k : ℕ) → k < length ts → OpenIn state (get_or ts k 0)

abbrev pub AllLand : List ℕ → List ℕ → Type 0
AllLand state ts = (k : ℕ) → k < length ts
    → CanLandIn state (get_or ts k 0) (transaction_of state (get_or ts k 0)).used.records

-- The refusals of spec/specs/OrderReply.antt, read off the state.
unfoldable pub list_refusal : List ℕ → List ℕ → ℕ → ℕ → ℕ
list_refusal state ts minute budget =
    unless (is_list ts) 26
    (unless (all_in (λ t. leb t last_transaction) ts) 3
    (unless (all_in (λ t. (transaction_of state t).begun) ts) 4
    (unless (minute_in minute) 22
    (unless (all_in (is_ready state) ts) 25
    (unless (leb 1 budget && leb budget most_orders) 27 0)))))

-- ---- the table

-- The table has the octet of each member.
abbrev pub Tabled : Machine → List ℕ → List ℕ → Type 0
Tabled m ts table = (k : ℕ) → k < length ts → get_or table (get_or ts k 0) 0 ≡ stale_by m (get_or ts k 0)

abbrev pub row : List ℕ → ℕ → ℕ
row table t = get_or table t 0

-- ---- the grants of an order, off a table and the octet of those with a byte for a closed file

unfoldable pub grants_passing : List ℕ → ℕ → List ℕ → ℕ
grants_passing table shut o = (pass_all (row table) o (record { skipped = shut; grants = 0 })).grants

-- What Commit's placing goes by.
abbrev pub descriptors_in : List ℕ → ℕ → Txn
descriptors_in state t = descriptors_only (transaction_of state t)

abbrev pub pass_of : Followed → Pass
pass_of p = record { stale = p.stale; offsets = p.offsets; grants = p.grants }

abbrev pub FollowedOne : List ℕ → ℕ → ℕ → ℕ → Followed → Followed → Type 0
FollowedOne state octet shut t p r = pass_of r
    ≡ follow_one (λ u. octet) (contains shut) (descriptors_in state) t (pass_of p)

unfoldable pub grants_following : List ℕ → List ℕ → ℕ → List ℕ → ℕ
grants_following state table shut o =
    (follow_all (row table) (contains shut) (descriptors_in state) o
    (record { stale = 0; offsets = (store_of state).offsets; grants = 0 })).grants

-- The short way where nobody waits.
unfoldable pub grants_by_table : List ℕ → OrderTable → List ℕ → ℕ
grants_by_table state a o = cond a.placed (grants_passing a.table a.closed o)
    (grants_following state a.table a.closed o)

-- ---- the answer

-- After the first n numbers of an array of eight there are zeros.
abbrev pub ZerosAfter : ℕ → List ℕ → Type 0
ZerosAfter n xs = drop n xs ≡ replicate (transaction_count - n) 0

-- The best of those tried of a list of n.
pub record BestIn (grants_in : List ℕ → ℕ) (tried : ℕ) (ts : List ℕ) (n : ℕ) (r : BestFound) : Type 0 where
  pub order : take n r.order ≡ (best_tried grants_in tried ts).order
  pub grants : r.grants ≡ (best_tried grants_in tried ts).grants
  pub zeros : ZerosAfter n r.order

-- The reply of the rules, on any files, logs and undo buffer that go with it.
abbrev pub AnswersOrder : List ℕ → List ℕ → List ℕ → ℕ → ℕ → Best → Type 0
AnswersOrder state marks ts minute budget r =
    (files logs undo : List ℕ) → let m = machine_of state files logs marks undo in
    Asking m ts minute budget
    → (said r.outcome ≡ (order_reply (asked_of minute m) ts minute budget).answer)
    × (order_in (length ts) r ≡ (order_reply (asked_of minute m) ts minute budget).buffer)
