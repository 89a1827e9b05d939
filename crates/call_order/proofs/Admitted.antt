-- What the code reads off the state of a list is what the rules say of it; and what an admitted list tells.
use mathlib.Core.{Bool.{Bool, true, false, not, ◌&&◌, ◌||◌, true≢false}, List.{List, [], ◌∷◌}}
use mathlib.Core.Path.{◌≡◌, refl, sym, ap, ap₂, ◌∙◌, subst}
use borrow.Author.Tests.{leb-true}
use lib.{Dec.leb, ListN.{length, get_or}}
use native.Mathlib.Omega.{arith}
use Prim.Native.Nat.{ℕ, ◌+◌, ◌≤◌, ◌<◌}
use Rattle.limits.specs.Limits.{file_bytes, transaction_count, last_transaction, log_bytes, most_orders}
use Rattle.windows.specs.Windows.{minute_in}
use Rattle.standings.specs.declared.{Place.{Place, TheVariants.{At, After}}, Standing.Standing}
use Rattle.state.specs.{declared.Transaction.Transaction, StoreMeaning.{transaction, standing_at}, Journal.write_record_at}
use Rattle.state.{specs.Layout.{transaction_of, store_of, journal_of}, proofs.LayoutLaws.transaction-of}
use Rattle.admission.specs.{FirstRefusal.{some_below, unless}, Admission.{place_in, lengths_before, store_in}}
use Rattle.admission.proofs.Laws.{and_left, and_right, some-found, unless-zero, TransactionInRange, in-range, record-in}
use Rattle.spec_orders.specs.Orders.{all_in, is_list}
use Rattle.spec.specs.{Places.no_place, Commits.lands_at, OrderReply.{has_unplaced, order_refusal}, Machine.{write_at, txn_of}}
use Rattle.spec.specs.{Calls.asked_of, Promises.machine_of}
use Rattle.refinement.proofs.Decoded.{some-tabulate}
use Rattle.commit_apply.specs.Apply.{RecordLands, CanLandIn}
use Rattle.commit_windows.{specs.WindowCheck.OpenIn, proofs.ClosingLaws.{few-closing, closing-descriptor-in}}
use Rattle.call_order.specs.OrderTable.{unplaced_in, is_ready, AllOpen, AllLand, list_refusal}
use Rattle.call_order.proofs.ListLaws.{all-at, small_at}

-- ---- tests that agree on the members of a list

module _ (ok p q : ℕ → Bool) (h : (t : ℕ) → ok t ≡ true → p t ≡ q t) where
  pub all_same : (ts : List ℕ) → all_in ok ts ≡ true → all_in p ts ≡ all_in q ts
  unfolding all_in
  all_same [] e = refl
  all_same (t ∷ ts) e = ap₂ ◌&&◌ (h t (and_left (ok t) _ e)) (all_same ts (and_right (ok t) _ e))

-- ---- the refusals

module _ (state files logs marks undo : List ℕ) (t : ℕ) (small : leb t last_transaction ≡ true) where
  pub own : transaction (store_of state) t ≡ transaction_of state t
  own = let l = leb-true t last_transaction small in transaction-of state t (omega arith)

  unplaced-is : has_unplaced (txn_of (store_of state) (journal_of state) logs t).writes ≡ unplaced_in state t
  unfolding has_unplaced txn_of unplaced_in write_at
  unplaced-is = some-tabulate (λ w. no_place w.place) (write_at (journal_of state) logs t) (λ k. no_place
      (write_record_at (journal_of state) t k).place) (transaction (store_of state) t).used.records (λ k l. refl) ∙ ap
      (λ (x : Transaction). some_below (λ k. no_place (write_record_at (journal_of state) t k).place) x.used.records) own

  pub open_is : (transaction_of state t).begun ≡ (transaction (store_of state) t).begun
  open_is = ap (λ (x : Transaction). x.begun) (sym own)

  pub ready-is : (minute : ℕ) → is_ready state t ≡ not ((asked_of minute (machine_of state files logs marks undo)).not_ready t)
  unfolding is_ready asked_of
  ready-is minute = ap₂ (λ (a b : Bool). not (a || b)) (ap (λ (x : Transaction). x.stale) (sym own)) (sym unplaced-is)

chain : (b₁ b₂ c d b₄ e f b₆ : Bool) → (b₂ ≡ true → c ≡ d) → (b₂ ≡ true → e ≡ f)
    → unless b₁ 26 (unless b₂ 3 (unless c 4 (unless b₄ 22 (unless e 25 (unless b₆ 27 0)))))
    ≡ unless b₁ 26 (unless b₂ 3 (unless d 4 (unless b₄ 22 (unless f 25 (unless b₆ 27 0)))))
unfolding unless
chain false b₂ c d b₄ e f b₆ g h = refl
chain true false c d b₄ e f b₆ g h = refl
chain true true c d b₄ e f b₆ g h =
    ap₂ (λ (x y : Bool). unless x 4 (unless b₄ 22 (unless y 25 (unless b₆ 27 0)))) (g refl) (h refl)

pub refusal_is : (state files logs marks undo ts : List ℕ) (minute budget : ℕ)
    → list_refusal state ts minute budget ≡ order_refusal (asked_of minute (machine_of state files logs marks undo)) ts minute budget
refusal_is state files logs marks undo ts minute budget = unfold list_refusal order_refusal asked_of in
    chain (is_list ts) (all_in (λ t. leb t last_transaction) ts) _ _ (minute_in minute) _ _ (leb 1 budget && leb budget
    most_orders) (λ e. all_same (λ t. leb t last_transaction) _ _ (open_is state files logs marks undo) ts e)
    (λ e. all_same (λ t. leb t last_transaction) _ _ (λ t s. ready-is state files logs marks undo t s minute) ts e)

-- ---- what an admitted list tells

pub record ListIn (state ts : List ℕ) (minute budget : ℕ) : Type 0 where
  pub list : is_list ts ≡ true
  pub small : all_in (λ t. leb t last_transaction) ts ≡ true
  pub begun : all_in (λ t. (transaction_of state t).begun) ts ≡ true
  pub daily : minute_in minute ≡ true
  pub ready : all_in (is_ready state) ts ≡ true
  pub affordable : leb 1 budget && leb budget most_orders ≡ true

pub list-in : (state ts : List ℕ) (minute budget : ℕ) → list_refusal state ts minute budget ≡ 0 → ListIn state ts minute budget
list-in state ts minute budget e = unfold list_refusal in let b = unless-zero (is_list ts) 26 _ (omega arith) e in
    let c = unless-zero (all_in (λ t. leb t last_transaction) ts) 3 _ (omega arith) b.1 in
    let d = unless-zero (all_in (λ t. (transaction_of state t).begun) ts) 4 _ (omega arith) c.1 in
    let f = unless-zero (minute_in minute) 22 _ (omega arith) d.1 in
    let g = unless-zero (all_in (is_ready state) ts) 25 _ (omega arith) f.1 in
    let k = unless-zero (leb 1 budget && leb budget most_orders) 27 0 (omega arith) g.1 in
    record { list = b.0; small = c.0; begun = d.0; daily = f.0; ready = g.0; affordable = k.0 }

pub few-listed : (ts : List ℕ) → is_list ts ≡ true → length ts ≤ transaction_count
unfolding is_list
few-listed ts e = leb-true (length ts) 8 (and_right (leb 1 (length ts)) _ (and_left (leb 1 (length ts) && leb (length ts) 8) _ e))

-- ---- the writes of a member land

placed-in : (c : ℕ) (z : Standing) (p : Place) (n : ℕ) → no_place p ≡ false → place_in z p n ≡ true → lands_at c p + n ≤ file_bytes
unfolding no_place place_in lands_at
placed-in c z (At p) n e r = leb-true (p + n) file_bytes r
placed-in c z (After a) n e r = absurd (true≢false e)

not_some : (p : ℕ → Bool) (n k : ℕ) → some_below p n ≡ false → k < n → p k ≡ false
not_some p n k e l = pick (p k) refl
  where
    pick : (b : Bool) → p k ≡ b → b ≡ false
    pick true q = absurd (true≢false (sym (some-found p n k l q) ∙ e))
    pick false q = refl

ready-placed : (state : List ℕ) (t : ℕ) → is_ready state t ≡ true → unplaced_in state t ≡ false
unfolding is_ready
ready-placed state t e = pick (transaction_of state t).stale (unplaced_in state t) e
  where
    pick : (a b : Bool) → not (a || b) ≡ true → b ≡ false
    pick true b e = absurd (true≢false (sym e))
    pick false true e = absurd (true≢false (sym e))
    pick false false e = refl

module _ (state : List ℕ) (t : ℕ) (o : OpenIn state t) (placed : unplaced_in state t ≡ false) where
  same : transaction (store_of state) t ≡ transaction_of state t
  same = transaction-of state t o.small

  counts : (transaction (store_of state) t).used.records ≡ (transaction_of state t).used.records
  counts = ap (λ (x : Transaction). x.used.records) same

  in-ranges : TransactionInRange (transaction (store_of state) t) (journal_of state) t
  in-ranges = (in-range (store_of state) (journal_of state) o.ranges).transactions t o.small
      (ap (λ (x : Transaction). x.begun) same ∙ o.begun)

  record-lands : (k : ℕ) → k < (transaction_of state t).used.records → RecordLands (store_of state).offsets (journal_of state) t k
  unfolding unplaced_in
  record-lands k l = let w = write_record_at (journal_of state) t k in let x = transaction (store_of state) t in
      let r = record-in x w (in-ranges.writes k (omega (arith, counts))) in record {
        descriptor = closing-descriptor-in state t o k l;
        place = placed-in (get_or (store_of state).offsets w.descriptor 0) (standing_at x w.descriptor) w.place
            w.length (not_some (λ j. no_place (write_record_at (journal_of state) t j).place)
            (transaction_of state t).used.records k placed l) r.place;
      }

  pub lands-placed : CanLandIn state t (transaction_of state t).used.records
  lands-placed = let r = in-ranges in record {
    small = o.small;
    records = few-closing state t o;
    bytes = subst (λ (n : ℕ). lengths_before (journal_of state) t n ≤ log_bytes) counts (omega (arith, r.total, r.bytes));
    numbers = λ d l. (in-range (store_of state) (journal_of state) o.ranges).files d l;
    inside = record-lands;
  }

module _ (state ts : List ℕ) (minute budget : ℕ) (ranges : store_in (store_of state) (journal_of state) ≡ true)
    (a : ListIn state ts minute budget) where
  pub open-all : AllOpen state ts
  open-all k l = record {
    ranges = ranges;
    small = small_at ts k a.small l;
    begun = all-at (λ t. (transaction_of state t).begun) ts k a.begun l;
  }

  pub land-all : AllLand state ts
  land-all k l = lands-placed state (get_or ts k 0) (open-all k l)
      (ready-placed state (get_or ts k 0) (all-at (is_ready state) ts k a.ready l))
