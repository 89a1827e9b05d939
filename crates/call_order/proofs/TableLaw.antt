-- The table's law, on every state and buffers.
use mathlib.Core.{Bool.{Bool, true, false, cond, not, ◌&&◌, ◌||◌, false≢true}, List.{List, [], ◌∷◌, ◌++◌}, Logic.◌↔◌}
use mathlib.Core.Path.{◌≡◌, refl, sym, ap, ◌∙◌, subst⁻¹}
use borrow.Author.Tests.{leb-true}
use lib.{Dec.{leb, eqb}, ListN.length}
use native.Mathlib.Omega.{arith}
use Prim.Native.Nat.{ℕ, zero, suc, ◌<◌}
use Rattle.limits.specs.Limits.{transaction_count, last_transaction}
use Rattle.buffers.{proofs.{BelowLaws.and_both, SetLaws.{bits_none, contains-bits}}, specs.Marks.contains}
use Rattle.windows.specs.Windows.{minute_in, Windows}
use Rattle.spec.specs.{Items.Values, Transactions.put, Commits.settings, Messages.{commit, Reply}}
use Rattle.spec.specs.{OrderReply.{has_unplaced, order_refusal}, Machine.{Machine, sizes, file_of, values}}
use Rattle.spec.specs.Calls.{made_stale, settings_of, asked_of, refuse_turn, passing, order_turn, call, calls_after}
use Rattle.spec.{specs.Promises.machine_of, proofs.Abstract.Lists.{or_left_false, or_right_false}}
use Rattle.spec.proofs.Abstract.AbstractStore.{vacant, occupied, hit, newly_stale, Abstract, abstract_asked, abstract_commit_call}
use Rattle.spec.proofs.{Abstract.AbstractStore.abstract_call, Refinement.Relation.{open_txn_in, seat, back_in, view, Sound}}
use Rattle.spec.{specs.BestOrder.{commits_in, BestOrderHolds}, proofs.Theorems.{Answers.answer-not-refused, BestOrder.best-order}}
use Rattle.spec.proofs.{Theorems.Serializability.{call-turn, calls-agree}, Abstract.OrderReplies.{all_both, Passed, passed}}
use Rattle.spec.proofs.Refinement.{Decode.decoded-in, Conflicts.made-stale, OrderTurn.{seat-open, order-grants}}
use Rattle.state.{specs.{StoreMeaning.{transaction, window_at}, Layout.{store_of, journal_of}}, proofs.LayoutLaws.length-journal}
use Rattle.state.specs.Outcomes.{ordered, refused}
use Rattle.admission.{specs.Admission.{standing_in, first_tests}, proofs.Laws.{and_left, and_right, first-zero, in-range}}
use Rattle.spec_orders.{specs.Orders.{all_in, is_list, distinct}, proofs.Distinct.{all-arranged, distinct-arranged, in-test}}
use Rattle.refinement.proofs.Shapes.{shaped}
use Rattle.commit_conflicts.specs.Conflicts.{stale_by}
use Rattle.call_order.specs.OrderStatements.{txn_in, closed_in, Pass, followed, waits, pass_all, TableHolds, TableLaw}
use Rattle.call_order.specs.Answer.{BestOrderOfAny}
use Rattle.call_order.proofs.{Hits.flagged, ShortWay.short-way, Along.{Inv, grants-followed, stale-followed}}

not-true : (b : Bool) → not b ≡ true → b ≡ false
not-true true e = absurd (false≢true e)
not-true false e = refl

none_in : (u : ℕ) → u < transaction_count → contains 0 u ≡ false
none_in u l = sym (ap (λ (n : ℕ). contains n u) (bits_none (λ k. false) 8 (λ k. refl))) ∙ contains-bits (λ k. false) 8 u l

-- What the list was tested for, all at once.
pub ready : ℕ → Machine → ℕ → Bool
ready minute m t = leb t last_transaction && ((asked_of minute m).is_open t && not ((asked_of minute m).not_ready t))

module _ (m : Machine) (sound : Sound m) (minute : ℕ) (daily : minute_in minute ≡ true) where
  abbrev F : ℕ → ℕ
  F = file_of m.store

  abbrev W : Windows
  W = window_at m.store

  abbrev v : Values
  v = values m.store m.files

  start : Pass
  start = record { stale = 0; offsets = m.store.offsets; grants = 0 }

  small : (t : ℕ) → ready minute m t ≡ true → leb t last_transaction ≡ true
  small t e = unfold ready in and_left (leb t last_transaction) _ e

  -- Of a transaction that is ready.
  module _ (t : ℕ) (e : ready minute m t ≡ true) where
    opened : leb t last_transaction && (transaction m.store t).begun ≡ true
    unfolding ready asked_of
    opened = and_both (leb t last_transaction) (transaction m.store t).begun (and_left (leb t last_transaction) _ e)
        (and_left (transaction m.store t).begun _ (and_right (leb t last_transaction) _ e))

    neither : (transaction m.store t).stale || has_unplaced (txn_in m t).writes ≡ false
    unfolding ready asked_of
    neither = not-true _ (and_right (transaction m.store t).begun _ (and_right (leb t last_transaction) _ e))

    below-eight : t < transaction_count
    below-eight = let l = leb-true t last_transaction (small t e) in omega arith

    seat-is : seat m t ≡ occupied (open_txn_in m t)
    seat-is = seat-open m t opened

  placed : (t : ℕ) → ready minute m t ≡ true → has_unplaced (open_txn_in m t).txn.writes ≡ false
  placed t e = unfold open_txn_in in or_right_false (transaction m.store t).stale _ (neither t e)

  fresh : (t : ℕ) → ready minute m t ≡ true → (open_txn_in m t).stale ≡ false
  unfolding open_txn_in
  fresh t e = or_left_false (transaction m.store t).stale _ (neither t e)

  rows : (t u : ℕ) → ready minute m u ≡ true → eqb u t ≡ false
      → contains (stale_by m t) u ≡ hit (settings F v (open_txn_in m t).txn) (open_txn_in m u)
  rows t u e d = unfold stale_by open_txn_in put newly_stale in let ss = settings_of m t in
      contains-bits (made_stale t ss m) 8 u (below-eight u e) ∙ made-stale m t ss u (below-eight u e)
      ∙ ap (λ (a : Bool). newly_stale ss (cond a vacant (seat m u))) d ∙ ap (newly_stale ss) (seat-is u e)
      ∙ ap (λ (a : Bool). not a && hit ss (open_txn_in m u)) (fresh u e)

  begins : (o : List ℕ) → all_in (ready minute m) o ≡ true
      → Inv F W minute v (open_txn_in m) (stale_by m) (ready minute m) daily small placed rows o v (seat m) start
  unfolding start values
  begins o e = record {
    offsets = λ d l. refl;
    seats = λ u k. let r = in-test (ready minute m) u o e k in
        seat-is u r ∙ ap (λ (a : Bool). occupied (flagged a (open_txn_in m u))) (fresh u r ∙ sym (none_in u (below-eight u r)));
    lengths = λ u f k d s. refl;
  }

  grants-table : (o : List ℕ) → distinct o ≡ true → all_in (ready minute m) o ≡ true
      → (asked_of minute m).grants o ≡ (followed minute m o).grants
  unfolding followed start view abstract_asked asked_of open_txn_in
  grants-table o d e = let a = order-grants minute m sound o in
      let g = grants-followed F W minute v (open_txn_in m) (stale_by m) (ready minute m) daily small placed rows o v (back_in m)
      (seat m) start d e (begins o e) in omega arith

  stale-table : (xs ys : List ℕ) (j : ℕ) → distinct (xs ++ (j ∷ ys)) ≡ true → all_in (ready minute m) (xs ++ (j ∷ ys)) ≡ true
      → ((call (commit j minute) (calls_after (commits_in xs minute) m)).reply.answer ≡ refused 13)
      ↔ (contains (followed minute m xs).stale j ≡ true)
  unfolding followed start view asked_of open_txn_in abstract_call
  stale-table xs ys j d e = let o = xs ++ (j ∷ ys) in let cs = commits_in xs minute in let a = calls-agree cs m sound in
      let r = (call-turn (commit j minute) (calls_after cs m) a.sound).0
      ∙ ap (λ (s : Abstract). (abstract_commit_call j minute s).reply) a.state in
      subst⁻¹ (λ (x : Reply). (x.answer ≡ refused 13) ↔ (contains (followed minute m xs).stale j ≡ true)) r
      (stale-followed F W minute v (open_txn_in m) (stale_by m) (ready minute m) daily small placed rows xs ys j v (back_in m)
      (seat m) start d e (begins o e))

  -- Where none of them stands Deferred or Moved.
  free : ℕ → Bool
  free t = ready minute m t && not (waits (txn_in m t))

  ranged : (t : ℕ) → ready minute m t ≡ true → (d : ℕ) → standing_in ((txn_in m t).standing d) ≡ true
  ranged t e = let l = below-eight t e in
      let r = (in-range m.store m.journal sound.in_range).transactions t l
      (and_right (leb t last_transaction) _ (opened t e)) in
      (decoded-in m.store m.journal m.logs t sound.logs l r (sound.shaped.descriptors t l)).standings

  short-table : (o : List ℕ) → all_in free o ≡ true
      → (followed minute m o).grants ≡ (pass_all (stale_by m) o (record { skipped = closed_in minute m; grants = 0 })).grants
  unfolding followed free closed_in
  short-table o e = short-way (stale_by m) (asked_of minute m).has_closed (txn_in m) free
      (λ t k. below-eight t (and_left (ready minute m t) _ k)) (λ t k. not-true _ (and_right (ready minute m t) _ k))
      (λ t k. ranged t (and_left (ready minute m t) _ k)) o _ _ e (record {
        grants = refl;
        skipped = λ u l. contains-bits (asked_of minute m).has_closed 8 u l
            ∙ ap (λ (b : Bool). b || (asked_of minute m).has_closed u) (sym (none_in u l));
        low = (in-range m.store m.journal sound.in_range).offsets;
      })

-- ---- on every state

-- One that meets neither 1 nor 2.
sound-preserved : (state files logs marks undo : List ℕ) → first_tests (sizes (machine_of state files logs marks undo))
    (store_of state) (journal_of state) 0 ≡ 0 → Sound (machine_of state files logs marks undo)
sound-preserved state files logs marks undo e = let m = machine_of state files logs marks undo in
    let a = first-zero (sizes m) m.store m.journal 0 e in record {
      shaped = shaped state;
      journal = length-journal state;
      files = a.0.files;
      logs = a.0.logs;
      marks = a.0.marks;
      undo = a.0.undo;
      in_range = a.1;
    }

all-ready : (m : Machine) (ts : List ℕ) (minute budget : ℕ) → Passed (asked_of minute m) ts minute budget
    → all_in (ready minute m) ts ≡ true
all-ready m ts minute budget a = unfold ready in
    all_both (λ t. leb t last_transaction) (λ t. (asked_of minute m).is_open t && not ((asked_of minute m).not_ready t)) ts
    a.numbers (all_both (asked_of minute m).is_open (λ t. not ((asked_of minute m).not_ready t)) ts a.is_open a.ready)

pub table-holds : (m : Machine) → Sound m → (ts : List ℕ) (minute budget : ℕ)
    → order_refusal (asked_of minute m) ts minute budget ≡ 0 → TableHolds m ts minute
table-holds m sound ts minute budget e = let a = passed (asked_of minute m) ts minute budget e in
    let r = all-ready m ts minute budget a in let d : distinct ts ≡ true = no-repeat ts a.list in record {
      grants = λ o h. grants-table m sound minute a.daily o (distinct-arranged ts o h d)
          (all-arranged (ready minute m) ts o h r);
      short = λ f o h. grants-table m sound minute a.daily o (distinct-arranged ts o h d)
          (all-arranged (ready minute m) ts o h r) ∙ short-table m sound minute a.daily o
          (all-arranged _ ts o h (unfold free in all_both (ready minute m) (λ t. not (waits (txn_in m t))) ts r f));
      stale = λ xs ys j h. stale-table m sound minute a.daily xs ys j (distinct-arranged ts (xs ++ (j ∷ ys)) h d)
          (all-arranged (ready minute m) ts (xs ++ (j ∷ ys)) h r);
    }
  where
    no-repeat : (ts : List ℕ) → is_list ts ≡ true → distinct ts ≡ true
    no-repeat ts e = and_right (leb 1 (length ts) && leb (length ts) 8) _ (unfold is_list in e)

pub table-law : TableLaw
table-law state files logs marks undo ts minute budget a = table-holds (machine_of state files logs marks undo)
    (sound-preserved state files logs marks undo a.admitted) ts minute budget a.passed

-- A state that meets 1 or 2 has no answer, and is left.
refused-holds : (m : Machine) (n : ℕ) → first_tests (sizes m) m.store m.journal 0 ≡ suc n → BestOrderHolds m
refused-holds m n z = unfold call passing refuse_turn in record {
  unchanged = λ ts minute budget. rw z refl;
  answered = λ ts minute budget g k r e. let f = sym (ap (λ (j : ℕ). (passing j [] m (order_turn ts minute budget
      m)).reply.answer) z) ∙ e in absurd (answer-not-refused (ordered g k r) (suc n) tt (sym f));
}

pub best-order-of-any : BestOrderOfAny
best-order-of-any state files logs marks undo = pick (first_tests (sizes m) m.store m.journal 0) refl
  where
    m : Machine
    m = machine_of state files logs marks undo

    pick : (n : ℕ) → first_tests (sizes m) m.store m.journal 0 ≡ n → BestOrderHolds m
    pick zero e = best-order m (sound-preserved state files logs marks undo e)
    pick (suc n) e = refused-holds m n e
