-- The grants of an order, as the code has them, are those of the rules.
use mathlib.Core.{Bool.{Bool, true, false, cond, not, ◌&&◌, ◌||◌}, List.{List, [], ◌∷◌}, Path.{◌≡◌, refl, sym, ap, ap₂, ◌∙◌}}
use borrow.Author.Tests.{leb-true, eqb-true, eq-eqb}
use lib.{Bits.bit_or, Dec.{leb, eqb}, ListN.get_or}
use native.Mathlib.Omega.{arith}
use Prim.Native.Nat.{ℕ, ◌+◌, ◌<◌}
use Rattle.limits.specs.Limits.{transaction_count, last_transaction}
use Rattle.buffers.{specs.{Bits.bits_of, Marks.contains}, proofs.SetLaws.{contains-bits, contains-or}}
use Rattle.standings.specs.Table.{may_wait}
use Rattle.state.specs.{declared.Transaction.Transaction, StoreMeaning.{transaction, standing_at}, Layout.{transaction_of, store_of}}
use Rattle.admission.{specs.FirstRefusal.some_below, proofs.Laws.{and_left, and_right}}
use Rattle.spec_orders.{specs.Orders.{all_in, count_in, Arranges}, proofs.Distinct.all-arranged}
use Rattle.spec.specs.{Transactions.Txn, Commits.sets_offset, Machine.{Machine, txn_of}, Calls.asked_of, Promises.machine_of}
use Rattle.spec.proofs.Abstract.OrderReplies.{all_both}
use Rattle.commit_apply.specs.Apply.{descriptors_only}
use Rattle.commit_conflicts.specs.Conflicts.{stale_by}
use Rattle.commit_windows.specs.WindowCheck.{has_byte_for_closed}
use Rattle.call_order.specs.OrderStatements.{txn_in, closed_in, Pass, fits_at, offsets_after, follow_one, follow_all, followed}
use Rattle.call_order.specs.OrderStatements.{waits, Short, pass_one, pass_all, Asking}
use Rattle.call_order.specs.OrderTable.{waits_in, row, Tabled, grants_passing, descriptors_in, grants_following, grants_by_table}
use Rattle.call_order.proofs.{ListLaws.all-by, Admitted.{all_same, own, ListIn}, TableLaw.table-law}

-- ---- passes that agree on the members of an order

module _ (ok : ℕ → Bool) (row₁ row₂ : ℕ → ℕ) (rows : (t : ℕ) → ok t ≡ true → row₁ t ≡ row₂ t) where
  -- Two states of the short pass that agree on who is skipped.
  record Like (p q : Short) : Type 0 where
    grants : p.grants ≡ q.grants
    skipped : (u : ℕ) → ok u ≡ true → contains p.skipped u ≡ contains q.skipped u

  like_one : (t : ℕ) (p q : Short) → ok t ≡ true → Like p q → Like (pass_one row₁ t p) (pass_one row₂ t q)
  unfolding pass_one
  like_one t p q e a = rw (a.skipped t e) (pick (contains q.skipped t))
    where
      pick : (b : Bool) → Like (cond b p (record { skipped = bit_or p.skipped (row₁ t); grants = p.grants + 1 }))
          (cond b q (record { skipped = bit_or q.skipped (row₂ t); grants = q.grants + 1 }))
      pick true = a
      pick false = record {
        grants = ap (λ (n : ℕ). n + 1) a.grants;
        skipped = λ u k. contains-or p.skipped (row₁ t) u ∙ ap₂ (λ (b : Bool) (n : ℕ). b || contains n u)
            (a.skipped u k) (rows t e) ∙ sym (contains-or q.skipped (row₂ t) u);
      }

  pass-like : (o : List ℕ) (p q : Short) → all_in ok o ≡ true → Like p q → (pass_all row₁ o p).grants ≡ (pass_all row₂ o q).grants
  unfolding pass_all all_in
  pass-like [] p q e a = a.grants
  pass-like (t ∷ o) p q e a =
      pass-like o (pass_one row₁ t p) (pass_one row₂ t q) (and_right (ok t) _ e) (like_one t p q (and_left (ok t) _ e) a)

  module _ (closed₁ closed₂ : ℕ → Bool) (txn₁ txn₂ : ℕ → Txn) (shuts : (t : ℕ) → ok t ≡ true → closed₁ t ≡ closed₂ t)
      (fit : (t : ℕ) → ok t ≡ true → (os : List ℕ) → fits_at (txn₁ t) os ≡ fits_at (txn₂ t) os)
      (set : (t : ℕ) → ok t ≡ true → (os : List ℕ) → offsets_after (txn₁ t) os ≡ offsets_after (txn₂ t) os) where
    follow-one-same : (t : ℕ) (p : Pass) → ok t ≡ true → follow_one row₁ closed₁ txn₁ t p ≡ follow_one row₂ closed₂ txn₂ t p
    follow-one-same t p e = unfold follow_one in rw (rows t e, shuts t e, fit t e p.offsets, set t e p.offsets) refl

    follow-same : (o : List ℕ) (p : Pass) → all_in ok o ≡ true → follow_all row₁ closed₁ txn₁ o p ≡ follow_all row₂ closed₂ txn₂ o p
    unfolding follow_all all_in
    follow-same [] p e = refl
    follow-same (t ∷ o) p e = ap (follow_all row₁ closed₁ txn₁ o) (follow-one-same t p (and_left (ok t) _ e))
        ∙ follow-same o (follow_one row₂ closed₂ txn₂ t p) (and_right (ok t) _ e)

pub count_same : (ok p q : ℕ → Bool) → ((t : ℕ) → ok t ≡ true → p t ≡ q t) → (ts : List ℕ) → all_in ok ts ≡ true
    → count_in p ts ≡ count_in q ts
unfolding count_in all_in
count_same ok p q h [] e = refl
count_same ok p q h (t ∷ ts) e =
    ap₂ (λ (b : Bool) (n : ℕ). cond b 1 0 + n) (h t (and_left (ok t) _ e)) (count_same ok p q h ts (and_right (ok t) _ e))

-- ---- on a state, off what the code knows

module _ (state files logs marks undo ts : List ℕ) (minute budget : ℕ)
    (a : Asking (machine_of state files logs marks undo) ts minute budget) (listed : ListIn state ts minute budget)
    (table : List ℕ) (tabled : Tabled (machine_of state files logs marks undo) ts table) (shut : ℕ) (shut_is : shut ≡ bits_of
    (λ t. (transaction_of state t).begun && has_byte_for_closed state logs t minute) transaction_count) where
  abbrev m : Machine
  m = machine_of state files logs marks undo

  -- What is known of a member.
  member : ℕ → Bool
  member t = leb t last_transaction && ((transaction_of state t).begun && eqb (row table t) (stale_by m t))

  members : all_in member ts ≡ true
  unfolding member
  members = all_both (λ t. leb t last_transaction) _ ts listed.small (all_both (λ t. (transaction_of state t).begun) _ ts
      listed.begun (all-by _ ts (λ k l. eq-eqb (row table (get_or ts k 0)) _ (tabled k l))))

  module _ (t : ℕ) (e : member t ≡ true) where
    small : leb t last_transaction ≡ true
    small = unfold member in and_left (leb t last_transaction) _ e

    begun : (transaction_of state t).begun ≡ true
    unfolding member
    begun = and_left (transaction_of state t).begun _ (and_right (leb t last_transaction) _ e)

    row_is : row table t ≡ stale_by m t
    unfolding member
    row_is = eqb-true (row table t) (stale_by m t)
        (and_right (transaction_of state t).begun _ (and_right (leb t last_transaction) _ e))

    below-eight : t < transaction_count
    below-eight = let l = leb-true t last_transaction small in omega arith

    own_is : transaction (store_of state) t ≡ transaction_of state t
    own_is = own state files logs marks undo t small

    closed_is : contains shut t ≡ (asked_of minute m).has_closed t
    unfolding asked_of
    closed_is = ap (λ (n : ℕ). contains n t) shut_is ∙ contains-bits (λ u. (transaction_of state u).begun && has_byte_for_closed
        state logs u minute) 8 t below-eight ∙ ap (λ (b : Bool). b && has_byte_for_closed state logs t minute) begun

    fit_is : (os : List ℕ) → fits_at (descriptors_in state t) os ≡ fits_at (txn_in m t) os
    fit_is os = unfold fits_at txn_of in ap (λ (x : Transaction). fits_at (descriptors_only x) os) (sym own_is)

    set_is : (os : List ℕ) → offsets_after (descriptors_in state t) os ≡ offsets_after (txn_in m t) os
    unfolding offsets_after sets_offset txn_of
    set_is os = ap (λ (x : Transaction). offsets_after (descriptors_only x) os) (sym own_is)

    waits-is : not (waits_in state t) ≡ not (waits (txn_in m t))
    unfolding waits_in waits txn_of
    waits-is = ap (λ (x : Transaction). not (some_below (λ d. may_wait (standing_at x d)) 16)) (sym own_is)

  -- How many have no byte for a closed file.
  pub count-is : count_in (λ t. not (contains shut t)) ts ≡ count_in (λ t. not ((asked_of minute m).has_closed t)) ts
  count-is = count_same member _ _ (λ t e. ap not (closed_is t e)) ts members

  module _ (o : List ℕ) (h : Arranges ts o) where
    all-members : all_in member o ≡ true
    all-members = all-arranged member ts o h members

    passing-is : all_in (λ t. not (waits_in state t)) ts ≡ true → grants_passing table shut o ≡ (asked_of minute m).grants o
    unfolding grants_passing closed_in
    passing-is w = pass-like member (row table) (stale_by m) row_is o _ _ all-members (record {
      grants = refl;
      skipped = λ u e. closed_is u e ∙ sym (contains-bits (asked_of minute m).has_closed 8 u (below-eight u e));
    }) ∙ sym ((table-law state files logs marks undo ts minute budget a).short
        (sym (all_same member (λ t. not (waits_in state t)) (λ t. not (waits (txn_in m t))) waits-is ts members) ∙ w) o h)

    following-is : grants_following state table shut o ≡ (asked_of minute m).grants o
    unfolding grants_following followed
    following-is = ap (λ (p : Pass). p.grants) (follow-same member (row table) (stale_by m) row_is (contains shut)
        (asked_of minute m).has_closed (descriptors_in state) (txn_in m) closed_is fit_is set_is o _ all-members)
        ∙ sym ((table-law state files logs marks undo ts minute budget a).grants o h)

    pub grants-are : (placed : Bool) → placed ≡ all_in (λ t. not (waits_in state t)) ts
        → grants_by_table state (record { table = table; closed = shut; placed = placed }) o ≡ (asked_of minute m).grants o
    unfolding grants_by_table
    grants-are true e = passing-is (sym e)
    grants-are false e = following-is
