-- F-14's call on states and buffers is that of the abstract store.
use mathlib.Core.{Bool.{Bool, true, false, cond, ◌&&◌}, List.{List, []}, Path.{◌≡◌, refl, sym, ap, ◌∙◌, fun_ext, subst}}
use lib.Dec.{leb}
use Prim.Native.Nat.{ℕ}
use Rattle.limits.specs.Limits.{last_transaction}
use Rattle.state.specs.StoreMeaning.{transaction}
use Rattle.spec.specs.{Messages.best_order, Machine.{Machine, file_of}, Calls.{passing, commit_call, asked_of, order_turn, call}}
use Rattle.spec.proofs.Abstract.AbstractStore.{vacant, occupied, is_occupied, Abstract, stale_seat, writes_seat}
use Rattle.spec.proofs.Abstract.AbstractStore.{abstract_commit_call, abstract_asked, abstract_best_order, abstract_call}
use Rattle.spec.proofs.Abstract.OrderReplies.{grants-same, Agreed, reply-same}
use Rattle.spec.proofs.Refinement.{Relation.{open_txn_in, seat, view, Sound}, Admissions.{TurnsAgree, first-is}}
use Rattle.spec.proofs.Refinement.EndTurns.{commit-turns-agree}

pub seat-open : (m : Machine) (t : ℕ) → leb t last_transaction && (transaction m.store t).begun ≡ true
    → seat m t ≡ occupied (open_txn_in m t)
seat-open m t e = unfold seat in rw e

open_is : (m : Machine) (t : ℕ) → leb t last_transaction ≡ true → (transaction m.store t).begun ≡ is_occupied (seat m t)
unfolding seat
open_is m t e = rw e (pick (transaction m.store t).begun)
  where
    pick : (b : Bool) → b ≡ is_occupied (cond b (occupied (open_txn_in m t)) vacant)
    pick true = unfold is_occupied in refl
    pick false = unfold is_occupied in refl

-- The Commits of an order.
module _ (minute : ℕ) where
  abbrev Stands : Machine → Abstract → Type 0
  Stands m s = Sound m × (view m ≡ s)

  pub commit-agrees : (t : ℕ) (m : Machine) → Sound m → TurnsAgree (commit_call t minute m) (abstract_commit_call t minute (view m))
  commit-agrees t m sound = unfold call abstract_call in commit-turns-agree m t sound minute

  step : (t : ℕ) (m : Machine) (s : Abstract) → Stands m s → ((commit_call t minute m).reply ≡ (abstract_commit_call t minute
      s).reply) × Stands (commit_call t minute m).after (abstract_commit_call t minute s).after
  step t m s h = let a = commit-agrees t m h.0 in (
    a.0 ∙ ap (λ (x : Abstract). (abstract_commit_call t minute x).reply) h.1,
    (a.2, a.1 ∙ ap (λ (x : Abstract). (abstract_commit_call t minute x).after) h.1),
  )

  pub order-grants : (m : Machine) → Sound m → (o : List ℕ) → (asked_of minute m).grants o ≡ (abstract_asked minute (view m)).grants o
  order-grants m sound o = unfold asked_of abstract_asked in
      grants-same (λ t n. (commit_call t minute n).reply) (λ t n. (commit_call t minute n).after) (λ t x. (abstract_commit_call t
      minute x).reply) (λ t x. (abstract_commit_call t minute x).after) Stands step o m (view m) (sound, refl)

  pub agreed : (m : Machine) → Sound m → Agreed (asked_of minute m) (abstract_asked minute (view m))
  agreed m sound = unfold asked_of abstract_asked view in record {
    is_open = open_is m;
    not_ready = λ t e. rw (seat-open m t e) (unfold stale_seat writes_seat open_txn_in in refl);
    has_closed = λ t e. rw (seat-open m t e) (unfold writes_seat open_txn_in file_of in refl);
    grants = fun_ext (order-grants m sound);
  }

  pub order-turn : (m : Machine) → Sound m → (ts : List ℕ) (budget : ℕ)
      → TurnsAgree (call (best_order ts minute budget) m) (abstract_call (best_order ts minute budget) (view m))
  unfolding call abstract_call abstract_best_order order_turn passing
  order-turn m sound ts budget = subst (λ (n : ℕ). TurnsAgree (passing n [] m (order_turn ts minute budget m))
      (abstract_best_order ts minute budget (view m))) (sym (first-is m 0 sound))
      (reply-same (asked_of minute m) (abstract_asked minute (view m)) (agreed m sound) ts budget minute, refl, sound)
