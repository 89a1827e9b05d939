-- Begin, Commit and Abort on states and buffers are those of the abstract store, and keep the store sound.
use mathlib.Core.{Bool.{Bool, true, false, cond, not, ◌&&◌}, List.{List, []}, Path.{◌≡◌, refl, sym, subst}}
use lib.Dec.{leb}
use Prim.Native.Nat.{ℕ, ◌<◌}
use native.Mathlib.Omega.{arith}
use borrow.Author.Tests.{leb-true}
use Rattle.limits.specs.Limits.{transaction_count, last_transaction}
use Rattle.windows.specs.Windows.{minute_in}
use Rattle.state.specs.StoreMeaning.{transaction, window_at, ended, begun}
use Rattle.admission.{specs.{Admission.admission_of_begin, FirstRefusal.unless}, proofs.Laws.in-range}
use Rattle.spec.specs.{Commits.{fits, commit_refusal}, Windows.for_closed, Messages.{begin, commit, abort, places}}
use Rattle.spec.specs.Machine.{Machine, file_of, values, txn_of}
use Rattle.spec.specs.Calls.{answer_with, refuse_turn, passing, begin_turn, abort_turn, commit_decided, settings_of, commit_turn}
use Rattle.spec.specs.Calls.{call, places_turn}
use Rattle.spec.proofs.Abstract.AbstractStore.{vacant, occupied, abstract_refuse, abstract_answer, abstract_begin}
use Rattle.spec.proofs.Abstract.AbstractStore.{abstract_committed, abstract_commit, abstract_abort, seated, abstract_call}
use Rattle.spec.proofs.{Abstract.AbstractStore.abstract_places, Refinement.Relation.{open_txn_in, seat, view, Sound, TxnIn}}
use Rattle.spec.proofs.Refinement.{Decode.decoded-in, Admissions.{TurnsAgree, shared-is, admitted-agrees}}
use Rattle.spec.proofs.Refinement.{OtherCommitted.{ended-bare, begun-bare}, Resets.{reset-sound, reset-view}}
use Rattle.spec.proofs.Refinement.Grants.{granted-sound, granted-view, granted-reply}

module _ (m : Machine) (t : ℕ) (sound : Sound m) where
  begins : (b c : Bool) → leb t last_transaction ≡ b
      → TurnsAgree (passing (unless b 3 (unless (not c) 5 0)) [] m (begin_turn t m))
      (cond b (abstract_begin t (cond (b && c) (occupied (open_txn_in m t)) vacant) (view m)) (abstract_refuse 3 [] (view m)))
  unfolding unless passing refuse_turn abstract_refuse abstract_begin begin_turn answer_with abstract_answer begun ended
  begins false c e = (refl, refl, sound)
  begins true true e = (refl, refl, sound)
  begins true false e = let l = leb-true t last_transaction e in
      (refl, reset-view t begun m (omega arith) begun-bare sound, reset-sound t begun m (omega arith) begun-bare sound)

  pub begin-turn : TurnsAgree (call (begin t) m) (abstract_call (begin t) (view m))
  unfolding call abstract_call seated view seat admission_of_begin
  begin-turn = subst (λ (n : ℕ). TurnsAgree (passing n [] m (begin_turn t m)) (abstract_call (begin t) (view m)))
      (sym (shared-is m t sound (unless (not (transaction m.store t).begun) 5 0)))
      (begins (leb t last_transaction) (transaction m.store t).begun refl)

  abort-next : t < transaction_count → TurnsAgree (abort_turn t m) (abstract_abort t (occupied (open_txn_in m t)) (view m))
  unfolding abort_turn answer_with abstract_abort abstract_answer ended
  abort-next l = (refl, reset-view t ended m l ended-bare sound, reset-sound t ended m l ended-bare sound)

  pub abort-turn : TurnsAgree (call (abort t) m) (abstract_call (abort t) (view m))
  unfolding call abstract_call abstract_abort
  abort-turn = admitted-agrees m t sound [] (abort_turn t m) (abstract_abort t) refl (λ l b. abort-next l)

  pub places-turn : (f : ℕ) (out : List ℕ) → TurnsAgree (call (places t f out) m) (abstract_call (places t f out) (view m))
  unfolding call abstract_call abstract_places
  places-turn f out = admitted-agrees m t sound out (places_turn t f out m) (abstract_places f out) refl (λ l b. listed)
    where
      listed : TurnsAgree (places_turn t f out m) (abstract_places f out (occupied (open_txn_in m t)) (view m))
      listed = unfold places_turn abstract_places open_txn_in view in (refl, refl, sound)

  -- 22, 13, 21, 12, or granted.
  decides : t < transaction_count → TxnIn (txn_of m.store m.journal m.logs t) → (daily p shut q : Bool)
      → fits (values m.store m.files) (txn_of m.store m.journal m.logs t) ≡ q
      → TurnsAgree (commit_decided t (txn_of m.store m.journal m.logs t) (settings_of m t) m (commit_refusal daily p shut q))
      (abstract_committed t (open_txn_in m t) (view m) (commit_refusal daily p shut q))
  unfolding commit_refusal commit_decided abstract_committed open_txn_in view ended
  decides l h false p shut q e = (refl, refl, sound)
  decides l h true true shut q e = (refl, reset-view t ended m l ended-bare sound, reset-sound t ended m l ended-bare sound)
  decides l h true false true q e = (refl, refl, sound)
  decides l h true false false false e = (refl, refl, sound)
  decides l h true false false true e = let x = txn_of m.store m.journal m.logs t in
      (granted-reply m t x l sound h e, granted-view m t x l sound h e, granted-sound m t x l sound h e)

  commit-next : (minute : ℕ) → t < transaction_count → (transaction m.store t).begun ≡ true
      → TurnsAgree (commit_turn t minute m) (abstract_commit t minute (occupied (open_txn_in m t)) (view m))
  unfolding commit_turn abstract_commit open_txn_in view file_of
  commit-next minute l b = let r = in-range m.store m.journal sound.in_range in
      let v = values m.store m.files in let x = txn_of m.store m.journal m.logs t in
      decides l (decoded-in m.store m.journal m.logs t sound.logs l (r.transactions t l b)
      (sound.shaped.descriptors t l)) (minute_in minute) (transaction m.store t).stale
      (for_closed (file_of m.store) (window_at m.store) minute x.writes) (fits v x) refl

  pub commit-turns-agree : (minute : ℕ) → TurnsAgree (call (commit t minute) m) (abstract_call (commit t minute) (view m))
  commit-turns-agree minute = unfold call abstract_call abstract_commit in
      admitted-agrees m t sound [] (commit_turn t minute m) (abstract_commit t minute) refl (commit-next minute)
