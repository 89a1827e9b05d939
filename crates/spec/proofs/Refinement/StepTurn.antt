-- Seek, Write, GetFilePointer and Read on a store in range: the reply is the abstract store's, what the store means after the
-- call is the abstract store after it, and the store stays in range.
use mathlib.Core.{Bool.true, Path.{◌≡◌, refl}}
use Prim.Native.Nat.{ℕ, ◌<◌}
use Rattle.limits.specs.Limits.{transaction_count}
use Rattle.state.specs.StoreMeaning.{transaction}
use Rattle.spec.specs.{Items.result, Messages.{Op, buffer_of, on}, Steps.{Stepped, refuse, accept, step}}
use Rattle.spec.specs.{Machine.{Machine, file_of, values, txn_of}, Calls.{refuse_turn, served, step_turn, call}}
use Rattle.spec.proofs.Abstract.Programs.{refused-stale}
use Rattle.spec.proofs.Abstract.AbstractStore.{abstract_refuse, abstract_stepped, abstract_on, abstract_call}
use Rattle.spec.proofs.Refinement.Relation.{open_txn_in, view, Sound}
use Rattle.spec.proofs.Refinement.Accepted.{sightings, machine_after, logged-after, view-after, sound-after}
use Rattle.spec.proofs.Refinement.Admissions.{TurnsAgree, admitted-agrees}

module _ (m : Machine) (t : ℕ) (o : Op) (h : Sound m) where
  -- Refused with one of 6 to 12, or accepted.
  step-agrees : t < transaction_count → (transaction m.store t).begun ≡ true → (z : Stepped)
      → result (values m.store m.files) (step (file_of m.store) o (txn_of m.store m.journal m.logs t)) ≡ z
      → TurnsAgree (served t o m (sightings m t o) z) (abstract_stepped t o (open_txn_in m t) (sightings m t o) (view m) z)
  unfolding served abstract_stepped refuse_turn abstract_refuse machine_after logged-after open_txn_in
  step-agrees small begun (refuse n) e = (refl, refl, h)
  step-agrees small begun (accept y a buffer) e =
      (refl, view-after m t o h small begun y a buffer e, sound-after m t o h small begun y a buffer e)

pub step-turn : (m : Machine) (t : ℕ) (o : Op) → Sound m → ((call (on t o) m).reply ≡ (abstract_call (on t o) (view m)).reply)
    × (view (call (on t o) m).after ≡ (abstract_call (on t o) (view m)).after) × Sound (call (on t o) m).after
unfolding call abstract_call abstract_on step_turn sightings view open_txn_in
step-turn m t o h = admitted-agrees m t h (buffer_of o) (step_turn t o m) (abstract_on t o) refl (λ small begun. let s = result
    (values m.store m.files) (step (file_of m.store) o (txn_of m.store m.journal m.logs t)) in refused-stale
    (λ z. TurnsAgree (served t o m (sightings m t o) z) (abstract_stepped t o (open_txn_in m t) (sightings m t o) (view m) z))
    (transaction m.store t).stale o s (unfold served abstract_stepped refuse_turn abstract_refuse in (refl, refl, h))
    (λ e. step-agrees m t o h small begun s refl))
