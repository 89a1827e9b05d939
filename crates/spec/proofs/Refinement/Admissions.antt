-- A call on a sound store meets neither 1 nor 2, and 3 and 4 where the abstract store does.
use mathlib.Core.{Bool.{Bool, true, false, cond, ◌&&◌}, List.List, Path.{◌≡◌, refl, sym, subst}}
use lib.Dec.{leb}
use Prim.Native.Nat.{ℕ, ◌<◌}
use native.Mathlib.Omega.{arith}
use borrow.Author.Tests.{leb-true}
use Rattle.limits.specs.Limits.{transaction_count, last_transaction}
use Rattle.state.specs.StoreMeaning.{transaction}
use Rattle.admission.specs.{Admission.{sizes_in, first_tests, shared, admission}, FirstRefusal.unless}
use Rattle.spec.specs.{Machine.{Machine, sizes}, Calls.{Turn, refuse_turn, passing, admitted}}
use Rattle.spec.proofs.Abstract.AbstractStore.{Seat, vacant, occupied, Abstract, AbstractTurn, abstract_refuse, seated}
use Rattle.spec.proofs.Refinement.Relation.{open_txn_in, seat, view, Sound}

-- A call on a state and buffers answers as the same call on the abstract store, leaves what stands for the same, and keeps the
-- store sound.
abbrev pub TurnsAgree : Turn → AbstractTurn → Type 0
TurnsAgree a b = (a.reply ≡ b.reply) × (view a.after ≡ b.after) × Sound a.after

-- 1 and 2 are not met.
pub first-is : (m : Machine) (later : ℕ) → Sound m → first_tests (sizes m) m.store m.journal later ≡ later
unfolding first_tests sizes_in unless
first-is m later sound = rw (sound.files, sound.logs, sound.marks, sound.undo, sound.in_range)

module _ (m : Machine) (t : ℕ) (sound : Sound m) where
  pub shared-is : (later : ℕ) → shared (sizes m) m.store m.journal t later ≡ unless (leb t last_transaction) 3 later
  shared-is later = unfold shared in first-is m _ sound

  module _ (buffer : List ℕ) (next : Turn) (seating : Seat → Abstract → AbstractTurn)
      (closed : seating vacant (view m) ≡ abstract_refuse 4 buffer (view m)) where
    admits : (b c : Bool) → (b ≡ true → c ≡ true → TurnsAgree next (seating (occupied (open_txn_in m t)) (view m)))
        → TurnsAgree (passing (unless b 3 (unless c 4 0)) buffer m next)
        (cond b (seating (cond (b && c) (occupied (open_txn_in m t)) vacant) (view m)) (abstract_refuse 3 buffer (view m)))
    unfolding unless passing refuse_turn abstract_refuse
    admits false c h = (refl, refl, sound)
    admits true false h = rw closed (refl, refl, sound)
    admits true true h = h refl refl

    -- A call on an open transaction.
    pub admitted-agrees : (t < transaction_count → (transaction m.store t).begun ≡ true → TurnsAgree next (seating
        (occupied (open_txn_in m t)) (view m))) → TurnsAgree (admitted t buffer m next) (seated t buffer seating (view m))
    unfolding admitted admission seated view seat
    admitted-agrees h = subst (λ (n : ℕ). TurnsAgree (passing n buffer m next) (seated t buffer seating (view m)))
        (sym (shared-is (unless (transaction m.store t).begun 4 0))) (admits (leb t last_transaction)
        (transaction m.store t).begun (λ l b. let k = leb-true t last_transaction l in h (omega arith) b))
