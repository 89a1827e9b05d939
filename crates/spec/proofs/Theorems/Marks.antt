-- Whose marks a call leaves.
use mathlib.Core.{Bool.{Bool, true, false, cond, true≢false}, List.{List, []}, Path.{◌≡◌, refl, sym, ap, subst}}
use lib.Dec.{leb, eqb}
use native.Mathlib.Omega.{arith}
use borrow.Author.Tests.{leb-true}
use Prim.Native.Nat.{ℕ, zero, suc, ◌<◌}
use Rattle.limits.specs.Limits.{transaction_count, last_transaction}
use Rattle.buffers.specs.Marks.{has_mark}
use Rattle.state.specs.{declared.Transaction.Transaction, StoreMeaning.{transaction, ended}}
use Rattle.admission.specs.{Admission.admission, FirstRefusal.unless}
use Rattle.spec.specs.Messages.{Op, seek, write, get_file_pointer, read, buffer_of, Call, begin, on, commit, abort, places}
use Rattle.spec.specs.{Messages.{set_window, undo_commit, best_order}, Steps.{Stepped, refuse, accept}, Commits.Setting}
use Rattle.spec.specs.{Transactions.Txn, Machine.Machine, Undo.{saving_undo, undone}}
use Rattle.spec.specs.Calls.{Turn, refuse_turn, passing, answer_with, reset, begin_turn, abort_turn, served, step_turn}
use Rattle.spec.specs.Calls.{commit_granted, commit_decided, commit_turn, places_turn, window_turn, undo_turn, order_turn}
use Rattle.spec.specs.{Calls.{admitted, call}, MarkPairs.MarksAlwaysLeft}
use Rattle.spec.proofs.Refinement.{Relation.Sound, Marks.marked_other, AfterReset.unmarked-other}
use Rattle.spec.proofs.Refinement.{Accepted.{sightings, sightings-in}, Admissions.shared-is}
use Rattle.spec.proofs.Theorems.{Recovery.reached-sound, Buffers.on-marks}

module _ (m : Machine) (u q : ℕ) where
  -- The marks of transaction u are left.
  abbrev Left : Machine → Type 0
  Left x = has_mark x.marks u q ≡ has_mark m.marks u q

  passing-left : (k : ℕ) (buffer : List ℕ) (w : Turn) → Left w.after → Left (passing k buffer m w).after
  unfolding passing refuse_turn
  passing-left zero buffer w h = h
  passing-left (suc k) buffer w h = refl

  reset-left : (t : ℕ) (x : Transaction) → (u ≡ t → ⊥) → Left (reset t x m)
  reset-left t x other = unfold reset in unmarked-other t m.marks u q other

  decided-left : (t : ℕ) (x : Txn) (ss : List Setting) (n : ℕ) → (u ≡ t → ⊥) → Left (commit_decided t x ss m n).after
  unfolding commit_decided commit_granted saving_undo
  decided-left t x ss zero other = unmarked-other t m.marks u q other
  decided-left t x ss (suc n) other = pick (eqb (suc n) 13)
    where
      pick : (b : Bool) → Left (cond b (reset t ended m) m)
      pick true = reset-left t ended other
      pick false = refl

  module _ (sound : Sound m) where
    served-left : (t : ℕ) (o : Op) → t < transaction_count → (transaction m.store t).begun ≡ true → (u ≡ t → ⊥) → (s : Stepped)
        → Left (served t o m (sightings m t o) s).after
    unfolding served refuse_turn
    served-left t o small begun other (refuse n) = refl
    served-left t o small begun other (accept y a b) =
        marked_other t u (sightings m t o) m.marks small sound.marks (sightings-in m t o sound small begun) other q

    -- A call of an open transaction, on a sound store.
    admitted-left : (t : ℕ) (buffer : List ℕ) (w : Turn) → (t < transaction_count → (transaction m.store t).begun ≡ true
        → Left w.after) → Left (admitted t buffer m w).after
    unfolding admitted admission unless passing refuse_turn
    admitted-left t buffer w h = subst (λ (n : ℕ). Left (passing n buffer m w).after)
        (sym (shared-is m t sound (unless (transaction m.store t).begun 4 0))) (pick (leb t last_transaction)
        (transaction m.store t).begun (λ l b. let k = leb-true t last_transaction l in h (omega arith) b))
      where
        pick : (b c : Bool) → (b ≡ true → c ≡ true → Left w.after)
            → Left (passing (unless b 3 (unless c 4 0)) buffer m w).after
        pick false c k = refl
        pick true false k = refl
        pick true true k = k refl refl

    -- A call of u itself that is none of the four leaves them too.
    on-left : (t : ℕ) (o : Op) → ((d n : ℕ) (buffer : List ℕ) → on t o ≡ on u (read d n buffer) → ⊥)
        → Left (call (on t o) m).after
    on-left t (seek d v) r = ap (λ (ms : List ℕ). has_mark ms u q) (on-marks t (seek d v) m (λ e n b k. true≢false cc))
    on-left t (write d bytes) r = ap (λ (ms : List ℕ). has_mark ms u q) (on-marks t (write d bytes) m (λ e n b k. true≢false cc))
    on-left t (get_file_pointer d) r = ap (λ (ms : List ℕ). has_mark ms u q)
        (on-marks t (get_file_pointer d) m (λ e n b k. true≢false cc))
    on-left t (read d n buffer) r = unfold call step_turn sightings in
        admitted-left t (buffer_of (read d n buffer)) (step_turn t (read d n buffer) m) (λ small begun. served-left t
        (read d n buffer) small begun (λ e. r d n buffer (ap (λ (k : ℕ). on k (read d n buffer)) (sym e))) _)

    call-left : (c : Call) → ((d n : ℕ) (buffer : List ℕ) → c ≡ on u (read d n buffer) → ⊥) → (c ≡ begin u → ⊥)
        → ((minute : ℕ) → c ≡ commit u minute → ⊥) → (c ≡ abort u → ⊥) → Left (call c m).after
    unfolding call begin_turn abort_turn answer_with commit_turn places_turn window_turn undo_turn undone admitted
    call-left (begin t) r b c a = passing-left _ [] (begin_turn t m) (reset-left t _ (λ e. b (ap begin (sym e))))
    call-left (on t o) r b c a = on-left t o r
    call-left (commit t minute) r b c a =
        passing-left _ [] (commit_turn t minute m) (decided-left t _ _ _ (λ e. c minute (ap (λ (k : ℕ). commit k minute) (sym e))))
    call-left (abort t) r b c a = passing-left _ [] (abort_turn t m) (reset-left t ended (λ e. a (ap abort (sym e))))
    call-left (places t f out) r b c a = passing-left _ out (places_turn t f out m) refl
    call-left (set_window f start end) r b c a = passing-left _ [] (window_turn f start end m) refl
    call-left undo_commit r b c a = passing-left _ [] (undo_turn m) refl
    call-left (best_order ts minute budget) r b c a = passing-left _ [] (order_turn ts minute budget m) (unfold order_turn in refl)

pub marks-always-left : MarksAlwaysLeft
marks-always-left m r c u q = call-left m u q (reached-sound m r) c
