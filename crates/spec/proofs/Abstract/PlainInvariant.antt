-- The invariant of the reference model, and that every call keeps it.
use mathlib.Core.{Bool.{Bool, true, false, cond, not, false≢true}, Logic.⊎_elim, List.{List, [], ◌∷◌}}
use mathlib.Core.Path.{◌≡◌, refl, sym, ◌∙◌, subst}
use Rattle.limits.specs.Limits.{last_transaction}
use Rattle.buffers.proofs.PartLaws.{le-or-lt}
use Rattle.admission.{proofs.Laws.below_at, specs.{FirstRefusal.{guarded, is_none}, Admission.window_refusal}}
use borrow.Author.Tests.{leb-true, leb-false}
use lib.Dec.{eqb, leb}
use native.Mathlib.Omega.{arith}
use Prim.Native.Nat.{ℕ, zero, suc, ◌+◌, ◌≤◌, ◌<◌}
use Rattle.windows.specs.Windows.{minute_in, window, Windows}
use Rattle.state.specs.Outcomes.{done_answer}
use Rattle.spec.specs.{Windows.for_closed, Items.{Item, Values, result, asked}, Transactions.put}
use Rattle.spec.specs.Messages.{Op, buffer_of, places, set_window, undo_commit, best_order, after_all, Call, begin, on, commit}
use Rattle.spec.specs.{Messages.{abort, answer_with, refuse_turn}, Steps.{Stepped, refuse, accept, step}}
use Rattle.spec.specs.{Commits.{settings, fits, commit_refusal}, Sightings.{entries, Committed}}
use Rattle.spec.specs.Plain.{Running, Slot, closed, running, Plain, Earlier, nothing, found, is_running, none_running}
use Rattle.spec.specs.Plain.{plain_restored, plain_restore, plain_undo, plain_with_windows, plain_set_window, plain_best_order}
use Rattle.spec.specs.Plain.{start_plain, is_stale, PlainTurn, with_slot, plain_begin, plain_stepped, plain_on, committing, grant}
use Rattle.spec.specs.Plain.{plain_committed, plain_commit, plain_abort, with_number, plain_call, plain_after, plain_places}
use Rattle.spec.proofs.Abstract.{Programs.refused-stale, Lists.{put_keeps, put_other, touched, set_by-at}}
use Rattle.spec.proofs.Abstract.RecordedRuns.{SoundRun, sound-begun, sound_more, sound-granted}

unfoldable pub SoundSlot : (ℕ → ℕ) → Committed → ℕ → Slot → Type 0
SoundSlot file_of c n closed = Unit {0}
SoundSlot file_of c n (running r) = SoundRun file_of c n r

-- Nor in what the last grant found, above the count that it found.
abbrev pub GoodEarlier : Earlier → Type 0
GoodEarlier nothing = Unit {0}
GoodEarlier (found c n) = (i : Item) → c.setter i ≤ n

-- No setter is above the count of grants, every open transaction is sound, and numbers above 7 are closed.
pub record Good (p : Plain) : Type 0 where
  pub setters : (i : Item) → p.committed.setter i ≤ p.grants
  pub sound : (t : ℕ) → SoundSlot p.file_of p.committed p.grants (p.slots t)
  pub above : (t : ℕ) → last_transaction < t → p.slots t ≡ closed
  pub earlier : GoodEarlier p.earlier

pub good_start : (file_of : ℕ → ℕ) (v : Values) (ws : Windows) (e : Earlier) → GoodEarlier e → Good (start_plain file_of v ws e)
unfolding start_plain SoundSlot
good_start file_of v ws e h = record { setters = λ i. omega arith; sound = λ t. tt; above = λ t h. refl; earlier = h }

module _ (p : Plain) (g : Good p) where
  pub sound-at : (t : ℕ) (r : Running) → p.slots t ≡ running r → SoundRun p.file_of p.committed p.grants r
  sound-at t r o = unfold SoundSlot in subst (SoundSlot p.file_of p.committed p.grants) o (g.sound t)

  -- The number of an open transaction.
  pub open-number : (t : ℕ) (r : Running) → p.slots t ≡ running r → leb t last_transaction ≡ true
  open-number t r o = chosen (leb t last_transaction) refl
    where
      chosen : (b : Bool) → leb t last_transaction ≡ b → leb t last_transaction ≡ true
      chosen true l = l
      chosen false l = let c : closed ≡ running r = sym (g.above t (leb-false t last_transaction l)) ∙ o in
          let z : ◌≡◌ {A = ℕ} 0 1 = cc in absurd (omega arith)

  pub good-slot : (t : ℕ) → leb t last_transaction ≡ true → (s : Slot) → SoundSlot p.file_of p.committed p.grants s
      → Good (with_slot t s p)
  good-slot t l s h = unfold with_slot in record {
    setters = g.setters;
    sound = put_keeps t s p.slots (SoundSlot p.file_of p.committed p.grants) h g.sound;
    above = λ u a. put_other t s p.slots u (λ e. omega (arith, leb-true t last_transaction l)) ∙ g.above u a;
    earlier = g.earlier;
  }

  sound-slot-granted : (r : Running) (s : Slot) → SoundSlot p.file_of p.committed p.grants s
      → SoundSlot p.file_of (committing p.file_of (p.grants + 1) r.txn p.committed) (p.grants + 1) s
  unfolding SoundSlot
  sound-slot-granted r closed h = tt
  sound-slot-granted r (running q) h = sound-granted p.file_of p.committed p.grants q h r.txn

  pub good-grant : (t : ℕ) (r : Running) → leb t last_transaction ≡ true → Good (grant t r p)
  unfolding grant committing SoundSlot with_slot
  good-grant t r l = let ss = settings p.file_of p.committed.value r.txn in
      let after : Committed = committing p.file_of (p.grants + 1) r.txn p.committed in record {
        setters = λ i. subst (λ (n : ℕ). n ≤ p.grants + 1) (sym (set_by-at (p.grants + 1) ss p.committed.setter i))
            (at_most i (touched ss i));
        sound = put_keeps t closed p.slots (SoundSlot p.file_of after (p.grants + 1)) tt
            (λ u. sound-slot-granted r (p.slots u) (g.sound u));
        above = λ u a. put_other t closed p.slots u (λ e. omega (arith, leb-true t last_transaction l)) ∙ g.above u a;
        earlier = g.setters;
      }
    where
      at_most : (i : Item) (b : Bool) → cond b (p.grants + 1) (p.committed.setter i) ≤ p.grants + 1
      at_most i true = omega arith
      at_most i false = omega (arith, g.setters i)

  good-begin : (t : ℕ) → leb t last_transaction ≡ true → (s : Slot) → Good (plain_begin t s p).after
  unfolding plain_begin answer_with refuse_turn SoundSlot
  good-begin t l closed = good-slot t l (running _) (sound-begun p.file_of p.committed p.grants)
  good-begin t l (running r) = g

  good-stepped : (t : ℕ) (o : Op) (r : Running) → leb t last_transaction ≡ true → SoundRun p.file_of p.committed
      p.grants r → (s : Stepped) → result p.committed.value (step p.file_of o r.txn) ≡ s → Good (plain_stepped t
      o r (entries p.committed.setter (asked p.committed.value (step p.file_of o r.txn))) p s).after
  unfolding plain_stepped refuse_turn SoundSlot
  good-stepped t o r l h (refuse n) e = g
  good-stepped t o r l h (accept y answer buffer) e =
      good-slot t l (running _) (sound_more p.file_of p.committed p.grants r h g.setters o y answer buffer e)

  good-on : (t : ℕ) (o : Op) → leb t last_transaction ≡ true → (s : Slot)
      → SoundSlot p.file_of p.committed p.grants s → Good (plain_on t o s p).after
  unfolding plain_on refuse_turn SoundSlot
  good-on t o l closed h = g
  good-on t o l (running r) h = let s = result p.committed.value (step p.file_of o r.txn) in
      let es = entries p.committed.setter (asked p.committed.value (step p.file_of o r.txn)) in
      refused-stale (λ z. Good (plain_stepped t o r es p z).after) (is_stale p r) o s (unfold plain_stepped in g)
      (λ e. good-stepped t o r l h s refl)

  good-committed : (t : ℕ) (r : Running) → leb t last_transaction ≡ true → (n : ℕ) → Good (plain_committed t r p n).after
  unfolding plain_committed answer_with SoundSlot
  good-committed t r l zero = good-grant t r l
  good-committed t r l (suc n) = ended (eqb (suc n) 13)
    where
      ended : (b : Bool) → Good (cond b (with_slot t closed p) p)
      ended true = good-slot t l closed tt
      ended false = g

  good-commit : (t minute : ℕ) → leb t last_transaction ≡ true → (s : Slot) → Good (plain_commit t minute s p).after
  unfolding plain_commit refuse_turn
  good-commit t minute l closed = g
  good-commit t minute l (running r) = good-committed t r l (commit_refusal (minute_in minute) (is_stale p r)
      (for_closed p.file_of p.windows minute r.txn.writes) (fits p.committed.value r.txn))

  good-abort : (t : ℕ) → leb t last_transaction ≡ true → (s : Slot) → Good (plain_abort t s p).after
  unfolding plain_abort refuse_turn answer_with SoundSlot
  good-abort t l closed = g
  good-abort t l (running r) = good-slot t l closed tt

  good-numbered : (t : ℕ) (buffer : List ℕ) (next : Slot → Plain → PlainTurn)
      → (leb t last_transaction ≡ true → Good (next (p.slots t) p).after) → Good (with_number t buffer next p).after
  unfolding with_number refuse_turn
  good-numbered t buffer next h = chosen (leb t last_transaction) h
    where
      chosen : (b : Bool) → (b ≡ true → Good (next (p.slots t) p).after)
          → Good (cond b (next (p.slots t) p) (refuse_turn 3 buffer p)).after
      chosen true k = k refl
      chosen false k = g

good-places : (f : ℕ) (out : List ℕ) (s : Slot) (p : Plain) → Good p → Good (plain_places f out s p).after
unfolding plain_places refuse_turn
good-places f out closed p g = g
good-places f out (running r) p g = g

good-window : (f start end : ℕ) (p : Plain) → Good p → Good (plain_set_window f start end p).after
unfolding plain_set_window refuse_turn answer_with
good-window f start end p g = chosen (window_refusal f start end)
  where
    chosen : (n : ℕ) → Good (guarded (λ k. refuse_turn k [] p) (is_none n) n
        (answer_with done_answer (plain_with_windows (put f (window start end) p.windows) p))).after
    chosen zero = record { setters = g.setters; sound = g.sound; above = g.above; earlier = g.earlier }
    chosen (suc n) = g

-- Nobody is open where none of the eight is.
module _ (p : Plain) (g : Good p) where
  slot-closed : (s : Slot) → not (is_running s) ≡ true → s ≡ closed
  unfolding is_running
  slot-closed closed e = refl
  slot-closed (running r) e = absurd (false≢true e)

  pub all_closed : none_running p ≡ true → (t : ℕ) → p.slots t ≡ closed
  unfolding none_running
  all_closed e t = ⊎_elim (λ l. g.above t (omega arith))
      (λ l. slot-closed (p.slots t) (below_at (λ u. not (is_running (p.slots u))) 8 t e l)) (le-or-lt 8 t)

  good-gone : (c : Committed) (n : ℕ) → GoodEarlier (found c n) → none_running p ≡ true → Good (plain_restored c n p)
  good-gone c n h e = unfold SoundSlot in record {
    setters = h;
    sound = λ t. subst (SoundSlot p.file_of c n) (sym (all_closed e t)) tt;
    above = g.above;
    earlier = tt;
  }

  good-back : (x : Earlier) → GoodEarlier x → none_running p ≡ true → Good (plain_restore x p).after
  unfolding plain_restore refuse_turn answer_with
  good-back nothing h e = g
  good-back (found c n) h e = good-gone c n h e

  good-taken : Good (plain_undo p).after
  unfolding plain_undo refuse_turn
  good-taken = chosen (none_running p) refl
    where
      chosen : (b : Bool) → none_running p ≡ b → Good (guarded (λ n. refuse_turn n [] p) b 23 (plain_restore p.earlier p)).after
      chosen true e = good-back p.earlier g.earlier e
      chosen false e = g

pub good-call : (c : Call) (p : Plain) → Good p → Good (plain_call c p).after
unfolding plain_call
good-call (begin t) p g = good-numbered p g t [] (plain_begin t) (λ l. good-begin p g t l (p.slots t))
good-call (on t o) p g = good-numbered p g t (buffer_of o) (plain_on t o) (λ l. good-on p g t o l (p.slots t) (g.sound t))
good-call (commit t minute) p g = good-numbered p g t [] (plain_commit t minute) (λ l. good-commit p g t minute l (p.slots t))
good-call (abort t) p g = good-numbered p g t [] (plain_abort t) (λ l. good-abort p g t l (p.slots t))
good-call (places t f out) p g = good-numbered p g t out (plain_places f out) (λ l. good-places f out (p.slots t) p g)
good-call (set_window f start end) p g = good-window f start end p g
good-call undo_commit p g = good-taken p g
good-call (best_order ts minute budget) p g = unfold plain_best_order in g

pub good-after : (cs : List Call) (p : Plain) → Good p → Good (plain_after cs p)
unfolding after_all
good-after [] p g = g
good-after (c ∷ cs) p g = good-after cs (plain_call c p).after (good-call c p g)
