-- The setting of a window on states and buffers is that of the abstract store, and keeps the store sound.
use mathlib.Core.{Bool.{Bool, true, false, cond}, List.{List, []}, Path.{◌≡◌, refl, sym, ap, ◌∙◌, fun_ext, subst}}
use lib.{Dec.eqb, ListN.{get_or, set, length-set}, Seq.{get_or-set_same, get_or-set_other}}
use Prim.Native.Nat.{ℕ, zero, suc, ◌<◌}
use native.Mathlib.Omega.{arith}
use borrow.Author.Tests.{eqb-true, eqb-false}
use Rattle.limits.specs.Limits.{file_count}
use Rattle.windows.specs.{Windows.{window, fresh_window}, declared.Window.Window}
use Rattle.state.specs.{Outcomes.done_answer, StoreMeaning.with_windows}
use Rattle.admission.specs.{FirstRefusal.{guarded, is_none}, Admission.{window_in, window_refusal, admission_of_window}}
use Rattle.admission.proofs.Laws.{in-range, in-range-intro, admitted-window}
use Rattle.spec.specs.{Items.{Item, byte, offset, file_length}, Transactions.put, Messages.set_window}
use Rattle.spec.specs.Machine.{Machine, sizes, with_store, file_of, values, txn_of}
use Rattle.spec.specs.Calls.{answer_with, refuse_turn, passing, window_turn, call}
use Rattle.spec.proofs.Abstract.AbstractStore.{abstract_refuse, abstract_answer, windowed, abstract_window, abstract_call}
use Rattle.spec.proofs.Refinement.{Relation.{open_txn_in, seat, view, Sound}, UndoValues.back-same}
use Rattle.spec.proofs.Refinement.Admissions.{TurnsAgree, first-is}

module _ (m : Machine) (f start end : ℕ) (sound : Sound m) where
  abbrev w : Window
  w = window start end

  abbrev ws : List Window
  ws = set m.store.windows f w

  abbrev after : Machine
  after = with_store (with_windows ws m.store) m

  module _ (small : f < file_count) where
    -- The windows after it.
    windows-at : (g : ℕ) (b : Bool) → eqb g f ≡ b → get_or ws g fresh_window ≡ cond b w (get_or m.store.windows g fresh_window)
    windows-at g true e = rw (eqb-true g f e)
        (get_or-set_same m.store.windows f w fresh_window (omega (arith, sound.shaped.windows)))
    windows-at g false e = get_or-set_other m.store.windows f g w fresh_window (eqb-false g f e)

    after-values : (i : Item) → values after.store after.files i ≡ values m.store m.files i
    unfolding values
    after-values (byte q) = refl
    after-values (offset d) = refl
    after-values (file_length g) = refl

    after-seat : (u : ℕ) → seat after u ≡ seat m u
    after-seat u = unfold seat open_txn_in txn_of in refl

    after-view : view after ≡ windowed f start end (view m)
    unfolding view windowed put file_of
    after-view = let e = fun_ext (λ g. windows-at g (eqb g f) refl) in let v = fun_ext after-values in
        let s = fun_ext after-seat in let b = back-same m after (λ h k l. refl) refl refl refl refl in
        λ i. record { file_of = file_of m.store; value = v i; windows = e i; back = b i; seats = s i }

    module _ (minutes : window_in w ≡ true) where
      after-in : (g : ℕ) → g < file_count → (b : Bool) → eqb g f ≡ b → window_in (get_or ws g fresh_window) ≡ true
      after-in g l true e = ap window_in (windows-at g true e) ∙ minutes
      after-in g l false e = ap window_in (windows-at g false e) ∙ (in-range m.store m.journal sound.in_range).windows g l

      after-sound : Sound after
      after-sound = let r = in-range m.store m.journal sound.in_range in record {
        shaped = record {
          files = sound.shaped.files;
          offsets = sound.shaped.offsets;
          lengths = sound.shaped.lengths;
          windows = length-set m.store.windows f w ∙ sound.shaped.windows;
          found_offsets = sound.shaped.found_offsets;
          found_lengths = sound.shaped.found_lengths;
          transactions = sound.shaped.transactions;
          descriptors = sound.shaped.descriptors;
        };
        journal = sound.journal;
        files = sound.files;
        logs = sound.logs;
        marks = sound.marks;
        undo = sound.undo;
        in_range = in-range-intro after.store m.journal (record {
          files = r.files;
          offsets = r.offsets;
          lengths = r.lengths;
          windows = λ g l. after-in g l (eqb g f) refl;
          undo = r.undo;
          transactions = r.transactions;
        });
      }

  -- 6, 22, or set.
  sets : (n : ℕ) → admission_of_window (sizes m) m.store m.journal f start end ≡ n
      → TurnsAgree (passing n [] m (window_turn f start end m))
      (guarded (λ k. abstract_refuse k [] (view m)) (is_none n) n (abstract_answer done_answer (windowed f start end (view m))))
  unfolding passing refuse_turn abstract_refuse window_turn answer_with abstract_answer
  sets zero e = let a = admitted-window (sizes m) m.store m.journal f start end e in
      let i : window_in w ≡ true = unfold window_in in a.minutes in (refl, after-view a.small, after-sound a.small i)
  sets (suc n) e = (refl, refl, sound)

  pub window-turn : TurnsAgree (call (set_window f start end) m) (abstract_call (set_window f start end) (view m))
  unfolding call abstract_call abstract_window
  window-turn = let e : admission_of_window (sizes m) m.store m.journal f start end ≡ window_refusal f start end =
      unfold admission_of_window in first-is m (window_refusal f start end) sound in
      subst (λ (n : ℕ). TurnsAgree (passing n [] m (window_turn f start end m)) (abstract_window f start end (view m)))
      (sym e) (unfold abstract_window in sets (window_refusal f start end) e)
