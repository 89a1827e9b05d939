-- Undo on states and buffers is that of the abstract store, and keeps the store sound.
use mathlib.Core.{Bool.{Bool, true, false, cond, not, true≢false}, List.{List, [], ◌∷◌, ◌++◌}}
use mathlib.Core.Path.{◌≡◌, refl, sym, ap, ◌∙◌, fun_ext, subst}
use lib.ListN.{length}
use Prim.Native.Nat.{ℕ, zero, suc, ◌+◌, ◌≤◌, ◌<◌}
use native.Mathlib.Omega.{arith}
use borrow.Author.Tests.{le-leb}
use Rattle.limits.specs.Limits.{transaction_count, last_transaction}
use Rattle.buffers.specs.Parts.{tabulate}
use Rattle.state.specs.{StoreMeaning.{transaction, window_at}, Journal.{last_grant, write_record_at}}
use Rattle.admission.specs.{FirstRefusal.{guarded, unless}, Admission.{none_begun, admission_of_undo}}
use Rattle.admission.proofs.Laws.{InRange, in-range, in-range-intro, landed-in, below-same}
use Rattle.spec_undo.{specs.OldBytes.{Span, Inside}, proofs.OldBytesLaws.length_back}
use Rattle.spec.specs.{Messages.undo_commit, Machine.{Machine, file_of, values, txn_of}, Undo.{span_of_record, landed_on, undone}}
use Rattle.spec.specs.Calls.{answer_with, refuse_turn, passing, undo_turn, call}
use Rattle.spec.proofs.Abstract.AbstractStore.{Seat, vacant, occupied, none, preserved, is_occupied, none_occupied, returned}
use Rattle.spec.proofs.Abstract.AbstractStore.{abstract_refuse, abstract_answer, abstract_return, abstract_undo, abstract_call}
use Rattle.spec.proofs.Refinement.{Relation.{open_txn_in, seat, back_values, back_in, view, Sound}, UndoValues.back-values}
use Rattle.spec.proofs.Refinement.Admissions.{TurnsAgree, first-is}

-- Spans that a table gives lie inside a buffer where each does.
inside-more : (n : ℕ) (ss : List Span) (s : Span) → Inside n ss → s.at + s.length ≤ n → Inside n (ss ++ (s ∷ []))
inside-more n [] s a b = (b, tt)
inside-more n (k ∷ ss) s a b = (a.0, inside-more n ss s a.1 b)

inside-table : (n : ℕ) (f : ℕ → Span) (k : ℕ) → ((i : ℕ) → i < k → (f i).at + (f i).length ≤ n) → Inside n (tabulate f k)
unfolding tabulate
inside-table n f zero h = tt
inside-table n f (suc k) h = inside-more n (tabulate f k) (f k) (inside-table n f k (λ i l. h i (omega arith)))
    (h k (omega arith))

module _ (m : Machine) (sound : Sound m) where
  range : InRange m.store m.journal
  range = in-range m.store m.journal sound.in_range

  landed-inside : m.store.undo.valid ≡ true → Inside (length m.files) (landed_on m.store m.journal)
  landed-inside h = unfold landed_on span_of_record file_of in let r = range.undo h in
      inside-table (length m.files) _ m.store.undo.used.records
      (λ k l. let w = landed-in (write_record_at m.journal last_grant k) (r.writes k l) in let f = range.files
      (write_record_at m.journal last_grant k).descriptor (omega (arith, w.0)) in omega (arith, sound.files, w.1, f))

  occupied-is : (u : ℕ) → u < transaction_count → is_occupied (seat m u) ≡ (transaction m.store u).begun
  unfolding seat
  occupied-is u l = rw (le-leb u last_transaction (omega arith)) (pick (transaction m.store u).begun)
    where
      pick : (b : Bool) → is_occupied (cond b (occupied (open_txn_in m u)) vacant) ≡ b
      pick true = unfold is_occupied in refl
      pick false = unfold is_occupied in refl

  none_is : none_occupied (view m) ≡ none_begun m.store
  none_is = unfold none_occupied none_begun view in below-same _ _ 8 (λ u l. ap not (occupied-is u l))

  after-seat : (u : ℕ) → seat (undone m) u ≡ seat m u
  after-seat u = unfold undone seat open_txn_in txn_of in refl

  back-view : view (undone m) ≡ returned (back_values m) (view m)
  unfolding view returned back_in file_of undone
  back-view = let v : values (undone m).store (undone m).files ≡ back_values m = back-values m in
      let s : ◌≡◌ {A = ℕ → Seat} (seat (undone m)) (seat m) = fun_ext after-seat in
      λ i. record { file_of = file_of m.store; value = v i; windows = window_at m.store; back = none; seats = s i }

  back-sound : m.store.undo.valid ≡ true → Sound (undone m)
  back-sound h = unfold undone in let r = range.undo h in record {
    shaped = record {
      files = sound.shaped.files;
      offsets = sound.shaped.found_offsets;
      lengths = sound.shaped.found_lengths;
      windows = sound.shaped.windows;
      found_offsets = sound.shaped.found_offsets;
      found_lengths = sound.shaped.found_lengths;
      transactions = sound.shaped.transactions;
      descriptors = sound.shaped.descriptors;
    };
    journal = sound.journal;
    files = length_back (landed_on m.store m.journal) m.undo m.files (landed-inside h) ∙ sound.files;
    logs = sound.logs;
    marks = sound.marks;
    undo = sound.undo;
    in_range = in-range-intro _ m.journal (record {
      files = range.files;
      offsets = r.offsets;
      lengths = r.lengths;
      windows = range.windows;
      undo = λ b. absurd (true≢false (sym b));
      transactions = range.transactions;
    });
  }

  -- 23, 24, or undone.
  takes : (b c : Bool) → m.store.undo.valid ≡ c → TurnsAgree (passing (unless b 23 (unless c 24 0)) [] m (undo_turn m))
      (guarded (λ k. abstract_refuse k [] (view m)) b 23 (abstract_return (cond c (preserved (back_values m)) none) (view m)))
  unfolding unless passing refuse_turn abstract_refuse abstract_return abstract_answer undo_turn answer_with
  takes false c e = (refl, refl, sound)
  takes true false e = (refl, refl, sound)
  takes true true e = (refl, back-view, back-sound e)

  pub back-turn : TurnsAgree (call undo_commit m) (abstract_call undo_commit (view m))
  unfolding call abstract_call abstract_undo admission_of_undo
  back-turn = subst (λ (n : ℕ). TurnsAgree (passing n [] m (undo_turn m)) (abstract_undo (view m)))
      (sym (first-is m (unless (none_begun m.store) 23 (unless m.store.undo.valid 24 0)) sound))
      (subst (λ (b : Bool). TurnsAgree (passing (unless (none_begun m.store) 23 (unless m.store.undo.valid 24 0)) []
      m (undo_turn m)) (guarded (λ k. abstract_refuse k [] (view m)) b 23 (abstract_return (view m).back (view m))))
      (sym none_is) (unfold view back_in in takes (none_begun m.store) m.store.undo.valid refl))
