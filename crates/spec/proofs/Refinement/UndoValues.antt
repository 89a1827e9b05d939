-- What the store would go back to: where it stays as it is.
use mathlib.Core.{Bool.{Bool, true, false, cond}, List.List, Path.{◌≡◌, refl, ap, ap₂, ◌∙◌, fun_ext}}
use lib.ListN.{get_or}
use Prim.Native.Nat.{ℕ, ◌<◌}
use Rattle.state.specs.{declared.{Undo.Undo, journal.WriteRecord.WriteRecord}, Journal.{last_grant, write_record_at}}
use Rattle.admission.{specs.Admission.{landed_in, lengths_before}, proofs.Laws.{sum_same, UndoInRange}}
use Rattle.spec_undo.specs.OldBytes.{Span, restored}
use Rattle.spec.specs.{Items.{Item, byte, offset, file_length}, Machine.{Machine, file_of, values}}
use Rattle.spec.specs.Undo.{span_of_record, landed_on, undone}
use Rattle.spec.proofs.{Abstract.AbstractStore.{none, preserved}, Refinement.Relation.{back_values, back_in}}
use Rattle.spec.proofs.Refinement.IndexedLists.{tabulate-same}

-- The values of the store that has gone back.
pub back-values : (m : Machine) → values (undone m).store (undone m).files ≡ back_values m
back-values m = fun_ext each
  where
    each : (i : Item) → values (undone m).store (undone m).files i ≡ back_values m i
    each (byte q) = unfold values undone back_values in refl
    each (offset d) = unfold values undone back_values in refl
    each (file_length f) = unfold values undone back_values in refl

-- Two journals with the same write records of the last grant, if there is one.
abbrev pub SameGrant : Undo → List ℕ → List ℕ → Type 0
SameGrant u written journal =
    u.valid ≡ true → (k : ℕ) → k < u.used.records → write_record_at written last_grant k ≡ write_record_at journal last_grant k

pub undo-values-same : (u : Undo) (written journal : List ℕ) → SameGrant u written journal → u.valid ≡ true
    → UndoInRange u journal → UndoInRange u written
undo-values-same u written journal same h r = unfold lengths_before in record {
  records = r.records;
  bytes = r.bytes;
  total = sum_same (λ j. (write_record_at written last_grant j).length) (λ j. (write_record_at journal last_grant j).length)
      u.used.records (λ j l. ap (λ (w : WriteRecord). w.length) (same h j l)) ∙ r.total;
  writes = λ k l. ap landed_in (same h k l) ∙ r.writes k l;
  offsets = r.offsets;
  lengths = r.lengths;
}

-- A store that holds the same of the last grant would go back to the same.
module _ (m n : Machine) (same : SameGrant m.store.undo n.journal m.journal) (u : n.store.undo ≡ m.store.undo)
    (numbers : n.store.filenumbers ≡ m.store.filenumbers) (old : n.undo ≡ m.undo) (files : n.files ≡ m.files) where
  landed-same : m.store.undo.valid ≡ true → landed_on n.store n.journal ≡ landed_on m.store m.journal
  unfolding landed_on span_of_record file_of
  landed-same h = rw (u, numbers) (tabulate-same {A = Span} (λ k. span_of_record m.store
      (write_record_at n.journal last_grant k)) (λ k. span_of_record m.store (write_record_at m.journal last_grant k))
      m.store.undo.used.records (λ k l. ap (span_of_record m.store) (same h k l)))

  values_same : m.store.undo.valid ≡ true → (i : Item) → back_values n i ≡ back_values m i
  unfolding back_values
  values_same h (byte q) = ap (λ (ss : List Span). get_or (restored ss n.undo n.files) q 0) (landed-same h)
      ∙ ap₂ (λ (o f : List ℕ). get_or (restored (landed_on m.store m.journal) o f) q 0) old files
  values_same h (offset d) = ap (λ (x : Undo). get_or x.offsets d 0) u
  values_same h (file_length f) = ap (λ (x : Undo). get_or x.lengths f 0) u

  pub back-same : back_in n ≡ back_in m
  unfolding back_in
  back-same = ap (λ (x : Undo). cond x.valid (preserved (back_values n)) none) u ∙ pick m.store.undo.valid refl
    where
      pick : (b : Bool) → m.store.undo.valid ≡ b → cond b (preserved (back_values n)) none
          ≡ cond b (preserved (back_values m)) none
      pick true e = ap preserved (fun_ext (values_same e))
      pick false e = refl
