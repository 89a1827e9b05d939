-- The bytes that the last grant overwrote are restored, write record by write record from the last to the first.
use mathlib.Core.{Bool.true, List.List, Path.{◌≡◌, refl, sym, ap, ap₂, ◌∙◌}}
use native.Mathlib.Omega.{arith}
use Prim.Native.Nat.{ℕ, zero, suc, ◌+◌, ◌*◌, ◌≤◌, ◌<◌}
use Rattle.limits.specs.Limits.{file_count, file_bytes, descriptor_count, log_bytes}
use Rattle.buffers.specs.Parts.{pasted, cut, tabulate}
use Rattle.state.specs.{declared.StoreMeaning.StoreMeaning, Journal.{last_grant, write_record_at}}
use Rattle.admission.specs.{FirstRefusal.sum, Admission.{lengths_before, store_in}}
use Rattle.admission.proofs.Laws.{UndoInRange, in-range, landed-in}
use Rattle.spec_undo.{specs.OldBytes.{Span, restored}, proofs.OldBytesLaws.{spanned, spanned-last, back_last}}
use Rattle.spec.{specs.{Machine.file_of, Undo.{span_of_record, landed_on}}, proofs.Refinement.IndexedLists.sum-le}
use Rattle.commit_apply.specs.declared.writes.LandedWrite.{LandedWrite}
use Rattle.call_undo.specs.LandedWrites.{landed_as}

spanned-table : (f : ℕ → Span) (n : ℕ) → spanned (tabulate f n) ≡ sum (λ k. (f k).length) n
unfolding tabulate sum
spanned-table f zero = refl
spanned-table f (suc n) = let e = spanned-table f n in spanned-last (tabulate f n) (f n) ∙ omega arith

-- The spans of the last grant's first k writes: all, none, and how many bytes they have together.
module _ (s : StoreMeaning) (journal : List ℕ) where
  abbrev pub first_spans : ℕ → List Span
  first_spans k = tabulate (λ j. span_of_record s (write_record_at journal last_grant j)) k

  pub all-spans : first_spans s.undo.used.records ≡ landed_on s journal
  all-spans = unfold landed_on in refl

  pub none_left : (old buffer : List ℕ) → restored (first_spans 0) old buffer ≡ buffer
  none_left old buffer = unfold restored tabulate in refl

  spanned-first : (k : ℕ) → spanned (first_spans k) ≡ lengths_before journal last_grant k
  unfolding span_of_record lengths_before
  spanned-first k = spanned-table (λ j. span_of_record s (write_record_at journal last_grant j)) k

-- Of the first n writes the last, write k: where its old bytes end, and that it goes back before the others.
module _ (s : StoreMeaning) (journal : List ℕ) (k n : ℕ) (next : suc k ≡ n) where
  pub lengths-next : (w : LandedWrite) → w ≡ landed_as s (write_record_at journal last_grant k)
      → lengths_before journal last_grant n ≡ lengths_before journal last_grant k + w.length
  lengths-next w found = unfold lengths_before sum landed_as in rw (found, sym next) refl

  pub back-next : (w : LandedWrite) → w ≡ landed_as s (write_record_at journal last_grant k) → (start : ℕ)
      → start ≡ lengths_before journal last_grant k → (old buffer bytes after : List ℕ) → bytes ≡ cut old start w.length
      → after ≡ pasted buffer (file_bytes * w.file + w.place) bytes
      → restored (first_spans s journal k) old after ≡ restored (first_spans s journal n) old buffer
  back-next w found start starts old buffer bytes after b e = unfold tabulate span_of_record landed_as in
      let ss = first_spans s journal k in let last = span_of_record s (write_record_at journal last_grant k) in
      let part : cut old start w.length ≡ cut old (spanned ss) last.length =
      ap₂ (λ (from : ℕ) (x : LandedWrite). cut old from x.length) (starts ∙ sym (spanned-first s journal k)) found in
      ap (restored ss old) (e
      ∙ ap₂ (λ (x : LandedWrite) (bs : List ℕ). pasted buffer (file_bytes * x.file + x.place) bs) found (b ∙ part))
      ∙ sym (back_last ss last old buffer) ∙ ap (λ (m : ℕ). restored (first_spans s journal m) old buffer) next

-- What the ranges say of a grant that can be undone, and of its write k.
module _ (s : StoreMeaning) (journal : List ℕ) (ranges : store_in s journal ≡ true) (held : s.undo.valid ≡ true) where
  pub grant-in : UndoInRange s.undo journal
  grant-in = (in-range s journal ranges).undo held

  module _ (k : ℕ) (earlier : k < s.undo.used.records) where
    pub restored-descriptor-in : (write_record_at journal last_grant k).descriptor < descriptor_count
    restored-descriptor-in = omega (arith, (landed-in _ (grant-in.writes k earlier)).0)

    pub inside : (w : LandedWrite) → w ≡ landed_as s (write_record_at journal last_grant k)
        → (w.file < file_count) × (w.place + w.length ≤ file_bytes)
    inside w found = unfold landed_as file_of in rw found (
      omega (arith, (in-range s journal ranges).files _ restored-descriptor-in),
      (landed-in _ (grant-in.writes k earlier)).1,
    )

  pub lengths-in : (n : ℕ) → n ≤ s.undo.used.records → lengths_before journal last_grant n ≤ log_bytes
  unfolding lengths_before
  lengths-in n l = let most = sum-le (λ j. (write_record_at journal last_grant j).length) n s.undo.used.records l in
      omega (arith, grant-in.total, grant-in.bytes)
