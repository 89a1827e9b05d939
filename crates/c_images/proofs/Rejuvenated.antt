-- What is loaded from a store's image is the young store with what was committed.
use mathlib.Core.{Bool.{Bool, true, false, ◌||◌, true≢false}, List.List, Path.{◌≡◌, refl, sym, ap, ap₂, ◌∙◌}}
use borrow.Author.Tests.{eq-eqb, le-leb, ltb-false}
use lib.{Dec.ltb, ListN.{get_or, length, replicate, length-replicate, get_or-replicate}}
use native.Mathlib.Omega.{arith}
use Prim.Native.Nat.{ℕ, ◌+◌, ◌-◌, ◌≤◌, ◌<◌, min}
use Rattle.limits.specs.Limits.{file_count, buffer_bytes, transaction_count, record_count}
use Rattle.state.specs.Journal.{journal_length, decoded, last_grant, write_record_at, with_records}
use Rattle.state.specs.declared.{StoreMeaning.StoreMeaning, Transaction.Transaction, journal.WriteRecord.WriteRecord}
use Rattle.state.specs.{StoreMeaning.{ended, no_transaction, transaction, window_at}, Layout.is_set, Updates.flag_number}
use Rattle.state.proofs.{LayoutLaws.flag-back, JournalLaws.{with-same, read-own}}
use Rattle.buffers.{specs.Parts.tabulate, proofs.{BelowLaws.{and_both, below_all}, TableLaws.table_same}}
use Rattle.standings.specs.Table.{place_number}
use Rattle.windows.specs.Windows.{window, fresh_window}
use Rattle.admission.{specs.{FirstRefusal.unless, Admission.store_in}, proofs.Laws.{in-range, in-range-intro, landed-in}}
use Rattle.spec.specs.{Machine.{Machine, lent}, Calls.{fresh_store, fresh_machine}, Age.rejuvenated}
use Rattle.spec.proofs.Refinement.{Relation.Shaped, UndoValues.{SameGrant, undo-values-same}, IndexedLists.tabulate-get_d}
use Rattle.images.specs.Images.{number_of, grant_record, record_code, record_from, undo_from, store_from, journal_from, blank_record}
use Rattle.images.{specs.Images.{canonical, load_refusal, young_with}, proofs.YoungLaws.records-cut}
use Rattle.c_images.proofs.WriteRecords.{again-decoded, has-record, no_record_lem}
use Rattle.c_images.proofs.Columns as at

listed : {A : Type 0} → (l : List A) (z : A) (n : ℕ) → length l ≡ n → tabulate (λ k. get_or l k z) n ≡ l
listed l z n e = ap (λ (m : ℕ). tabulate (λ k. get_or l k z) m) (sym e) ∙ tabulate-get_d l z

abbrev zeros : List ℕ
zeros = replicate journal_length 0

long-zeros : length zeros ≡ journal_length
long-zeros = length-replicate {A = ℕ} journal_length 0

flag_small : (b : Bool) → flag_number b ≤ 1
flag_small true = let e : 1 ≤ 1 = omega arith in e
flag_small false = let e : 0 ≤ 1 = omega arith in e

passes : (a b c : Bool) → a ≡ true → b ≡ true → c ≡ true → unless a 1 (unless b 2 (unless c 2 0)) ≡ 0
unfolding unless
passes a b c ea eb ec = rw (ea, eb, ec)

-- The store of what is committed in s.
abbrev young_of : StoreMeaning → StoreMeaning
young_of s = record {
  filenumbers = s.filenumbers;
  offsets = s.offsets;
  lengths = s.lengths;
  windows = s.windows;
  undo = s.undo;
  transactions = replicate 8 ended;
}

abbrev young_journal : StoreMeaning → List ℕ → List ℕ
young_journal s journal = with_records zeros last_grant (write_record_at journal last_grant) s.undo.used.records

module _ (s : StoreMeaning) (journal : List ℕ) (w : ℕ → ℕ) (same : (i : ℕ) → i < 276 → w i ≡ number_of s journal i) where
  -- A column of n numbers from `from` on.
  column : (from n : ℕ) (l : List ℕ) → from + n ≤ 276 → length l ≡ n
      → ((i : ℕ) → from ≤ i → i < from + n → number_of s journal i ≡ get_or l (i - from) 0) → tabulate (λ k. w (from + k)) n ≡ l
  column from n l fit e is = table_same (λ k. w (from + k)) (λ k. get_or l k 0) n
      (λ k h. let q : from + k - from ≡ k = omega arith in same (from + k) (omega arith)
      ∙ is (from + k) (omega arith) (omega arith) ∙ ap (λ (i : ℕ). get_or l i 0) q) ∙ listed l 0 n e

  records-are : w 58 ≡ s.undo.used.records
  records-are = same 58 (omega arith) ∙ at.records-number s journal

  module _ (z : Shaped s) where
    undo-is : undo_from w ≡ s.undo
    unfolding undo_from
    undo-is = let flagged = ap is_set (same 57 (omega arith) ∙ at.valid-number s journal) ∙ flag-back s.undo.valid in
        let bytes = same 59 (omega arith) ∙ at.bytes-number s journal in
        let offsets = column 60 16 s.undo.offsets (omega arith) z.found_offsets (at.found-offset-number s journal) in
        let lengths = column 76 8 s.undo.lengths (omega arith) z.found_lengths (at.found-length-number s journal) in
        λ i. record {
          valid = flagged i;
          used = record { records = records-are i; bytes = bytes i };
          offsets = offsets i;
          lengths = lengths i;
        }

    windows-are : tabulate (λ f. window (w (41 + f)) (w (49 + f))) file_count ≡ s.windows
    windows-are = table_same (λ f. window (w (41 + f)) (w (49 + f))) (λ f. get_or s.windows f fresh_window) file_count
        (λ f h. let p : 41 + f - 41 ≡ f = omega arith in let q : 49 + f - 49 ≡ f = omega arith in let a = same (41 + f)
        (omega arith) ∙ at.start-number s journal (41 + f) (omega arith) (omega arith) ∙ ap (λ (k : ℕ). (window_at s k).start)
        p in let b = same (49 + f) (omega arith) ∙ at.end-number s journal (49 + f) (omega arith) (omega arith)
        ∙ ap (λ (k : ℕ). (window_at s k).end) q in λ i. window (a i) (b i)) ∙ listed s.windows fresh_window 8 z.windows

    store_is : store_from w ≡ young_of s
    unfolding store_from
    store_is = let files = column 1 16 s.filenumbers (omega arith) z.files (at.file-number s journal) in
        let offsets = column 17 16 s.offsets (omega arith) z.offsets (at.offset-number s journal) in
        let lengths = column 33 8 s.lengths (omega arith) z.lengths (at.committed-length-number s journal) in λ i. record {
          filenumbers = files i;
          offsets = offsets i;
          lengths = lengths i;
          windows = windows-are i;
          undo = undo-is i;
          transactions = replicate 8 ended;
        }

  -- ---- the write records

  module _ (k : ℕ) (few : k < record_count) where
    abbrev record-k : WriteRecord
    record-k = grant_record s.undo.used.records journal k

    code_is : w (84 + k) ≡ record_code record-k
    code_is = let p : 84 + k - 84 ≡ k = omega arith in
        same (84 + k) (omega arith) ∙ at.code-number s journal (84 + k) (omega arith) (omega arith)
        ∙ ap (λ (n : ℕ). record_code (grant_record s.undo.used.records journal n)) p

    place_is : w (148 + k) ≡ place_number record-k.place
    place_is = let p : 148 + k - 148 ≡ k = omega arith in
        same (148 + k) (omega arith) ∙ at.place-number s journal (148 + k) (omega arith) (omega arith)
        ∙ ap (λ (n : ℕ). place_number (grant_record s.undo.used.records journal n).place) p

    length-is : w (212 + k) ≡ record-k.length
    length-is = let p : 212 + k - 212 ≡ k = omega arith in
        same (212 + k) (omega arith) ∙ at.record-length-number s journal (212 + k) (omega arith) (omega arith)
        ∙ ap (λ (n : ℕ). (grant_record s.undo.used.records journal n).length) p

    record_is : k < s.undo.used.records → record_from w k ≡ write_record_at journal last_grant k
    record_is h = unfold record_from write_record_at in let e = has-record s.undo.used.records journal k h in
        let a = code_is ∙ ap record_code e in let b = place_is ∙ ap (λ (x : WriteRecord). place_number x.place) e in
        let c = length-is ∙ ap (λ (x : WriteRecord). x.length) e in (λ i. decoded (a i) (b i) (c i)) ∙ again-decoded _ _ _

    blank-is : s.undo.used.records ≤ k → blank_record w k ≡ true
    blank-is h = unfold blank_record in let e = no_record_lem s.undo.used.records journal k h in
        and_both _ _ (eq-eqb _ _ (code_is ∙ ap record_code e)) (and_both _ _ (eq-eqb _ _ (place_is ∙ ap (λ (x : WriteRecord).
        place_number x.place) e)) (eq-eqb _ _ (length-is ∙ ap (λ (x : WriteRecord). x.length) e)))

  journal-is : journal_from w ≡ young_journal s journal
  journal-is = unfold journal_from in let n = s.undo.used.records in let own = write_record_at journal last_grant in
      sym (records-cut (record_from w) zeros long-zeros (w 58)) ∙ ap (λ (m : ℕ). with_records zeros last_grant (record_from w)
      (min m record_count)) records-are ∙ with-same zeros last_grant (record_from w) own (min n record_count)
      (λ k h. record_is k (omega arith) (omega arith)) ∙ records-cut own zeros long-zeros n

  -- ---- it is not refused

  said-or-blank : (k : ℕ) → k < record_count → (b : Bool) → ltb k (w 58) ≡ b → b || blank_record w k ≡ true
  said-or-blank k h true e = refl
  said-or-blank k h false e = let l = ltb-false k (w 58) e in let r = records-are in blank-is k h (omega (arith, l, r))

  canonical-is : canonical w ≡ true
  canonical-is = unfold canonical in let f = same 57 (omega arith) ∙ at.valid-number s journal in
      and_both _ _ (le-leb (w 57) 1 (omega (arith, f, flag_small s.undo.valid)))
      (below_all (λ k. ltb k (w 58) || blank_record w k) record_count (λ k h. said-or-blank k h (ltb k (w 58)) refl))

  module _ (good : store_in s journal ≡ true) where
    same-grant : SameGrant s.undo (young_journal s journal) journal
    same-grant h k l = let r = (in-range s journal good).undo h in
        let x = landed-in (write_record_at journal last_grant k) (r.writes k l) in
        read-own zeros last_grant (write_record_at journal last_grant) long-zeros (omega arith) s.undo.used.records k
        r.records l (omega (arith, x.0))

    closed : (t : ℕ) → t < transaction_count → (transaction (young_of s) t).begun ≡ false
    unfolding ended
    closed t h = ap (λ (x : Transaction). x.begun) (get_or-replicate {A = Transaction} 8 t ended no_transaction h)

    young-in : store_in (young_of s) (young_journal s journal) ≡ true
    young-in = let r = in-range s journal good in in-range-intro (young_of s) (young_journal s journal) (record {
      files = r.files;
      offsets = r.offsets;
      lengths = r.lengths;
      windows = r.windows;
      undo = λ h. undo-values-same s.undo (young_journal s journal) journal same-grant h (r.undo h);
      transactions = λ t l b. absurd (true≢false (sym b ∙ closed t l));
    })

    admitted-image : Shaped s → load_refusal w ≡ 0
    unfolding load_refusal
    admitted-image z = passes _ _ _ (eq-eqb (w 0) 1 (same 0 (omega arith) ∙ at.format-number s journal)) canonical-is
        (ap₂ store_in (store_is z) journal-is ∙ young-in)

-- As a machine.
module _ (m : Machine) (new_logs : List ℕ) (w : ℕ → ℕ) (same : (i : ℕ) → i < 276 → w i ≡ number_of m.store m.journal i)
    (z : Shaped m.store) where
  pub loaded-image : young_with w m.files m.undo new_logs ≡ rejuvenated m new_logs
  unfolding young_with rejuvenated fresh_machine fresh_store
  loaded-image = let s = store_is m.store m.journal w same z in let j = journal-is m.store m.journal w same in
      λ i. lent (s i) (j i) m.files new_logs (replicate buffer_bytes 0) m.undo

  pub not-refused : store_in m.store m.journal ≡ true → load_refusal w ≡ 0
  not-refused good = admitted-image m.store m.journal w same good z
