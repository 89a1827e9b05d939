-- The state after transaction t has become y: it means y there, and what it meant everywhere else; it stays in range.
use mathlib.Core.{Bool.true, List.{List, []}, Logic.⊎_elim, Path.{◌≡◌, sym, ap, ap₂, ◌∙◌, fun_ext}}
use borrow.Author.Tests.{le-leb}
use lib.{Dec.leb, ListN.{length, get_or, length-map, length-set, get_or-map, get_or-eq_default}}
use lib.Seq.{get_or-set_same, get_or-set_other}
use native.Mathlib.Omega.{arith}
use Prim.Native.Nat.{ℕ, ◌+◌, ◌*◌, ◌≤◌, ◌<◌}
use Rattle.limits.specs.Limits.{descriptor_count, last_descriptor, transaction_count, log_bytes}
use Rattle.buffers.{specs.Parts.{cut, tabulate}, proofs.{PartLaws.le-or-lt, TableLaws.{length-tabulate, get_d_tabulate}}}
use Rattle.state.specs.declared.{Descriptor.Descriptor, Transaction.Transaction, StoreMeaning.StoreMeaning}
use Rattle.state.specs.declared.journal.WriteRecord.{WriteRecord}
use Rattle.state.specs.StoreMeaning.{transaction, standing_at, dirty_at, no_descriptor, no_transaction, with_transaction}
use Rattle.state.specs.Journal.{last_grant, write_record_at, journal_length}
use Rattle.state.proofs.JournalLaws.{length-with, read-own, read-elsewhere}
use Rattle.admission.specs.Admission.{standing_in, record_in, lengths_before, store_in}
use Rattle.admission.proofs.Laws.{and_both, sum_same, TransactionInRange, InRange, in-range, in-range-intro}
use Rattle.spec.specs.{Items.Item, Transactions.{Txn, Write}, Steps.total}
use Rattle.spec.specs.Machine.{data_start, write_at, record_of, txn_of, no_write, journalled, holding, sighting_lengths, with_txn}
use Rattle.spec.proofs.Refinement.{Relation.{Shaped, TxnIn}, IndexedLists.{same_or_not, tabulate-same, tabulate-get_d}}
use Rattle.spec.proofs.Refinement.{StepPreserves.pieces, Decode.{data_before, Carries, total-pieces}}
use Rattle.spec.proofs.Refinement.{UndoValues.{SameGrant, undo-values-same}, Others.{SameAt, range_same}}

module _ (s : StoreMeaning) (journal : List ℕ) (t : ℕ) (y : Txn) (is : List Item) (shaped : Shaped s)
    (long : length journal ≡ journal_length) (small : t < transaction_count) (h : TxnIn y) where
  abbrev after-journal : List ℕ
  after-journal = journalled t y.writes journal

  -- ---- transaction t

  pub own-transaction : transaction (with_txn t y is s) t ≡ holding y (sighting_lengths is (transaction s t))
  unfolding with_txn with_transaction
  own-transaction = get_or-set_same s.transactions t (holding y (sighting_lengths is (transaction s t))) no_transaction
      (rw shaped.transactions small)

  abbrev own_descriptor : ℕ → Descriptor
  own_descriptor d = record { standing = y.standing d; dirty = y.dirty d }

  own-standing : (d : ℕ) → standing_at (transaction (with_txn t y is s) t) d ≡ y.standing d
  unfolding holding
  own-standing d = ap (λ (x : Transaction). standing_at x d) own-transaction ∙ ⊎_elim beyond known (le-or-lt 16 d)
    where
      known : d < descriptor_count → standing_at (holding y (sighting_lengths is (transaction s t))) d ≡ y.standing d
      known l = ap (λ (x : Descriptor). x.standing) (get_d_tabulate own_descriptor 16 d no_descriptor l)

      beyond : descriptor_count ≤ d → standing_at (holding y (sighting_lengths is (transaction s t))) d ≡ y.standing d
      beyond l = ap (λ (x : Descriptor). x.standing)
          (get_or-eq_default (tabulate own_descriptor 16) no_descriptor (rw length-tabulate l)) ∙ sym (h.above d l)

  own-dirty : (d : ℕ) → dirty_at (transaction (with_txn t y is s) t) d ≡ y.dirty d
  unfolding holding
  own-dirty d = ap (λ (x : Transaction). dirty_at x d) own-transaction ∙ ⊎_elim beyond known (le-or-lt 16 d)
    where
      known : d < descriptor_count → dirty_at (holding y (sighting_lengths is (transaction s t))) d ≡ y.dirty d
      known l = ap (λ (x : Descriptor). x.dirty) (get_d_tabulate own_descriptor 16 d no_descriptor l)

      beyond : descriptor_count ≤ d → dirty_at (holding y (sighting_lengths is (transaction s t))) d ≡ y.dirty d
      beyond l = ap (λ (x : Descriptor). x.dirty)
          (get_or-eq_default (tabulate own_descriptor 16) no_descriptor (rw length-tabulate l)) ∙ sym (h.clean d l)

  own-written : (k : ℕ) → k < length y.writes → write_record_at after-journal t k ≡ record_of (get_or y.writes k no_write)
  unfolding journalled
  own-written k l = read-own journal t (λ j. record_of (get_or y.writes j no_write)) long (omega arith) (length y.writes)
      k h.records l (unfold record_of in (h.writes k l).descriptor)

  own-length : (k : ℕ) → k < length y.writes → (write_record_at after-journal t k).length
      ≡ length (get_or y.writes k no_write).bytes
  own-length k l = unfold record_of in ap (λ (w : WriteRecord). w.length) (own-written k l)

  piece_is : (k : ℕ) → get_or (pieces y.writes) k [] ≡ (get_or y.writes k no_write).bytes
  piece_is k = get_or-map (λ (w : Write). w.bytes) y.writes k no_write

  own-data : (k : ℕ) → k ≤ length y.writes → lengths_before after-journal t k ≡ data_before (pieces y.writes) k
  unfolding lengths_before
  own-data k l = sum_same (λ j. (write_record_at after-journal t j).length) (λ j. length (get_or (pieces y.writes) j [])) k
      (λ j g. own-length j (omega arith) ∙ ap length (sym (piece_is j)))

  own-descriptor : (k : ℕ) → k < length y.writes → (write_record_at after-journal t k).descriptor
      ≡ (get_or y.writes k no_write).descriptor
  own-descriptor k l = unfold record_of in ap (λ (w : WriteRecord). w.descriptor) (own-written k l)

  own-place : (k : ℕ) → k < length y.writes → (write_record_at after-journal t k).place ≡ (get_or y.writes k no_write).place
  own-place k l = unfold record_of in ap (λ (w : WriteRecord). w.place) (own-written k l)

  own-write : (logs : List ℕ) → Carries logs (log_bytes * t) (pieces y.writes) → (k : ℕ) → k < length y.writes
      → write_at after-journal logs t k ≡ get_or y.writes k no_write
  own-write logs carries k l = unfold write_at data_start in
      let bytes : cut logs (log_bytes * t + data_before (pieces y.writes) k) (length (get_or y.writes k no_write).bytes)
      ≡ (get_or y.writes k no_write).bytes = rw (piece_is k) at (carries k (rw length-map l)) in λ i. record {
        descriptor = own-descriptor k l i;
        place = own-place k l i;
        bytes = (ap₂ (λ (a b : ℕ). cut logs (log_bytes * t + a) b) (own-data k (omega arith)) (own-length k l) ∙ bytes) i;
      }

  -- The state means y there, if the logs carry y's bytes.
  pub encoded : (logs : List ℕ) → Carries logs (log_bytes * t) (pieces y.writes)
      → txn_of (with_txn t y is s) after-journal logs t ≡ y
  unfolding txn_of holding
  encoded logs carries = λ i. record {
    standing = fun_ext own-standing i;
    dirty = fun_ext own-dirty i;
    writes = (ap (λ (x : Transaction). tabulate (write_at after-journal logs t) x.used.records) own-transaction
        ∙ tabulate-same (write_at after-journal logs t) (λ k. get_or y.writes k no_write) (length y.writes)
        (own-write logs carries) ∙ tabulate-get_d y.writes no_write) i;
  }

  own-record : (k : ℕ) → k < length y.writes → record_in (transaction (with_txn t y is s) t) (write_record_at after-journal t k)
      ≡ true
  own-record k l = unfold record_in in let w = get_or y.writes k no_write in let e = h.writes k l in
      rw (own-descriptor k l, own-place k l, own-length k l, own-standing w.descriptor) (and_both (leb w.descriptor
      last_descriptor) _ (le-leb w.descriptor last_descriptor (omega (arith, e.descriptor))) e.place)

  own_range : TransactionInRange (transaction (with_txn t y is s) t) after-journal t
  own_range = unfold holding in let e = own-transaction in record {
    standings = λ d l. ap standing_in (own-standing d) ∙ h.standings d;
    records = rw e h.records;
    bytes = rw e h.bytes;
    total = rw e (own-data (length y.writes) (omega arith) ∙ ap (data_before (pieces y.writes))
        (sym (length-map y.writes (λ w. w.bytes))) ∙ sym (total-pieces y.writes));
    writes = λ k l. own-record k (rw e at l);
  }

  -- ---- every other transaction

  pub other-same : (u : ℕ) → u < transaction_count → (u ≡ t → ⊥) → SameAt (with_txn t y is s) after-journal s journal u
  other-same u m other = unfold with_txn with_transaction journalled in record {
    transaction =
        get_or-set_other s.transactions t u (holding y (sighting_lengths is (transaction s t))) no_transaction other;
    records = λ k l. read-elsewhere journal t (λ j. record_of (get_or y.writes j no_write)) long (omega arith)
        (length y.writes) u k h.records (omega arith) l other;
  }

  pub grant-same : InRange s journal → SameGrant s.undo after-journal journal
  unfolding journalled
  grant-same r held k l = read-elsewhere journal t (λ j. record_of (get_or y.writes j no_write)) long (omega arith)
      (length y.writes) last_grant k h.records (omega arith) (omega (arith, (r.undo held).records)) (λ q. omega arith)

  -- ---- the whole state

  pub encoded-in : store_in s journal ≡ true → store_in (with_txn t y is s) after-journal ≡ true
  encoded-in e = in-range-intro (with_txn t y is s) after-journal (record {
    files = unfold with_txn with_transaction in (in-range s journal e).files;
    offsets = unfold with_txn with_transaction in (in-range s journal e).offsets;
    lengths = unfold with_txn with_transaction in (in-range s journal e).lengths;
    windows = unfold with_txn with_transaction in (in-range s journal e).windows;
    undo = unfold with_txn with_transaction in
        (λ b. undo-values-same s.undo after-journal journal (grant-same (in-range s journal e)) b
        ((in-range s journal e).undo b));
    transactions = λ u l b. ⊎_elim (λ same. rw same own_range) (elsewhere u l b) (same_or_not u t);
  })
    where
      elsewhere : (u : ℕ) → u < transaction_count → (transaction (with_txn t y is s) u).begun ≡ true → (u ≡ t → ⊥)
          → TransactionInRange (transaction (with_txn t y is s) u) after-journal u
      elsewhere u l b ne = let same = other-same u l ne in
          range_same (with_txn t y is s) after-journal s journal u same
          ((in-range s journal e).transactions u l (ap (λ (x : Transaction). x.begun) (sym same.transaction) ∙ b))

  pub encoded-shaped : Shaped (with_txn t y is s)
  unfolding with_txn with_transaction holding
  encoded-shaped = record {
    files = shaped.files;
    offsets = shaped.offsets;
    lengths = shaped.lengths;
    windows = shaped.windows;
    found_offsets = shaped.found_offsets;
    found_lengths = shaped.found_lengths;
    transactions = length-set s.transactions t (holding y (sighting_lengths is (transaction s t))) ∙ shaped.transactions;
    descriptors = λ u l. ⊎_elim (here u) (elsewhere u l) (same_or_not u t);
  }
    where
      here : (u : ℕ) → u ≡ t → length (transaction (with_txn t y is s) u).descriptors ≡ descriptor_count
      here u e = ap (λ (v : ℕ). length (transaction (with_txn t y is s) v).descriptors) e
          ∙ ap (λ (x : Transaction). length x.descriptors) own-transaction ∙ length-tabulate own_descriptor 16

      elsewhere : (u : ℕ) → u < transaction_count → (u ≡ t → ⊥)
          → length (transaction (with_txn t y is s) u).descriptors ≡ descriptor_count
      elsewhere u l ne = ap (λ (x : Transaction). length x.descriptors) (other-same u l ne).transaction
          ∙ shaped.descriptors u l

  pub encoded-long : length after-journal ≡ journal_length
  unfolding journalled
  encoded-long = length-with journal t (λ k. record_of (get_or y.writes k no_write)) (length y.writes) ∙ long
