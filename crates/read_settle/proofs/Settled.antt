-- A transaction with descriptors settled, put back into the record: its standings, its counters and its write records.
use mathlib.Core.{Bool.{Bool, true, false, cond}, List.List, Path.{◌≡◌, refl, sym, ap, ◌∙◌}}
use borrow.Author.Tests.{eq-eqb, ne_eqb}
use lib.{Dec.eqb, ListN.{length, get_or, set}}
use native.Mathlib.Omega.{arith}
use Prim.Native.Nat.{ℕ, ◌+◌, ◌*◌, ◌≤◌, ◌<◌}
use Rattle.limits.specs.Limits.{file_bytes, descriptor_count, log_bytes}
use Rattle.buffers.{specs.Parts.{cut, tabulate}, proofs.TableLaws.{length-tabulate, get_d_tabulate}}
use Rattle.standings.specs.declared.Standing.{Standing}
use Rattle.state.specs.declared.{Descriptor.Descriptor, Transaction.Transaction, StoreMeaning.StoreMeaning}
use Rattle.state.specs.declared.journal.WriteRecord.{WriteRecord}
use Rattle.state.specs.StoreMeaning.{transaction, standing_at, dirty_at, no_descriptor, with_descriptors, with_transaction}
use Rattle.state.specs.{Journal.write_record_at, Layout.{store_of, journal_of, state_length}}
use Rattle.state.proofs.{JournalLaws.{with-same, read-own}, LayoutLaws.transaction-of}
use Rattle.admission.{specs.Admission.lengths_before, proofs.Laws.{sum_same, record-in, place_end}}
use Rattle.spec.specs.{Items.Item, Transactions.{Txn, Write, put, with_standings, with_dirty, dirtied}, Steps.total}
use Rattle.spec.specs.Machine.{data_start, write_at, record_of, txn_of, no_write, journalled, holding, sighting_lengths, with_txn}
use Rattle.spec.proofs.Refinement.IndexedLists.{tabulate-same, tabulate-set, map-tabulate}
use Rattle.spec.proofs.Refinement.Decode.{decoded-length, decoded-total}
use Rattle.refinement.{specs.Settling.{place_all, settle_all}, proofs.Decoded.{Opened, total-tabulate}}
use Rattle.read_settle.specs.Choices.{settled_descriptor, settled_transaction}
use Rattle.read_settle.specs.Records.{record_after, placed_records, Placeable}

-- ---- what check 2 says of the write records

module _ (s : StoreMeaning) (journal logs : List ℕ) (t : ℕ) (o : Opened s journal logs t) where
  pub low-descriptor : (k : ℕ) → k < (transaction s t).used.records → (write_record_at journal t k).descriptor < descriptor_count
  low-descriptor k h =
      omega (arith, (record-in (transaction s t) (write_record_at journal t k) (o.ranges.writes k h)).descriptor)

module _ (preserved logs : List ℕ) (t : ℕ) (o : Opened (store_of preserved) (journal_of preserved) logs t) where
  pub placeable : (n : ℕ) → n ≡ (transaction (store_of preserved) t).used.records → length preserved ≡ state_length
      → ((e : ℕ) → e < descriptor_count → get_or (store_of preserved).offsets e 0 ≤ file_bytes) → Placeable preserved t n
  placeable n e long low = record {
    long = long;
    small = o.small;
    few = rw e o.ranges.records;
    descriptors = λ k h. low-descriptor (store_of preserved) (journal_of preserved) logs t o k (rw e at h);
    places = λ k h. let w = write_record_at (journal_of preserved) t k in omega (
      arith,
      place_end _ w.place w.length
          (record-in (transaction (store_of preserved) t) w (o.ranges.writes k (rw e at h))).place,
    );
    committed = low;
    standings = λ d h. rw (sym (transaction-of preserved t o.small)) (o.ranges.standings d h);
  }

-- ---- a whole transaction

-- The meaning of transaction t with the chosen descriptors settled at the committed offsets.
abbrev pub settled_txn : StoreMeaning → List ℕ → List ℕ → ℕ → List Bool → Txn
settled_txn s journal logs t chosen =
    settle_all (λ e. get_or chosen e false) (λ e. get_or s.offsets e 0) (txn_of s journal logs t)

-- The journal with transaction t's write records placed.
abbrev pub settled_journal : StoreMeaning → List ℕ → ℕ → List Bool → List ℕ
settled_journal s journal t chosen = placed_records chosen s.offsets journal t (transaction s t).used.records

module _ (s : StoreMeaning) (journal logs : List ℕ) (t : ℕ) (o : Opened s journal logs t) (chosen : List Bool) where
  count : ℕ
  count = (transaction s t).used.records

  -- Write k, placed.
  then_at : ℕ → Write
  then_at k = place_all (λ e. get_or chosen e false) (λ e. get_or s.offsets e 0) (write_at journal logs t k)

  writes-table : (settled_txn s journal logs t chosen).writes ≡ tabulate then_at count
  unfolding settle_all txn_of then_at count
  writes-table = map-tabulate (place_all (λ e. get_or chosen e false) (λ e. get_or s.offsets e 0)) (write_at journal logs t)
      (transaction s t).used.records

  settled-count : length (settled_txn s journal logs t chosen).writes ≡ (transaction s t).used.records
  settled-count = unfold count in ap length writes-table ∙ length-tabulate then_at (transaction s t).used.records

  settled-total : total (settled_txn s journal logs t chosen).writes ≡ (transaction s t).used.bytes
  unfolding count then_at place_all
  settled-total = ap total writes-table ∙ total-tabulate then_at (transaction s t).used.records
      ∙ sym (total-tabulate (write_at journal logs t) (transaction s t).used.records)
      ∙ decoded (decoded-total s journal logs t o.size o.small o.ranges)
    where
      decoded : total (txn_of s journal logs t).writes ≡ (transaction s t).used.bytes
          → total (tabulate (write_at journal logs t) (transaction s t).used.records) ≡ (transaction s t).used.bytes
      decoded e = unfold txn_of in e

  -- The record of a write that was placed is its record, placed.
  record-then : (k : ℕ) → k < (transaction s t).used.records → record_of (then_at k)
      ≡ record_after chosen s.offsets (write_record_at journal t k)
  unfolding record_of then_at place_all record_after write_at
  record-then k h = rw (decoded-length s journal logs t o.size o.small o.ranges k h)

  pub journal-settled : journalled t (settled_txn s journal logs t chosen).writes journal ≡ settled_journal s journal t chosen
  journal-settled = unfold journalled placed_records count in let n = (transaction s t).used.records in
      rw (settled-count, writes-table) (with-same journal t (λ k. record_of (get_or (tabulate then_at n) k no_write))
      (λ k. record_after chosen s.offsets (write_record_at journal t k)) n
      (λ k h. ap record_of (get_d_tabulate then_at n k no_write h) ∙ record-then k h))

  -- A meaning with these writes, whatever its descriptors, that sighted these items.
  put_back : (is : List Item) (f : ℕ → Standing) (g : ℕ → Bool) (l : List Descriptor) → tabulate (λ d. record
      { standing = f d; dirty = g d }) descriptor_count ≡ l → with_txn t (with_dirty g (with_standings f (settled_txn s journal
      logs t chosen))) is s ≡ with_transaction t (with_descriptors l (sighting_lengths is (transaction s t))) s
  put_back is f g l e = unfold with_txn holding sighting_lengths in rw (settled-count, settled-total, e)

  -- The chosen descriptors settled, and no length sighted.
  pub txn-settled : (is : List Item) → sighting_lengths is (transaction s t) ≡ transaction s t → with_txn t (settled_txn s
      journal logs t chosen) is s ≡ with_transaction t (settled_transaction chosen s.offsets (transaction s t)) s
  unfolding settle_all txn_of settled_transaction settled_descriptor
  txn-settled is none = put_back is (settled_txn s journal logs t chosen).standing (dirty_at (transaction s t)) _ refl
      ∙ ap (λ (x : Transaction). with_transaction t
      (with_descriptors (tabulate (settled_descriptor chosen s.offsets (transaction s t)) 16) x) s) none

  -- The standing of a descriptor afterwards.
  pub standing-settled : (d : ℕ) → d < descriptor_count
      → standing_at (settled_transaction chosen s.offsets (transaction s t)) d ≡ (settled_txn s journal logs t chosen).standing d
  unfolding settle_all txn_of settled_transaction settled_descriptor
  standing-settled d h = ap (λ (q : Descriptor). q.standing)
      (get_d_tabulate (settled_descriptor chosen s.offsets (transaction s t)) 16 d no_descriptor h)

  -- The chosen descriptors settled, and then one descriptor stands otherwise and is dirty.
  pub txn-settled-dirtied : (is : List Item) (d : ℕ) (z : Standing) → d < descriptor_count
      → with_txn t (dirtied d z (settled_txn s journal logs t chosen)) is s ≡ with_transaction t
      (with_descriptors (set (settled_transaction chosen s.offsets (transaction s t)).descriptors d
      (record { standing = z; dirty = true })) (sighting_lengths is (transaction s t))) s
  txn-settled-dirtied is d z h = unfold settled_transaction settle_all txn_of settled_descriptor in
      put_back is (put d z (settled_txn s journal logs t chosen).standing) (put d true (dirty_at (transaction s t))) _
      (unfold put in tabulate-set (settled_descriptor chosen s.offsets (transaction s t)) (λ e. record {
        standing = cond (eqb e d) z ((settled_txn s journal logs t chosen).standing e);
        dirty = cond (eqb e d) true (dirty_at (transaction s t) e);
      }) 16 d (record { standing = z; dirty = true }) h (rw (eq-eqb d d refl)) (λ e ne. rw (ne_eqb e d ne)))

  -- The write records read back from the new journal.
  record-settled : (k : ℕ) → k < (transaction s t).used.records
      → write_record_at (settled_journal s journal t chosen) t k ≡ record_after chosen s.offsets (write_record_at journal t k)
  unfolding placed_records record_after
  record-settled k h = read-own journal t _ o.long (omega (arith, o.small)) (transaction s t).used.records k
      o.ranges.records h (low-descriptor s journal logs t o k h)

  pub descriptor-settled : (k : ℕ) → k < (transaction s t).used.records
      → (write_record_at (settled_journal s journal t chosen) t k).descriptor < descriptor_count
  descriptor-settled k h = rw (record-settled k h) (preserved (low-descriptor s journal logs t o k h))
    where
      preserved : (write_record_at journal t k).descriptor < descriptor_count
          → (record_after chosen s.offsets (write_record_at journal t k)).descriptor < descriptor_count
      preserved l = unfold record_after in l

  -- Placing moves no data.
  pub data-settled : (k : ℕ) → k ≤ (transaction s t).used.records → lengths_before (settled_journal s journal t chosen) t k
      ≡ lengths_before journal t k
  unfolding lengths_before
  data-settled k h =
      sum_same (λ j. (write_record_at (settled_journal s journal t chosen) t j).length) (λ j. (write_record_at journal t j).length) k
      (λ j l. ap (λ (w : WriteRecord). w.length) (record-settled j (omega arith)) ∙ preserved (write_record_at journal t j))
    where
      preserved : (w : WriteRecord) → (record_after chosen s.offsets w).length ≡ w.length
      preserved w = unfold record_after in refl

  write-settled : (k : ℕ) → k < (transaction s t).used.records → write_at (settled_journal s journal t chosen) logs t k ≡ then_at k
  unfolding write_at then_at place_all data_start
  write-settled k h = rw (record-settled k h, data-settled k (omega arith))
      (placed (write_record_at journal t k) (log_bytes * t + lengths_before journal t k))
    where
      placed : (w : WriteRecord) (n : ℕ) → record {
        descriptor = (record_after chosen s.offsets w).descriptor;
        place = (record_after chosen s.offsets w).place;
        bytes = cut logs n (record_after chosen s.offsets w).length;
      } ≡ place_all (λ e. get_or chosen e false) (λ e. get_or s.offsets e 0)
          (record { descriptor = w.descriptor; place = w.place; bytes = cut logs n w.length })
      placed w n = unfold place_all record_after in refl

  pub writes-settled : tabulate (write_at (settled_journal s journal t chosen) logs t) (transaction s t).used.records
      ≡ (settled_txn s journal logs t chosen).writes
  unfolding count
  writes-settled = tabulate-same (write_at (settled_journal s journal t chosen) logs t) then_at
      (transaction s t).used.records write-settled ∙ sym writes-table
