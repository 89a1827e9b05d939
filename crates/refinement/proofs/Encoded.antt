-- A transaction put back into the state: as it was, with one descriptor changed, with one write more.
use mathlib.Core.{Bool.{true, cond}, List.{List, [], ◌∷◌, ◌++◌}, Path.{◌≡◌, refl, sym, ap, ap₂, ◌∙◌}}
use borrow.Author.Tests.{eq-eqb, ne_eqb}
use lib.{Dec.eqb, ListN.{length, get_or, set, length-append, get_or-append}, Seq.get_or_at}
use Prim.Native.Nat.{ℕ, ◌+◌, ◌<◌}
use Rattle.limits.specs.Limits.{descriptor_count}
use Rattle.buffers.specs.Parts.{tabulate}
use Rattle.standings.specs.{declared.Standing.Standing, Table.{after_write, write_place}}
use Rattle.state.specs.declared.{Descriptor.Descriptor, Transaction.Transaction, StoreMeaning.StoreMeaning}
use Rattle.state.specs.declared.journal.WriteRecord.{WriteRecord}
use Rattle.state.specs.StoreMeaning.{transaction, standing_at, dirty_at, no_descriptor, with_used, with_descriptors, with_transaction}
use Rattle.state.{specs.Journal.{write_record_at, with_record_at}, proofs.JournalLaws.{with-more, with-same, with-own-records}}
use Rattle.spec.specs.{Transactions.{Write, put, dirtied}, Steps.written}
use Rattle.spec.specs.Machine.{write_at, record_of, txn_of, no_write, journalled, holding, lengthmarked, sighting_lengths, with_txn}
use Rattle.spec.proofs.Refinement.{IndexedLists.{tabulate-get_d, tabulate-set}, StepPreserves.total-append}
use Rattle.spec.proofs.Refinement.Decode.{decoded-count, decoded-at, decoded-total, decoded-length}
use Rattle.refinement.proofs.Decoded.{Opened}

-- ---- the descriptors of a transaction

abbrev descriptor_at : Transaction → ℕ → Descriptor
descriptor_at x d = record { standing = standing_at x d; dirty = dirty_at x d }

tabulate-descriptors : (x : Transaction) → length x.descriptors ≡ descriptor_count
    → tabulate (descriptor_at x) descriptor_count ≡ x.descriptors
tabulate-descriptors x e =
    ap (λ (n : ℕ). tabulate (λ d. get_or x.descriptors d no_descriptor) n) (sym e) ∙ tabulate-get_d x.descriptors no_descriptor

put-descriptor : (x : Transaction) (d : ℕ) (z : Standing) → d < descriptor_count → length x.descriptors ≡ descriptor_count
    → tabulate (λ e. record { standing = put d z (standing_at x) e; dirty = put d true (dirty_at x) e }) descriptor_count
    ≡ set x.descriptors d (record { standing = z; dirty = true })
put-descriptor x d z h e = unfold put in let q : Descriptor = record { standing = z; dirty = true } in
    tabulate-set (descriptor_at x)
    (λ k. record { standing = cond (eqb k d) z (standing_at x k); dirty = cond (eqb k d) true (dirty_at x k) }) 16 d q h
    (rw (eq-eqb d d refl)) (λ k ne. rw (ne_eqb k d ne)) ∙ ap (λ (l : List Descriptor). set l d q) (tabulate-descriptors x e)

-- ---- a whole transaction

module _ (s : StoreMeaning) (journal logs : List ℕ) (t : ℕ) (o : Opened s journal logs t) where
  -- The write record of a write that was read off a write record is that write record.
  record-own : (k : ℕ) → k < (transaction s t).used.records → record_of (write_at journal logs t k) ≡ write_record_at journal t k
  record-own k h = unfold record_of write_at in rw (decoded-length s journal logs t o.size o.small o.ranges k h)

  pub writes-same : journalled t (txn_of s journal logs t).writes journal ≡ journal
  writes-same = unfold journalled in let n = (transaction s t).used.records in
      rw (decoded-count s journal logs t o.size o.small o.ranges) (with-same journal t
      (λ k. record_of (get_or (txn_of s journal logs t).writes k no_write)) (write_record_at journal t) n (λ k h. ap record_of
      (decoded-at s journal logs t o.size o.small o.ranges k h) ∙ record-own k h) ∙ with-own-records journal t n)

  -- One write more is one record more.
  pub writes_more : (w : Write) → journalled t ((txn_of s journal logs t).writes ++ (w ∷ [])) journal ≡ with_record_at journal t
      (transaction s t).used.records (record_of w)
  writes_more w = unfold journalled in let ws = (txn_of s journal logs t).writes in let n = (transaction s t).used.records in
      let f : ℕ → WriteRecord = λ k. record_of (get_or (ws ++ (w ∷ [])) k no_write) in
      let e = decoded-count s journal logs t o.size o.small o.ranges in
      rw (length-append ws (w ∷ []), e) (with-more journal t f n ∙ ap₂ (λ (j : List ℕ) (v : WriteRecord). with_record_at j t n
      v) (with-same journal t f (write_record_at journal t) n (λ k h. ap record_of (get_or-append ws (w ∷ []) no_write k
      (rw e h) ∙ decoded-at s journal logs t o.size o.small o.ranges k h) ∙ record-own k h)
      ∙ with-own-records journal t n) (ap record_of (get_or_at ws w [] no_write n e)))

  -- One descriptor stands otherwise, and is dirty.
  pub txn-dirtied : (d : ℕ) (z : Standing) → d < descriptor_count
      → with_txn t (dirtied d z (txn_of s journal logs t)) [] s ≡ with_transaction t
      (with_descriptors (set (transaction s t).descriptors d (record { standing = z; dirty = true })) (transaction s t)) s
  txn-dirtied d z h = unfold with_txn sighting_lengths lengthmarked holding txn_of in rw (
    decoded-count s journal logs t o.size o.small o.ranges,
    decoded-total s journal logs t o.size o.small o.ranges,
    put-descriptor (transaction s t) d z h (o.shape.descriptors t o.small),
  )

  -- One write more: its record, the counters, its descriptor.
  pub txn-written : (d : ℕ) (bytes : List ℕ) → d < descriptor_count
      → with_txn t (written d bytes (txn_of s journal logs t)) [] s ≡ with_transaction t (with_used
      (record { records = (transaction s t).used.records + 1; bytes = (transaction s t).used.bytes + length bytes })
      (with_descriptors (set (transaction s t).descriptors d (record
      { standing = after_write (length bytes) (standing_at (transaction s t) d); dirty = true })) (transaction s t))) s
  unfolding with_txn sighting_lengths lengthmarked with_transaction holding written txn_of
  txn-written d bytes h = let n = (transaction s t).used.records in let z = standing_at (transaction s t) d in
      let w : Write = record { descriptor = d; place = write_place z; bytes = bytes } in rw (
        length-append (tabulate (write_at journal logs t) n) (w ∷ []),
        total-append (tabulate (write_at journal logs t) n) w,
        decoded-count s journal logs t o.size o.small o.ranges,
        decoded-total s journal logs t o.size o.small o.ranges,
        put-descriptor (transaction s t) d (after_write (length bytes) z) h (o.shape.descriptors t o.small),
      )
