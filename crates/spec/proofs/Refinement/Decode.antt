-- A transaction as the state and the logs hold it: in range, and its writes' bytes one after the other in its log.
use mathlib.Core.{Bool.{true, false}, List.{List, [], ◌∷◌}, Logic.⊎_elim, Path.{◌≡◌, refl, sym, ap, ◌∙◌}}
use borrow.Author.Tests.{leb-true}
use lib.{Dec.leb, ListN.{length, get_or, length-map, get_or-map, get_or-eq_default}}
use native.Mathlib.Omega.{arith}
use Prim.Native.Nat.{ℕ, suc, ◌+◌, ◌*◌, ◌≤◌, ◌<◌}
use Rattle.limits.specs.Limits.{buffer_bytes, descriptor_count, last_descriptor, transaction_count, log_bytes}
use Rattle.buffers.{specs.Parts.cut, proofs.{PartLaws.{length_cut, le-or-lt}, TableLaws.{length-tabulate, get_d_tabulate}}}
use Rattle.standings.specs.declared.Standing.TheVariants.{Untouched}
use Rattle.state.specs.declared.{Descriptor.Descriptor, StoreMeaning.StoreMeaning}
use Rattle.state.specs.{StoreMeaning.{transaction, standing_at, no_descriptor}, Journal.write_record_at}
use Rattle.admission.specs.{FirstRefusal.sum, Admission.{standing_in, place_in, record_in, lengths_before}}
use Rattle.admission.proofs.Laws.{and_left, and_right, sum_same, TransactionInRange}
use Rattle.spec.specs.{Transactions.Write, Steps.total, Machine.{data_start, write_at, txn_of, no_write}}
use Rattle.spec.proofs.Refinement.{Relation.{WriteIn, TxnIn}, IndexedLists.{sum_first, sum-le}, StepPreserves.pieces}

-- The data bytes of the first k pieces.
abbrev pub data_before : List (List ℕ) → ℕ → ℕ
data_before ps k = sum (λ j. length (get_or ps j [])) k

-- The pieces stand one after the other in the log, from place a on.
abbrev pub Carries : List ℕ → ℕ → List (List ℕ) → Type 0
Carries logs a ps = (k : ℕ) → k < length ps → cut logs (a + data_before ps k) (length (get_or ps k [])) ≡ get_or ps k []

pub total-pieces : (ws : List Write) → total ws ≡ data_before (pieces ws) (length (pieces ws))
unfolding total sum
total-pieces [] = refl
total-pieces (w ∷ ws) = ap (λ (n : ℕ). length w.bytes + n) (total-pieces ws)
    ∙ sym (sum_first (λ j. length (get_or (pieces (w ∷ ws)) j [])) (length (pieces ws)))

module _ (s : StoreMeaning) (journal logs : List ℕ) (t : ℕ) (size : length logs ≡ buffer_bytes) (small : t < transaction_count)
    (r : TransactionInRange (transaction s t) journal t) where
  -- The length of write record k, and how many there are.
  abbrev pub len : ℕ → ℕ
  len k = (write_record_at journal t k).length

  abbrev pub decoded_count : ℕ
  decoded_count = (transaction s t).used.records

  pub data-fits : (k : ℕ) → k < decoded_count → lengths_before journal t k + len k ≤ log_bytes
  data-fits k h = unfold lengths_before sum in omega (arith, sum-le len (suc k) decoded_count h, r.total, r.bytes)

  pub decoded-length : (k : ℕ) → k < decoded_count → length (write_at journal logs t k).bytes ≡ len k
  unfolding write_at data_start
  decoded-length k h = length_cut logs (log_bytes * t + lengths_before journal t k) (len k) (omega (arith, data-fits k h))

  pub decoded-at : (k : ℕ) → k < decoded_count → get_or (txn_of s journal logs t).writes k no_write ≡ write_at journal logs t k
  decoded-at k h = unfold txn_of in get_d_tabulate (write_at journal logs t) decoded_count k no_write h

  piece-at : (k : ℕ) → k < decoded_count → get_or (pieces (txn_of s journal logs t).writes) k [] ≡ (write_at journal logs t k).bytes
  piece-at k h = get_or-map (λ (w : Write). w.bytes) (txn_of s journal logs t).writes k no_write
      ∙ ap (λ (w : Write). w.bytes) (decoded-at k h)

  data-before : (k : ℕ) → k ≤ decoded_count → data_before (pieces (txn_of s journal logs t).writes) k ≡ lengths_before journal t k
  unfolding lengths_before
  data-before k h = sum_same (λ j. length (get_or (pieces (txn_of s journal logs t).writes) j [])) len k
      (λ j g. ap length (piece-at j (omega arith)) ∙ decoded-length j (omega arith))

  pub decoded-count : length (txn_of s journal logs t).writes ≡ decoded_count
  decoded-count = unfold txn_of in length-tabulate (write_at journal logs t) decoded_count

  length-pieces : length (pieces (txn_of s journal logs t).writes) ≡ decoded_count
  length-pieces = length-map (txn_of s journal logs t).writes (λ w. w.bytes) ∙ decoded-count

  -- "their lengths adding to the data used"
  pub decoded-total : total (txn_of s journal logs t).writes ≡ (transaction s t).used.bytes
  decoded-total = total-pieces (txn_of s journal logs t).writes ∙ ap (data_before (pieces (txn_of s journal logs t).writes))
      length-pieces ∙ data-before decoded_count (omega arith) ∙ r.total

  pub decoded-carries : Carries logs (log_bytes * t) (pieces (txn_of s journal logs t).writes)
  unfolding write_at data_start
  decoded-carries k h = let g : k < decoded_count = rw length-pieces at h in
      rw (piece-at k g, decoded-length k g, data-before k (omega arith)) refl

  write-in : (k : ℕ) → k < decoded_count → WriteIn (txn_of s journal logs t) (write_at journal logs t k)
  write-in k h = unfold write_at txn_of record_in in let w = write_record_at journal t k in let e = w.descriptor in
      let low = leb-true e last_descriptor
      (and_left _ (place_in (standing_at (transaction s t) e) w.place w.length) (r.writes k h)) in
      record
      { descriptor = omega arith; place = rw (decoded-length k h) (and_right (leb e last_descriptor) _ (r.writes k h)) }

  pub decoded-writes : (k : ℕ) → k < length (txn_of s journal logs t).writes
      → WriteIn (txn_of s journal logs t) (get_or (txn_of s journal logs t).writes k no_write)
  decoded-writes k h = let g : k < decoded_count = rw decoded-count at h in rw (decoded-at k g) (write-in k g)

  untouched : length (transaction s t).descriptors ≡ descriptor_count → (d : ℕ) → descriptor_count ≤ d
      → (txn_of s journal logs t).standing d ≡ Untouched
  untouched sixteen d h = unfold txn_of in
      ap (λ (x : Descriptor). x.standing) (get_or-eq_default (transaction s t).descriptors no_descriptor (omega arith))

  clean : length (transaction s t).descriptors ≡ descriptor_count → (d : ℕ) → descriptor_count ≤ d
      → (txn_of s journal logs t).dirty d ≡ false
  clean sixteen d h = unfold txn_of in
      ap (λ (x : Descriptor). x.dirty) (get_or-eq_default (transaction s t).descriptors no_descriptor (omega arith))

  pub decoded-in : length (transaction s t).descriptors ≡ descriptor_count → TxnIn (txn_of s journal logs t)
  unfolding standing_in
  decoded-in sixteen = record {
    standings = λ d. ⊎_elim (λ h. rw (untouched sixteen d h)) (known d) (le-or-lt 16 d);
    above = untouched sixteen;
    clean = clean sixteen;
    records = rw decoded-count r.records;
    bytes = rw decoded-total r.bytes;
    writes = decoded-writes;
  }
    where
      known : (d : ℕ) → d < descriptor_count → standing_in ((txn_of s journal logs t).standing d) ≡ true
      known d h = unfold txn_of in r.standings d h
