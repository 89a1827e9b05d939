-- A transaction whose part of the state and of the logs is left as it was: its meaning and its ranges are too.
use mathlib.Core.{List.List, Logic.⊎_elim, Path.{◌≡◌, sym, ap, ap₂, ◌∙◌}}
use lib.ListN.{length, get_or}
use native.Mathlib.{Nat.eq-or-lt_of_le, Omega.arith}
use Prim.Native.Nat.{ℕ, ◌+◌, ◌*◌, ◌≤◌, ◌<◌}
use Rattle.limits.specs.Limits.{buffer_bytes, transaction_count, record_count, log_bytes}
use Rattle.buffers.{specs.Parts.{cut, tabulate}, proofs.PartLaws.{cut-same, le-or-lt}}
use Rattle.state.specs.declared.{StoreMeaning.StoreMeaning, Transaction.Transaction, journal.WriteRecord.WriteRecord}
use Rattle.state.specs.{StoreMeaning.{transaction, standing_at, dirty_at, no_transaction}, Journal.write_record_at}
use Rattle.admission.{specs.Admission.{record_in, lengths_before}, proofs.Laws.{sum_same, TransactionInRange}}
use Rattle.spec.specs.Machine.{data_start, write_at, txn_of}
use Rattle.spec.proofs.Refinement.{IndexedLists.tabulate-same, Decode.data-fits}

-- Two states with the same transaction u and the same write records of it.
pub record SameAt (r : StoreMeaning) (written : List ℕ) (s : StoreMeaning) (journal : List ℕ) (u : ℕ) : Type 0 where
  pub transaction : get_or r.transactions u no_transaction ≡ get_or s.transactions u no_transaction
  pub records : (k : ℕ) → k < record_count → write_record_at written u k ≡ write_record_at journal u k

-- Two log buffers that differ only in transaction t's part.
pub record LogsApart (t : ℕ) (state logs : List ℕ) : Type 0 where
  pub size : length state ≡ length logs
  pub before : (i : ℕ) → i < log_bytes * t → get_or state i 0 ≡ get_or logs i 0
  pub beyond : (i : ℕ) → log_bytes * t + log_bytes ≤ i → get_or state i 0 ≡ get_or logs i 0

module _ (t u : ℕ) (state logs : List ℕ) (apart : LogsApart t state logs) (other : u ≡ t → ⊥) where
  -- A range of another transaction's part.
  cut_apart : (p n : ℕ) → log_bytes * u ≤ p → p + n ≤ log_bytes * u + log_bytes → cut state p n ≡ cut logs p n
  cut_apart p n h g = cut-same state logs p n apart.size (λ i a b. ⊎_elim (after i a b) (below i a b) (le-or-lt t u))
    where
      below : (i : ℕ) → p ≤ i → i < p + n → u < t → get_or state i 0 ≡ get_or logs i 0
      below i a b l = apart.before i (omega arith)

      after : (i : ℕ) → p ≤ i → i < p + n → t ≤ u → get_or state i 0 ≡ get_or logs i 0
      after i a b l = let ne : t < u = ⊎_elim (λ e. absurd (other (sym e))) (λ m. m) (eq-or-lt_of_le l) in
          apart.beyond i (omega arith)

module _ (r : StoreMeaning) (written : List ℕ) (s : StoreMeaning) (journal : List ℕ) (u : ℕ)
    (same : SameAt r written s journal u) where
  lengths-same : (k : ℕ) → k ≤ record_count → lengths_before written u k ≡ lengths_before journal u k
  unfolding lengths_before
  lengths-same k h = sum_same (λ j. (write_record_at written u j).length) (λ j. (write_record_at journal u j).length) k
      (λ j g. ap (λ (w : WriteRecord). w.length) (same.records j (omega arith)))

  pub range_same : TransactionInRange (transaction s u) journal u → TransactionInRange (transaction r u) written u
  range_same h = rw same.transaction (record {
    standings = h.standings;
    records = h.records;
    bytes = h.bytes;
    total = lengths-same (transaction s u).used.records h.records ∙ h.total;
    writes = λ k l. ap (record_in (transaction s u)) (same.records k (omega (arith, h.records))) ∙ h.writes k l;
  })

  module _ (t : ℕ) (state logs : List ℕ) (apart : LogsApart t state logs) (size : length logs ≡ buffer_bytes)
      (other : u ≡ t → ⊥) (small : u < transaction_count) (h : TransactionInRange (transaction s u) journal u) where
    write_same : (k : ℕ) → k < (transaction s u).used.records → write_at written state u k ≡ write_at journal logs u k
    write_same k l = unfold write_at data_start in let few : k < record_count = omega (arith, h.records) in
        let n = (write_record_at journal u k).length in let p = log_bytes * u + lengths_before journal u k in λ i. record {
          descriptor = (same.records k few i).descriptor;
          place = (same.records k few i).place;
          bytes = (ap₂ (λ (a b : ℕ). cut state (log_bytes * u + a) b) (lengths-same k (omega arith))
              (ap (λ (w : WriteRecord). w.length) (same.records k few)) ∙ cut_apart t u state logs apart other p n
              (omega arith) (omega (arith, data-fits s journal logs u size small h k l))) i;
        }

    pub txn-same : txn_of r written state u ≡ txn_of s journal logs u
    txn-same = unfold txn_of in λ i. record {
      standing = standing_at (same.transaction i);
      dirty = dirty_at (same.transaction i);
      writes = (ap (λ (x : Transaction). tabulate (write_at written state u) x.used.records) same.transaction
          ∙ tabulate-same (write_at written state u) (write_at journal logs u) (transaction s u).used.records write_same) i;
    }
