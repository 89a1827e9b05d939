-- What the code reads off the state is what the rules say of a transaction's writes.
use mathlib.Core.{Bool.{Bool, false, ◌&&◌, and-false}, List.List, Path.{◌≡◌, refl, sym, ap, ap₂, ◌∙◌}}
use lib.{Dec.ltb, ListN.{length, get_or}}
use native.Mathlib.Omega.{arith}
use Prim.Native.Nat.{ℕ, zero, suc, ◌≤◌, ◌<◌}
use Rattle.limits.specs.Limits.{file_count, buffer_bytes, descriptor_count, record_count}
use Rattle.windows.specs.Windows.{is_closed_at}
use Rattle.buffers.proofs.{SetLaws.contains-bits, MarkLaws.contains-none}
use Rattle.state.specs.{declared.Transaction.Transaction, StoreMeaning.{transaction, window_at}, Journal.write_record_at}
use Rattle.state.{specs.Layout.{transaction_of, store_of, journal_of}, proofs.LayoutLaws.{length-journal, transaction-of}}
use Rattle.admission.{specs.FirstRefusal.some_below, proofs.Laws.{TransactionInRange, in-range, record-in}}
use Rattle.spec.specs.{Windows.{is_for_closed, for_closed}, Transactions.Write, Machine.{file_of, write_at, txn_of}}
use Rattle.spec.proofs.Refinement.Decode.{decoded-length}
use Rattle.refinement.proofs.{Shapes.shaped, Decoded.{Opened, some-tabulate}}
use Rattle.commit_windows.specs.WindowCheck.{OpenIn, closed_files, record_has_byte_for, has_byte_for, has_byte_for_closed}

-- No record has a byte for a file of the empty octet.
pub none-closed : (state : List ℕ) (t octet : ℕ) → octet ≡ 0 → has_byte_for state t octet ≡ false
unfolding has_byte_for some_below record_has_byte_for
none-closed state t octet e = ap (has_byte_for state t) e ∙ none (transaction_of state t).used.records
  where
    none : (n : ℕ) → some_below (record_has_byte_for state t 0) n ≡ false
    none zero = refl
    none (suc n) = let w = write_record_at (journal_of state) t n in
        rw (none n, contains-none (get_or (store_of state).filenumbers w.descriptor 0)) (and-false (ltb 0 w.length))

module _ (state : List ℕ) (t : ℕ) (o : OpenIn state t) where
  same : transaction (store_of state) t ≡ transaction_of state t
  same = transaction-of state t o.small

  -- What state validity says of it.
  in-ranges : TransactionInRange (transaction (store_of state) t) (journal_of state) t
  in-ranges = (in-range (store_of state) (journal_of state) o.ranges).transactions t o.small
      (ap (λ (x : Transaction). x.begun) same ∙ o.begun)

  abbrev count : ℕ
  count = (transaction_of state t).used.records

  counts : (transaction (store_of state) t).used.records ≡ count
  counts = ap (λ (x : Transaction). x.used.records) same

  pub few-closing : count ≤ record_count
  few-closing = omega (arith, counts, in-ranges.records)

  pub closing-descriptor-in : (k : ℕ) → k < count → (write_record_at (journal_of state) t k).descriptor < descriptor_count
  closing-descriptor-in k h = omega (
    arith,
    (record-in (transaction (store_of state) t) (write_record_at (journal_of state) t k)
        (in-ranges.writes k (omega (arith, counts)))).descriptor,
  )

  pub file-in : (d : ℕ) → d < descriptor_count → get_or (store_of state).filenumbers d 0 < file_count
  file-in d h = omega (arith, (in-range (store_of state) (journal_of state) o.ranges).files d h)

  module _ (logs : List ℕ) (long : length logs ≡ buffer_bytes) where
    decoded : Opened (store_of state) (journal_of state) logs t
    decoded = record { shape = shaped state; long = length-journal state; size = long; small = o.small; ranges = in-ranges }

    -- By the octet of the closed files.
    pub closed_is : (minute : ℕ) → has_byte_for state t (closed_files state minute) ≡ has_byte_for_closed state logs t minute
    unfolding has_byte_for for_closed txn_of is_for_closed record_has_byte_for file_of closed_files write_at
    closed_is minute = ap (some_below (record_has_byte_for state t (closed_files state minute))) (sym counts)
        ∙ sym (some-tabulate test (write_at (journal_of state) logs t) (record_has_byte_for state t (closed_files state minute))
        (transaction (store_of state) t).used.records each)
      where
        test : Write → Bool
        test = is_for_closed (file_of (store_of state)) (window_at (store_of state)) minute

        each : (k : ℕ) → k < (transaction (store_of state) t).used.records
            → test (write_at (journal_of state) logs t k) ≡ record_has_byte_for state t (closed_files state minute) k
        each k h = let d = (write_record_at (journal_of state) t k).descriptor in
            let in_count : k < count = omega (arith, counts) in
            ap₂ (λ (n : ℕ) (b : Bool). ltb 0 n && b)
            (decoded-length (store_of state) (journal_of state) logs t decoded.size decoded.small decoded.ranges k h)
            (sym (contains-bits (is_closed_at (window_at (store_of state)) minute) 8 (get_or (store_of state).filenumbers d 0)
            (file-in d (closing-descriptor-in k in_count))))
