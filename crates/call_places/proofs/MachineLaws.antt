-- The places that a transaction's write records cover are those that its writes cover, and so are the writes without a place.
-- Assumes nothing.
use mathlib.Core.{Bool.{◌&&◌, ◌||◌}, List.List, Path.{◌≡◌, refl, sym, ap, ap₂, ◌∙◌}}
use lib.{Dec.eqb, ListN.{get_or, length}}
use Prim.Native.Nat.{ℕ, zero, suc, ◌+◌, ◌*◌, ◌≤◌, ◌<◌}
use native.Mathlib.Omega.{arith}
use borrow.Author.Tests.{leb-true}
use Rattle.limits.specs.Limits.{file_bytes, buffer_bytes, transaction_count, log_bytes}
use Rattle.standings.specs.declared.Place.{Place}
use Rattle.state.specs.{declared.{StoreMeaning.StoreMeaning, Transaction.Transaction}, StoreMeaning.{transaction, standing_at}}
use Rattle.state.specs.Journal.{write_record_at}
use Rattle.admission.{specs.Admission.{lengths_before, place_in}, proofs.Laws.{TransactionInRange, record-in}}
use Rattle.buffers.{proofs.PartLaws.length_cut, specs.Parts.tabulate}
use Rattle.spec.specs.{Transactions.Write, Reading.lies_over, Machine.{file_of, data_start, write_at, txn_of}}
use Rattle.spec.specs.Places.{some_write, covers_place, covered, unplaced_on, unplaced, intervals_of}
use Rattle.spec.proofs.Places.IntervalLaws.{intervals-same}
use Rattle.refinement.proofs.Decoded.{some-one-more, some-tabulate}
use Rattle.read_lookup.{specs.Lookup.{Recorded, recorded, covers, newest, supplier}, proofs.RunLaws.data-suc}
use Rattle.call_places.specs.{PlacesCall.{covered_at, waits_on, waits_on_file}, Ascending.WithinFile}
use Rattle.call_places.proofs.CoverLaws.{covered_more}

-- ---- the first n writes

module _ (j : Recorded) (logs : List ℕ) (t f : ℕ) where
  -- Each descriptor's file, and the writes.
  abbrev file : ℕ → ℕ
  file d = get_or j.filenumbers d 0

  abbrev writes : ℕ → List Write
  writes n = tabulate (write_at j.journal logs t) n

  unplaced-is : (n : ℕ) → unplaced file f (writes n) ≡ waits_on_file j t n f
  unfolding unplaced waits_on_file unplaced_on waits_on write_at
  unplaced-is n = some-tabulate (unplaced_on file f) (write_at j.journal logs t)
      (λ k. waits_on j.filenumbers f (write_record_at j.journal t k)) n (λ k l. refl)

  module _ (small : t < transaction_count) (long : length logs ≡ buffer_bytes) where
    covers-is : (p k : ℕ) → lengths_before j.journal t (suc k) ≤ log_bytes
        → covers_place file f p (write_at j.journal logs t k) ≡ covers j.filenumbers f p (write_record_at j.journal t k)
    covers-is p k h = unfold covers_place write_at covers data_start in let w = write_record_at j.journal t k in
        ap (λ (n : ℕ). eqb (file w.descriptor) f && lies_over w.place n p) (length_cut logs
        (log_bytes * t + lengths_before j.journal t k) w.length (omega (arith, data-suc j.journal t k)))

    covered-is : (n : ℕ) → lengths_before j.journal t n ≤ log_bytes → (p : ℕ) → covered file f (writes n) p ≡ covered_at j t n f p
    unfolding covered covered_at supplier newest tabulate some_write
    covered-is zero h p = refl
    covered-is (suc n) h p = some-one-more (covers_place file f p) (writes n) (write_at j.journal logs t n) ∙ ap₂ ◌||◌
        (covered-is n (omega (arith, data-suc j.journal t n)) p) (covers-is p n h) ∙ sym (covered_more j t n f p)

-- ---- a transaction of the store

-- "its place or advance plus length at most 4,096"
pub within-file : (x : Transaction) (journal filenumbers : List ℕ) (t : ℕ) → TransactionInRange x journal t
    → WithinFile (recorded journal filenumbers) t x.used.records
unfolding place_in
within-file x journal filenumbers t range k p l e = let w = write_record_at journal t k in
    let z = standing_at x w.descriptor in
    leb-true (p + w.length) file_bytes (ap (λ (q : Place). place_in z q w.length) (sym e)
    ∙ (record-in x w (range.writes k l)).place)

module _ (s : StoreMeaning) (journal logs : List ℕ) (t f : ℕ) where
  -- "a write on that file has no place yet"
  pub unplaced-in : unplaced (file_of s) f (txn_of s journal logs t).writes
      ≡ waits_on_file (recorded journal s.filenumbers) t (transaction s t).used.records f
  unfolding txn_of file_of
  unplaced-in = unplaced-is (recorded journal s.filenumbers) logs t f (transaction s t).used.records

  module _ (small : t < transaction_count) (long : length logs ≡ buffer_bytes)
      (range : TransactionInRange (transaction s t) journal t) where
    covered-in : (p : ℕ) → covered (file_of s) f (txn_of s journal logs t).writes p
        ≡ covered_at (recorded journal s.filenumbers) t (transaction s t).used.records f p
    unfolding txn_of file_of
    covered-in p = covered-is (recorded journal s.filenumbers) logs t f small long (transaction s t).used.records
        (omega (arith, range.total, range.bytes)) p

    -- the list of its writes is that of its write records
    pub intervals-in : intervals_of (covered (file_of s) f (txn_of s journal logs t).writes)
        ≡ intervals_of (covered_at (recorded journal s.filenumbers) t (transaction s t).used.records f)
    unfolding intervals_of
    intervals-in = intervals-same (covered (file_of s) f (txn_of s journal logs t).writes) (covered_at (recorded journal
        s.filenumbers) t (transaction s t).used.records f) 0 file_bytes (λ p g l. covered-in p)
