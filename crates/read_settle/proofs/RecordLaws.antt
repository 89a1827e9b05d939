-- Laws of write records after settling: one record, and the records of a transaction so far.
use mathlib.Core.{Bool.{Bool, true, false, cond}, List.List, Path.{◌≡◌, refl, sym, ap, ap₂, ◌∙◌}}
use lib.ListN.{length, get_or}
use Prim.Native.Nat.{ℕ, ◌+◌, ◌<◌}
use Rattle.limits.specs.Limits.{descriptor_count, record_count}
use Rattle.standings.specs.declared.{Place.{Place, TheVariants.{At, After}}}
use Rattle.state.specs.declared.{StoreMeaning.StoreMeaning, journal.WriteRecord.WriteRecord}
use Rattle.state.specs.{Journal.{write_record_at, with_record_at}, Layout.{store_of, journal_of, state_length}}
use Rattle.state.proofs.JournalLaws.{length-with-at, with-own, with_none, with-more, with-same, with-own-records, read_next}
use Rattle.state.proofs.LayoutLaws.{length-journal, journal-with-record, store-with-record}
use Rattle.spec.specs.Transactions.{placed_at}
use Rattle.read_settle.specs.Records.{record_after, placed_records, PlacedIn}

-- ---- one record

module _ (chosen : List Bool) (offsets : List ℕ) (w : WriteRecord) where
  -- It stays as it is where it had a place,
  pub after-placed : (p : ℕ) → w.place ≡ At p → record_after chosen offsets w ≡ w
  unfolding record_after
  after-placed p e = ap (λ (q : Place). record { descriptor = w.descriptor; place = q; length = w.length })
      (pick w.place (get_or chosen w.descriptor false) e)
    where
      pick : (q : Place) (b : Bool) → q ≡ At p → cond b (placed_at (get_or offsets w.descriptor 0) q) q ≡ q
      pick q true e = unfold placed_at in rw e
      pick q false e = refl

  module _ (d : ℕ) (is : d ≡ w.descriptor) where
    -- or where its descriptor is not chosen;
    pub after-preserved : get_or chosen d false ≡ false → record_after chosen offsets w ≡ w
    after-preserved e = unfold record_after in rw (rw is at e)

    -- otherwise it gets one.
    pub after-settled : (a : ℕ) → w.place ≡ After a → get_or chosen d false ≡ true → (c : ℕ) → c ≡ get_or offsets d 0
        → record_after chosen offsets w ≡ record { descriptor = w.descriptor; place = At (c + a); length = w.length }
    after-settled a e b c o = unfold record_after placed_at in rw (rw is at b, e, o, is)

-- ---- the records of a transaction

module _ (chosen : List Bool) (t : ℕ) (before : List ℕ) (long : length before ≡ state_length) where
  pub placed-none : PlacedIn chosen t 0 before before
  unfolding placed_records
  placed-none = record { journal = sym (with_none (journal_of before) t _); store = refl; long = long }

  -- Where nothing is chosen, nothing changes.
  pub placed-preserved : (n : ℕ) → ((k : ℕ) → k < n → (write_record_at (journal_of before) t k).descriptor < descriptor_count)
      → ((e : ℕ) → e < descriptor_count → get_or chosen e false ≡ false) → PlacedIn chosen t n before before
  placed-preserved n low none = unfold placed_records in let own = write_record_at (journal_of before) t in
      let offsets = (store_of before).offsets in record {
        journal = sym (with-same (journal_of before) t (λ k. record_after chosen offsets (own k)) own n
            (λ k h. after-preserved chosen offsets (own k) _ refl (none (own k).descriptor (low k h)))
            ∙ with-own-records (journal_of before) t n);
        store = refl;
        long = long;
      }

-- The first k records are placed.
module _ (chosen : List Bool) (t k : ℕ) (before now : List ℕ) (placed : PlacedIn chosen t k before now) where
  pub offset-preserved : (d : ℕ) → get_or (store_of now).offsets d 0 ≡ get_or (store_of before).offsets d 0
  offset-preserved d = ap (λ (s : StoreMeaning). get_or s.offsets d 0) placed.store

  module _ (small : t < 9) (few : k < record_count) where
    -- The next record is not changed yet.
    pub next-record : write_record_at (journal_of now) t k ≡ write_record_at (journal_of before) t k
    unfolding placed_records
    next-record = ap (λ (j : List ℕ). write_record_at j t k) placed.journal
        ∙ read_next (journal_of before) t _ (length-journal before) small k few

    -- One record more, read as r.
    module _ (r : WriteRecord) (read : r ≡ write_record_at (journal_of now) t k) (after : List ℕ) where
      journal-more : (w : WriteRecord) → record_after chosen (store_of before).offsets r ≡ w
          → with_record_at (journal_of now) t k w ≡ placed_records chosen (store_of before).offsets (journal_of before) t (k + 1)
      unfolding placed_records
      journal-more w e = ap₂ (λ (j : List ℕ) (w : WriteRecord). with_record_at j t k w) placed.journal (sym e ∙ ap
          (record_after chosen (store_of before).offsets) (read ∙ next-record)) ∙ sym (with-more (journal_of before) t _ k)

      pub one_placed : (w : WriteRecord) → after ≡ with_record_at now t k w → record_after chosen (store_of before).offsets r ≡ w
          → PlacedIn chosen t (k + 1) before after
      one_placed w put e = record {
        journal = ap journal_of put ∙ journal-with-record now placed.long t k w small few ∙ journal-more w e;
        store = ap store_of put ∙ store-with-record now placed.long t k w small few ∙ placed.store;
        long = ap length put ∙ length-with-at now t k w ∙ placed.long;
      }

      pub one-preserved : after ≡ now → record_after chosen (store_of before).offsets r ≡ r
          → PlacedIn chosen t (k + 1) before after
      one-preserved same e = record {
        journal = ap journal_of same ∙ sym (ap (with_record_at (journal_of now) t k) read ∙ with-own (journal_of now) t k)
            ∙ journal-more r e;
        store = ap store_of same ∙ placed.store;
        long = ap length same ∙ placed.long;
      }
