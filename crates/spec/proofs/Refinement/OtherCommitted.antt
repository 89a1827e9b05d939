-- A state with other committed offsets and lengths and other transactions: when its ranges hold, and which transactions mean the
-- same in it.
use mathlib.Core.{Bool.{true, false, ◌&&◌}, List.List, Logic.{◌⊎◌, inl, inr}, Path.{◌≡◌, refl, sym, ap, ap₂, ◌∙◌, fun_ext}}
use lib.{ListN.{length, get_or, replicate, length-replicate}, Dec.leb}
use Prim.Native.Nat.{ℕ, zero, suc, ◌≤◌, ◌<◌}
use native.Mathlib.Omega.{arith}
use Rattle.limits.specs.Limits.{file_count, file_bytes, descriptor_count, last_descriptor, transaction_count}
use Rattle.standings.specs.declared.{Standing.{Standing, TheVariants.Untouched}}
use Rattle.state.specs.declared.{Descriptor.Descriptor, Transaction.Transaction, StoreMeaning.StoreMeaning}
use Rattle.state.specs.declared.journal.WriteRecord.{WriteRecord}
use Rattle.state.specs.StoreMeaning.{transaction, standing_at, dirty_at, no_descriptor, no_transaction, ended, begun, with_offsets}
use Rattle.state.specs.{StoreMeaning.{with_lengths, with_transactions}, Journal.write_record_at}
use Rattle.admission.specs.{FirstRefusal.sum, Admission.{standing_in, place_in, record_in, lengths_before}}
use Rattle.admission.proofs.Laws.{TransactionInRange, InRange}
use Rattle.buffers.specs.Parts.{tabulate}
use Rattle.spec.specs.Transactions.{Txn}
use Rattle.spec.specs.{Machine.{txn_of, write_at, data_start, values}, Items.{Item, byte, offset, file_length}}
use Rattle.spec.proofs.Refinement.Relation.{Shaped}

-- The state with other committed offsets and lengths and other transactions.
abbrev pub renewed : List ℕ → List ℕ → List Transaction → StoreMeaning → StoreMeaning
renewed offsets lengths ts s = with_offsets offsets (with_lengths lengths (with_transactions ts s))

-- A transaction that differs at most in being stale.
pub record AlikeElsewhere (x y : Transaction) : Type 0 where
  pub begun : y.begun ≡ x.begun
  pub lengthmarks : y.lengthmarks ≡ x.lengthmarks
  pub used : y.used ≡ x.used
  pub descriptors : y.descriptors ≡ x.descriptors

-- "an empty log, sixteen Untouched descriptors", and no length sighted
pub record Bare (y : Transaction) : Type 0 where
  pub lengthmarks : y.lengthmarks ≡ 0
  pub records : y.used.records ≡ 0
  pub bytes : y.used.bytes ≡ 0
  pub descriptors : y.descriptors ≡ replicate descriptor_count no_descriptor

pub ended-bare : Bare ended
ended-bare = unfold ended in record { lengthmarks = refl; records = refl; bytes = refl; descriptors = refl }

pub begun-bare : Bare begun
begun-bare = unfold begun ended in record { lengthmarks = refl; records = refl; bytes = refl; descriptors = refl }

untouched : (n d : ℕ) → (get_or (replicate n no_descriptor) d no_descriptor).standing ≡ Untouched
untouched zero d = refl
untouched (suc n) zero = refl
untouched (suc n) (suc d) = untouched n d

clean : (n d : ℕ) → (get_or (replicate n no_descriptor) d no_descriptor).dirty ≡ false
clean zero d = refl
clean (suc n) zero = refl
clean (suc n) (suc d) = clean n d

pub bare-standing : (y : Transaction) → Bare y → (d : ℕ) → standing_at y d ≡ Untouched
bare-standing y b d = rw b.descriptors (untouched 16 d)

pub bare-dirty : (y : Transaction) → Bare y → (d : ℕ) → dirty_at y d ≡ false
bare-dirty y b d = rw b.descriptors (clean 16 d)

-- A transaction that is alike is in range too.
module _ (x y : Transaction) (a : AlikeElsewhere x y) where
  alike-standing : (d : ℕ) → standing_at y d ≡ standing_at x d
  alike-standing d = ap (λ (ds : List Descriptor). (get_or ds d no_descriptor).standing) a.descriptors

  alike-record : (w : WriteRecord) → record_in y w ≡ record_in x w
  unfolding record_in
  alike-record w = ap (λ (z : Standing). leb w.descriptor last_descriptor && place_in z w.place w.length)
      (alike-standing w.descriptor)

  alike-range : (journal : List ℕ) (u : ℕ) → TransactionInRange x journal u → TransactionInRange y journal u
  alike-range journal u r = record {
    standings = λ d l. ap standing_in (alike-standing d) ∙ r.standings d l;
    records = rw a.used r.records;
    bytes = rw a.used r.bytes;
    total = rw a.used r.total;
    writes = λ k l. alike-record (write_record_at journal u k) ∙ r.writes k (rw a.used at l);
  }

module _ (offsets lengths : List ℕ) (ts : List Transaction) (s : StoreMeaning) (journal : List ℕ) (u : ℕ) where
  bare-in : Bare (get_or ts u no_transaction) → TransactionInRange (get_or ts u no_transaction) journal u
  bare-in b = unfold standing_in lengths_before sum in record {
    standings = λ d l. rw (bare-standing (get_or ts u no_transaction) b d);
    records = omega (arith, b.records);
    bytes = omega (arith, b.bytes);
    total = rw (b.records, b.bytes);
    writes = λ k l. absurd (omega (arith, b.records));
  }

  -- It stands for the same writes and standings.
  pub alike-txn : (logs : List ℕ) → AlikeElsewhere (transaction s u) (get_or ts u no_transaction)
      → txn_of (renewed offsets lengths ts s) journal logs u ≡ txn_of s journal logs u
  alike-txn logs a = unfold txn_of in ap₂ made a.descriptors used
    where
      made : List Descriptor → ℕ → Txn
      made ds n = record {
        standing = λ d. (get_or ds d no_descriptor).standing;
        dirty = λ d. (get_or ds d no_descriptor).dirty;
        writes = tabulate (write_at journal logs u) n;
      }

      used : (get_or ts u no_transaction).used.records ≡ (transaction s u).used.records
      used = rw a.used refl

-- What becomes of a transaction at the end of another: it stays, or it is bare.
abbrev pub Carried : Transaction → Transaction → Type 0
Carried x y = AlikeElsewhere x y ⊎ Bare y

carried-in : (offsets lengths : List ℕ) (ts : List Transaction) (s : StoreMeaning) (journal : List ℕ) (u : ℕ) → Carried
    (transaction s u) (get_or ts u no_transaction) → (get_or ts u no_transaction).begun ≡ true → ((transaction s u).begun ≡ true
    → TransactionInRange (transaction s u) journal u) → TransactionInRange (get_or ts u no_transaction) journal u
carried-in offsets lengths ts s journal u (inl a) b h = alike-range (transaction s u) (get_or ts u no_transaction) a journal u
    (h (sym a.begun ∙ b))
carried-in offsets lengths ts s journal u (inr y) b h = bare-in offsets lengths ts s journal u y

carried-length : (x y : Transaction) → Carried x y → length x.descriptors ≡ descriptor_count
    → length y.descriptors ≡ descriptor_count
carried-length x y (inl a) e = ap length a.descriptors ∙ e
carried-length x y (inr b) e = ap length b.descriptors ∙ length-replicate 16 no_descriptor

module _ (offsets lengths : List ℕ) (ts : List Transaction) (s : StoreMeaning) (journal : List ℕ)
    (carried : (u : ℕ) → u < transaction_count → Carried (transaction s u) (get_or ts u no_transaction)) where
  pub renewed-in : ((d : ℕ) → d < descriptor_count → get_or offsets d 0 ≤ file_bytes) → ((f : ℕ) → f < file_count
      → get_or lengths f 0 ≤ file_bytes) → InRange s journal → InRange (renewed offsets lengths ts s) journal
  renewed-in h k r = record {
    files = r.files;
    offsets = h;
    lengths = k;
    windows = r.windows;
    undo = r.undo;
    transactions = λ u l b. carried-in offsets lengths ts s journal u (carried u l) b (r.transactions u l);
  }

  pub renewed-shaped : length offsets ≡ descriptor_count → length lengths ≡ file_count → length ts ≡ 8 → Shaped s
      → Shaped (renewed offsets lengths ts s)
  renewed-shaped e k f r = record {
    files = r.files;
    offsets = e;
    lengths = k;
    windows = r.windows;
    found_offsets = r.found_offsets;
    found_lengths = r.found_lengths;
    transactions = f;
    descriptors = λ u l. carried-length (transaction s u) (get_or ts u no_transaction) (carried u l) (r.descriptors u l);
  }

-- The committed values of the same offsets and lengths.
pub same-values : (ts : List Transaction) (s : StoreMeaning) (files : List ℕ)
    → values (renewed s.offsets s.lengths ts s) files ≡ values s files
unfolding values
same-values ts s files = fun_ext each
  where
    each : (i : Item) → values (renewed s.offsets s.lengths ts s) files i ≡ values s files i
    each (byte q) = refl
    each (offset d) = refl
    each (file_length f) = refl
