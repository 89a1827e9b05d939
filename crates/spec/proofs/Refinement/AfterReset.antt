-- The store after transaction t has been reset or committed: other offsets, lengths, transactions and files, and the marks of t
-- cleared.
use mathlib.Core.{Bool.{Bool, false, cond}, List.List, Path.{◌≡◌, refl, ◌∙◌, fun_ext}}
use lib.ListN.{length, get_or}
use Prim.Native.Nat.{ℕ, ◌≤◌, ◌<◌}
use native.Mathlib.Omega.{arith}
use borrow.Author.Tests.{le-leb, lt-leb, ne_eqb, eq-eqb}
use Rattle.limits.specs.Limits.{file_count, file_bytes, buffer_bytes, descriptor_count, transaction_count, last_transaction}
use Rattle.buffers.{specs.Marks.{has_mark, without_marks, contains}, proofs.MarkLaws.{length-without-marks, has-without-marks}}
use Rattle.state.specs.{declared.Transaction.Transaction, StoreMeaning.{transaction, no_transaction}}
use Rattle.admission.proofs.Laws.{in-range, in-range-intro}
use Rattle.spec.specs.Machine.{Machine, with_store, with_files, with_marking}
use Rattle.spec.proofs.{Abstract.AbstractStore.{OpenTxn, vacant, occupied}, Refinement.Relation.{open_txn_in, seat, Sound}}
use Rattle.spec.proofs.Refinement.OtherCommitted.{renewed, AlikeElsewhere, Carried, alike-txn, renewed-in, renewed-shaped}

abbrev pub ending : ℕ → List ℕ → List ℕ → List Transaction → List ℕ → Machine → Machine
ending t offsets lengths ts files m =
    with_store (renewed offsets lengths ts m.store) (with_files files (with_marking (without_marks t m.marks) m))

-- What a transaction holds, stale or not.
abbrev pub stale_as : OpenTxn → Bool → OpenTxn
stale_as h b = record { txn = h.txn; marked = h.marked; lengths = h.lengths; stale = b }

-- ---- seats

pub seat-in : (m : Machine) (u : ℕ) (b : Bool) (h : OpenTxn) → u < transaction_count → (transaction m.store u).begun ≡ b
    → open_txn_in m u ≡ h → seat m u ≡ cond b (occupied h) vacant
seat-in m u b h l e f = unfold seat in rw (le-leb u last_transaction (omega arith), e, f)

pub seat-out : (m : Machine) (u : ℕ) → transaction_count ≤ u → seat m u ≡ vacant
seat-out m u l = unfold seat in rw (lt-leb u last_transaction (omega arith))

-- ---- marks

module _ (t : ℕ) (marks : List ℕ) where
  pub unmarked-own : (q : ℕ) → has_mark (without_marks t marks) t q ≡ false
  unmarked-own q = has-without-marks t t q marks ∙ rw (eq-eqb t t refl)

  pub unmarked-other : (u q : ℕ) → (u ≡ t → ⊥) → has_mark (without_marks t marks) u q ≡ has_mark marks u q
  unmarked-other u q other = has-without-marks t u q marks ∙ rw (ne_eqb u t other)

-- ---- the whole

module _ (t : ℕ) (offsets lengths : List ℕ) (ts : List Transaction) (files : List ℕ) (m : Machine) where
  pub ending-sound : Sound m → ((u : ℕ) → u < transaction_count
      → Carried (transaction m.store u) (get_or ts u no_transaction)) → length offsets ≡ descriptor_count → ((d : ℕ)
      → d < descriptor_count → get_or offsets d 0 ≤ file_bytes) → length lengths ≡ file_count → ((f : ℕ) → f < file_count → get_or
      lengths f 0 ≤ file_bytes) → length ts ≡ 8 → length files ≡ buffer_bytes → Sound (ending t offsets lengths ts files m)
  ending-sound sound carried e h j k f g = record {
    shaped = renewed-shaped offsets lengths ts m.store m.journal carried e j f sound.shaped;
    journal = sound.journal;
    files = g;
    logs = sound.logs;
    marks = length-without-marks t m.marks ∙ sound.marks;
    undo = sound.undo;
    in_range = in-range-intro (renewed offsets lengths ts m.store) m.journal (renewed-in offsets lengths ts m.store
        m.journal carried h k (in-range m.store m.journal sound.in_range));
  }

  -- Another transaction that is alike keeps what it holds.
  pub ending-open : (u : ℕ) → (u ≡ t → ⊥) → AlikeElsewhere (transaction m.store u) (get_or ts u no_transaction)
      → open_txn_in (ending t offsets lengths ts files m) u ≡ stale_as (open_txn_in m u) (get_or ts u no_transaction).stale
  ending-open u other a = unfold open_txn_in in let e = alike-txn offsets lengths ts m.store m.journal u m.logs a in
      let f : has_mark (without_marks t m.marks) u ≡ has_mark m.marks u =
      fun_ext (λ q. unmarked-other t m.marks u q other) in
      λ i. record { txn = e i; marked = f i; lengths = contains (a.lengthmarks i); stale = (get_or ts u no_transaction).stale }

  pub ending-seat : (u : ℕ) → u < transaction_count → (u ≡ t → ⊥) → AlikeElsewhere (transaction m.store u)
      (get_or ts u no_transaction) → seat (ending t offsets lengths ts files m) u ≡ cond (transaction m.store u).begun
      (occupied (stale_as (open_txn_in m u) (get_or ts u no_transaction).stale)) vacant
  ending-seat u l other a = seat-in (ending t offsets lengths ts files m) u (transaction m.store u).begun
      (stale_as (open_txn_in m u) (get_or ts u no_transaction).stale) l a.begun (ending-open u other a)
