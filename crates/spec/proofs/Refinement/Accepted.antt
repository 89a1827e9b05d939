-- An accepted step on a store in range: what the state and the buffers mean after it, and that they stay in range.
use mathlib.Core.{Bool.{Bool, true, false, cond, ◌&&◌}, List.List, Logic.⊎_elim, Path.{◌≡◌, refl, sym, ap, ap₂, ◌∙◌, fun_ext}}
use borrow.Author.Tests.{leb-true, le-leb, eq-eqb, ne_eqb}
use lib.{Dec.{leb, eqb}, ListN.{length, get_or, get_or-eq_default}, Seq.get_or-set_other}
use native.Mathlib.Omega.{arith}
use Prim.Native.Nat.{ℕ, ◌*◌, ◌≤◌, ◌<◌}
use Rattle.limits.specs.Limits.{file_count, last_file, file_bytes, descriptor_count, transaction_count, last_transaction, log_bytes}
use Rattle.buffers.{specs.Marks.contains, proofs.PartLaws.le-or-lt}
use Rattle.state.specs.declared.{Transaction.Transaction, StoreMeaning.StoreMeaning}
use Rattle.state.specs.{StoreMeaning.{transaction, no_transaction, window_at, with_transaction}, Outcomes.Said}
use Rattle.admission.proofs.Laws.{and_left, and_right, InRange, in-range}
use Rattle.spec.specs.{Items.{Item, byte, offset, file_length, Values, result, asked}, Transactions.{Txn, put}, Messages.Op}
use Rattle.spec.specs.Steps.{accept, step}
use Rattle.spec.specs.Machine.{Machine, with_store, with_journal, with_logs, with_marking, file_of, values, txn_of, with_txn}
use Rattle.spec.specs.{Machine.{journalled, holding, sighting_lengths}, Calls.{marked, logged}}
use Rattle.spec.proofs.Abstract.AbstractStore.{OpenTxn, vacant, occupied, mark_all, length_all, with_seat}
use Rattle.spec.proofs.Refinement.{Relation.{open_txn_in, seat, view, Sound, TxnIn}, IndexedLists.same_or_not}
use Rattle.spec.proofs.Refinement.Marks.{ItemsIn, length_marked, marked-own, marked_other, lengths-own}
use Rattle.spec.proofs.Refinement.{ItemsAsked.asked_in, StepPreserves.{pieces, pieces_after, Preserved, step-preserved}}
use Rattle.spec.proofs.Refinement.Decode.{data_before, Carries, total-pieces, decoded-total, decoded-carries, decoded-in}
use Rattle.spec.proofs.Refinement.{Others.{LogsApart, txn-same}, UndoValues.back-same}
use Rattle.spec.proofs.Refinement.Encode.{own-transaction, encoded, other-same, grant-same, encoded-in, encoded-shaped}
use Rattle.spec.proofs.Refinement.{Encode.encoded-long, Logged.{logged-carries, logged-apart}}

-- "files at most 7", of every number.
file-in : (s : StoreMeaning) (journal : List ℕ) → length s.filenumbers ≡ descriptor_count → InRange s journal → (d : ℕ)
    → file_of s d ≤ last_file
unfolding file_of
file-in s journal size r d = ⊎_elim beyond (r.files d) (le-or-lt 16 d)
  where
    beyond : descriptor_count ≤ d → get_or s.filenumbers d 0 ≤ last_file
    beyond l = rw (get_or-eq_default s.filenumbers 0 {n = d} (omega arith)) (omega arith)

-- "lengths, at most 4,096", of every number.
pub length-in : (s : StoreMeaning) (journal files : List ℕ) → length s.lengths ≡ file_count → InRange s journal → (f : ℕ)
    → values s files (file_length f) ≤ file_bytes
unfolding values
length-in s journal files size r f = ⊎_elim beyond (r.lengths f) (le-or-lt 8 f)
  where
    beyond : file_count ≤ f → get_or s.lengths f 0 ≤ file_bytes
    beyond l = rw (get_or-eq_default s.lengths 0 {n = f} (omega arith)) (omega arith)

-- What is vacant stays so, and what is held is the same.
seat-same : (b : Bool) (g h : OpenTxn) → (b ≡ true → g ≡ h) → cond b (occupied g) vacant ≡ cond b (occupied h) vacant
seat-same true g h e = ap occupied (e refl)
seat-same false g h e = refl

-- What a step of transaction t asks for.
unfoldable pub sightings : Machine → ℕ → Op → List Item
sightings m t o = asked (values m.store m.files) (step (file_of m.store) o (txn_of m.store m.journal m.logs t))

-- The store after a step that is accepted and leaves y, and transaction t then.
unfoldable pub machine_after : Machine → ℕ → Op → Txn → Machine
machine_after m t o y = with_store (with_txn t y (sightings m t o) m.store) (with_journal (journalled t y.writes
    m.journal) (with_logs (logged t o m.store m.logs) (with_marking (marked t (sightings m t o) m.marks) m)))

unfoldable pub logged-after : Machine → ℕ → Op → Txn → OpenTxn
logged-after m t o y = record {
  txn = y;
  marked = mark_all (sightings m t o) (open_txn_in m t).marked;
  lengths = length_all (sightings m t o) (open_txn_in m t).lengths;
  stale = (transaction m.store t).stale;
}

module _ (m : Machine) (t : ℕ) (o : Op) (sound : Sound m) (small : t < transaction_count)
    (begun : (transaction m.store t).begun ≡ true) where
  abbrev v : Values
  v = values m.store m.files

  abbrev x : Txn
  x = txn_of m.store m.journal m.logs t

  range : InRange m.store m.journal
  range = in-range m.store m.journal sound.in_range

  bounded : (f : ℕ) → v (file_length f) ≤ file_bytes
  bounded = length-in m.store m.journal m.files sound.shaped.lengths range

  txn-in : TxnIn x
  txn-in = decoded-in m.store m.journal m.logs t sound.logs small (range.transactions t small begun)
      (sound.shaped.descriptors t small)

  pub sightings-in : ItemsIn (sightings m t o)
  unfolding sightings
  sightings-in = asked_in v bounded (file_of m.store) (file-in m.store m.journal sound.shaped.files range) o x txn-in

  data-used : data_before (pieces x.writes) (length (pieces x.writes)) ≡ (transaction m.store t).used.bytes
  data-used = sym (total-pieces x.writes) ∙ decoded-total m.store m.journal m.logs t sound.logs small
      (range.transactions t small begun)

  module _ (y : Txn) (a : Said) (b : List ℕ) (e : result v (step (file_of m.store) o x) ≡ accept y a b) where
    abbrev after : Machine
    after = machine_after m t o y

    abbrev new : OpenTxn
    new = logged-after m t o y

    preserved : Preserved (pieces_after o (pieces x.writes)) y
    preserved = step-preserved (file_of m.store) v bounded o x y a b txn-in e

    data-in : data_before (pieces_after o (pieces x.writes)) (length (pieces_after o (pieces x.writes))) ≤ log_bytes
    data-in = rw (← preserved.same, ← total-pieces y.writes) preserved.ranges.bytes

    carries : Carries (logged t o m.store m.logs) (log_bytes * t) (pieces y.writes)
    carries = rw preserved.same
        (logged-carries m.store t m.logs (pieces x.writes) small sound.logs data-used o data-in
        (decoded-carries m.store m.journal m.logs t sound.logs small (range.transactions t small begun)))

    apart : LogsApart t (logged t o m.store m.logs) m.logs
    apart = logged-apart m.store t m.logs (pieces x.writes) small sound.logs data-used o data-in

    pub sound-after : Sound after
    sound-after = unfold machine_after in record {
      shaped = encoded-shaped m.store m.journal t y (sightings m t o) sound.shaped sound.journal small
          preserved.ranges;
      journal = encoded-long m.store m.journal t y (sightings m t o) sound.shaped sound.journal small
          preserved.ranges;
      files = sound.files;
      logs = apart.size ∙ sound.logs;
      marks = length_marked t (sightings m t o) m.marks ∙ sound.marks;
      undo = sound.undo;
      in_range = encoded-in m.store m.journal t y (sightings m t o) sound.shaped sound.journal small
          preserved.ranges sound.in_range;
    }

    own_open : open_txn_in after t ≡ new
    unfolding machine_after logged-after open_txn_in holding sighting_lengths
    own_open = let h = own-transaction m.store m.journal t y (sightings m t o) sound.shaped sound.journal small
        preserved.ranges in λ i. record {
          txn = encoded m.store m.journal t y (sightings m t o) sound.shaped sound.journal small
              preserved.ranges (logged t o m.store m.logs) carries i;
          marked = marked-own t (sightings m t o) m.marks small sound.marks sightings-in i;
          lengths = (ap (λ (z : Transaction). contains z.lengthmarks) h
              ∙ lengths-own (sightings m t o) (transaction m.store t).lengthmarks) i;
          stale = (h i).stale;
        }

    own-seat : seat after t ≡ occupied new
    unfolding seat machine_after holding sighting_lengths
    own-seat = let h = own-transaction m.store m.journal t y (sightings m t o) sound.shaped sound.journal small
        preserved.ranges in
        ap (λ (c : Bool). cond c (occupied (open_txn_in after t)) vacant) (ap₂ (λ (p q : Bool). p && q)
        (le-leb t last_transaction (omega arith)) (ap (λ (z : Transaction). z.begun) h ∙ begun)) ∙ ap occupied own_open

    other-seat : (u : ℕ) → (u ≡ t → ⊥) → seat after u ≡ seat m u
    other-seat u other = unfold seat machine_after open_txn_in with_txn with_transaction in
        ap (λ (z : Transaction). cond (leb u last_transaction && z.begun) (occupied (open_txn_in after u)) vacant)
        (get_or-set_other m.store.transactions t u (holding y (sighting_lengths (sightings m t o) (transaction m.store
        t))) no_transaction other) ∙ seat-same (leb u last_transaction && (transaction m.store u).begun) (open_txn_in after u)
        (open_txn_in m u) (λ q. let l = leb-true u last_transaction (and_left (leb u last_transaction)
        (transaction m.store u).begun q) in let same = other-same m.store m.journal t y (sightings m t o)
        sound.shaped sound.journal small preserved.ranges u (omega arith) other in let r = range.transactions u
        (omega arith) (and_right (leb u last_transaction) (transaction m.store u).begun q) in λ i. record {
          txn = txn-same (with_txn t y (sightings m t o) m.store) (journalled t y.writes m.journal) m.store
              m.journal u same t (logged t o m.store m.logs) m.logs apart sound.logs other (omega arith) r i;
          marked = λ p. marked_other t u (sightings m t o) m.marks small sound.marks sightings-in other p i;
          lengths = contains (same.transaction i).lengthmarks;
          stale = (same.transaction i).stale;
        })

    seats-after : (u : ℕ) → seat after u ≡ put t (occupied new) (seat m) u
    unfolding put
    seats-after u = ⊎_elim here elsewhere (same_or_not u t)
      where
        here : u ≡ t → seat after u ≡ cond (eqb u t) (occupied new) (seat m u)
        here q = rw (q, eq-eqb t t refl) own-seat

        elsewhere : (u ≡ t → ⊥) → seat after u ≡ cond (eqb u t) (occupied new) (seat m u)
        elsewhere ne = rw (ne_eqb u t ne) (other-seat u ne)

    values-after : (i : Item) → values after.store after.files i ≡ values m.store m.files i
    unfolding values machine_after with_txn with_transaction
    values-after (byte q) = refl
    values-after (offset d) = refl
    values-after (file_length f) = refl

    pub view-after : view after ≡ with_seat t (occupied new) (view m)
    unfolding view with_seat machine_after file_of with_txn with_transaction
    view-after = let b = back-same m after (grant-same m.store m.journal t y (sightings m t o) sound.shaped
        sound.journal small preserved.ranges range) refl refl refl refl in λ i. record {
          file_of = file_of m.store;
          value = fun_ext values-after i;
          windows = window_at m.store;
          back = b i;
          seats = fun_ext seats-after i;
        }
