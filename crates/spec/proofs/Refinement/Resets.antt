-- `reset`, of Begin, Abort and a Commit of a stale transaction: one seat changes, and the store stays sound.
use mathlib.Core.{Bool.{Bool, true, false, cond}, List.{List, []}, Logic.{◌⊎◌, inl, inr}, Path.{◌≡◌, refl, sym, ap, ◌∙◌, fun_ext}}
use lib.{Dec.eqb, ListN.{get_or, set, length-set}, Seq.{get_or-set_same, get_or-set_other}}
use Prim.Native.Nat.{ℕ, ◌≤◌, ◌<◌}
use native.Mathlib.Omega.{arith}
use borrow.Author.Tests.{eqb-true, eqb-false}
use Rattle.limits.specs.Limits.{transaction_count}
use Rattle.buffers.{proofs.{PartLaws.le-or-lt, MarkLaws.contains-none}, specs.Marks.{has_mark, without_marks, contains}}
use Rattle.buffers.specs.Parts.{tabulate}
use Rattle.standings.specs.declared.{Standing.{Standing, TheVariants.Untouched}}
use Rattle.state.specs.declared.Transaction.{Transaction}
use Rattle.state.specs.StoreMeaning.{transaction, standing_at, dirty_at, no_transaction, window_at, with_transaction}
use Rattle.admission.proofs.Laws.{in-range}
use Rattle.spec.specs.{Machine.{Machine, file_of, txn_of, write_at}, Transactions.{empty, put}, Calls.reset}
use Rattle.spec.proofs.Abstract.AbstractStore.{Seat, vacant, occupied, with_seat}
use Rattle.spec.proofs.Refinement.Relation.{open_txn_in, seat, view, Sound}
use Rattle.spec.proofs.Refinement.OtherCommitted.{AlikeElsewhere, Bare, Carried, bare-standing, bare-dirty, same-values}
use Rattle.spec.proofs.Refinement.UndoValues.{back-same}
use Rattle.spec.proofs.Refinement.AfterReset.{ending, stale_as, seat-in, seat-out, unmarked-own, ending-sound, ending-seat}

alike_same : (x y : Transaction) → y ≡ x → AlikeElsewhere x y
alike_same x y e = rw e (record { begun = refl; lengthmarks = refl; used = refl; descriptors = refl })

-- A bare transaction stands for an empty one.
pub bare-txn : (m : Machine) (t : ℕ) → Bare (transaction m.store t) → txn_of m.store m.journal m.logs t ≡ empty
unfolding txn_of empty tabulate
bare-txn m t b = let f : ◌≡◌ {A = ℕ → Standing} (standing_at (transaction m.store t)) (λ d. Untouched) =
    fun_ext (bare-standing (transaction m.store t) b) in
    let g : tabulate (write_at m.journal m.logs t) (transaction m.store t).used.records ≡ [] = rw b.records in
    let c : ◌≡◌ {A = ℕ → Bool} (dirty_at (transaction m.store t)) (λ d. false) =
    fun_ext (bare-dirty (transaction m.store t) b) in λ i. record { standing = f i; dirty = c i; writes = g i }

-- What a bare transaction stands for.
abbrev pub new_seat : Transaction → Seat
new_seat x = cond x.begun
    (occupied (record { txn = empty; marked = λ q. false; lengths = λ f. false; stale = x.stale })) vacant

module _ (t : ℕ) (x : Transaction) (m : Machine) (small : t < transaction_count) (bare : Bare x) (sound : Sound m) where
  ts : List Transaction
  ts = set m.store.transactions t x

  own : get_or ts t no_transaction ≡ x
  own = unfold ts in get_or-set_same m.store.transactions t x no_transaction (omega (arith, sound.shaped.transactions))

  other : (u : ℕ) → (u ≡ t → ⊥) → get_or ts u no_transaction ≡ transaction m.store u
  other u h = unfold ts in get_or-set_other m.store.transactions t u x no_transaction h

  carried : (u : ℕ) (b : Bool) → eqb u t ≡ b → Carried (transaction m.store u) (get_or ts u no_transaction)
  carried u true e = inr (rw (eqb-true u t e, own) bare)
  carried u false e = inl (alike_same (transaction m.store u) (get_or ts u no_transaction) (other u (eqb-false u t e)))

  pub reset-sound : Sound (reset t x m)
  reset-sound = unfold reset with_transaction ts in let r = in-range m.store m.journal sound.in_range in
      ending-sound t m.store.offsets m.store.lengths ts m.files m sound (λ u l. carried u (eqb u t) refl)
      sound.shaped.offsets r.offsets sound.shaped.lengths r.lengths (length-set m.store.transactions t x
      ∙ sound.shaped.transactions) sound.files

  after : Machine
  after = ending t m.store.offsets m.store.lengths ts m.files m

  own_open : open_txn_in after t ≡ record { txn = empty; marked = λ q. false; lengths = λ f. false; stale = x.stale }
  unfolding open_txn_in after
  own_open = let e = bare-txn after t (rw own bare) in
      let f : ◌≡◌ {A = ℕ → Bool} (has_mark (without_marks t m.marks) t) (λ q. false) = fun_ext (unmarked-own t
      m.marks) in let g : (get_or ts t no_transaction).stale ≡ x.stale = ap (λ (z : Transaction). z.stale) own in
      let l : ◌≡◌ {A = ℕ → Bool} (contains (get_or ts t no_transaction).lengthmarks) (λ f. false) =
      ap (λ (z : Transaction). contains z.lengthmarks) own ∙ ap contains bare.lengthmarks ∙ fun_ext none in
      λ i. record { txn = e i; marked = f i; lengths = l i; stale = g i }
    where
      none : (f : ℕ) → contains 0 f ≡ false
      none f = contains-none f

  seat-own : seat after t ≡ new_seat x
  seat-own = unfold after in
      seat-in after t x.begun (record { txn = empty; marked = λ q. false; lengths = λ f. false; stale = x.stale }) small
      (ap (λ (z : Transaction). z.begun) own) own_open

  seat-other : (u : ℕ) → (u ≡ t → ⊥) → (transaction_count ≤ u) ⊎ (u < transaction_count) → seat after u ≡ seat m u
  unfolding open_txn_in after
  seat-other u h (inl l) = seat-out after u l ∙ sym (seat-out m u l)
  seat-other u h (inr l) = ending-seat t m.store.offsets m.store.lengths ts m.files m u l h
      (alike_same (transaction m.store u) (get_or ts u no_transaction) (other u h)) ∙ ap (λ (y : Transaction). cond
      (transaction m.store u).begun (occupied (stale_as (open_txn_in m u) y.stale)) vacant) (other u h)
      ∙ sym (seat-in m u (transaction m.store u).begun (open_txn_in m u) l refl refl)

  seats : (u : ℕ) (b : Bool) → eqb u t ≡ b → seat after u ≡ cond b (new_seat x) (seat m u)
  seats u true e = rw (eqb-true u t e) seat-own
  seats u false e = seat-other u (eqb-false u t e) (le-or-lt 8 u)

  pub reset-view : view (reset t x m) ≡ with_seat t (new_seat x) (view m)
  unfolding view with_seat reset with_transaction put file_of ts after
  reset-view = let e : ◌≡◌ {A = ℕ → Seat} (seat (reset t x m)) (put t (new_seat x) (seat m)) =
      fun_ext (λ u. seats u (eqb u t) refl) in let f = same-values ts m.store m.files in
      let b = back-same m after (λ h k l. refl) refl refl refl refl in
      λ i. record { file_of = file_of m.store; value = f i; windows = window_at m.store; back = b i; seats = e i }
