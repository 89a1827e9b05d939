-- A granted Commit: the octet, the landed files and offsets, the flags of the others, and the store stays sound.
use mathlib.Core.{Bool.{Bool, true, false, cond, ◌&&◌, ◌||◌}, List.{List, []}, Logic.{◌⊎◌, inl, inr}}
use mathlib.Core.Path.{◌≡◌, refl, sym, ap, ◌∙◌, fun_ext, subst}
use lib.{Dec.eqb, ListN.get_or}
use Prim.Native.Nat.{ℕ, ◌≤◌, ◌<◌}
use borrow.Author.Tests.{eqb-true, eqb-false, eq-eqb, ne_eqb}
use Rattle.limits.specs.Limits.{transaction_count}
use Rattle.buffers.{proofs.{PartLaws.le-or-lt, TableLaws.{length-tabulate, get_d_tabulate}}, specs.{Parts.tabulate, Bits.bits_of}}
use Rattle.state.specs.{declared.Transaction.Transaction, StoreMeaning.{transaction, no_transaction, ended, window_at, with_stale}}
use Rattle.state.specs.Outcomes.{granted}
use Rattle.admission.proofs.Laws.{in-range}
use Rattle.spec.specs.{Transactions.{put, Txn}, Items.{Item, byte, offset, file_length}}
use Rattle.spec.specs.{Commits.{Setting, landed, settings, fits}, Machine.{Machine, file_of, values}, Undo.saving_undo}
use Rattle.spec.specs.Calls.{Turn, land_files, land_offsets, land_lengths, conflicts, made_stale, after_commit, commit_granted}
use Rattle.spec.proofs.Abstract.AbstractStore.{Seat, vacant, occupied, preserved, touch, newly_stale, granting}
use Rattle.spec.proofs.Refinement.Relation.{open_txn_in, seat, back_values, back_in, view, Sound, TxnIn}
use Rattle.spec.proofs.Refinement.OtherCommitted.{ended-bare, AlikeElsewhere, Carried, same-values}
use Rattle.spec.proofs.Refinement.AfterReset.{ending, stale_as, seat-in, seat-out, ending-sound, ending-seat}
use Rattle.spec.proofs.Refinement.{SettingsIn.{AllIn, settings-in}, UndoSaved.{keeping-sound, keeping-seat, files-back}}
use Rattle.spec.proofs.Refinement.Landing.{length-files, length-offsets, length-lengths, limit-landed, limit-lengths}
use Rattle.spec.proofs.Refinement.Landing.{all-landed, files-land, offsets-land, lengths-land}
use Rattle.spec.proofs.Refinement.Conflicts.{conflicts-hit, octet-same, stale-after}

-- A granted Commit on a store that keeps what it found already.
unfoldable pub granted_on : ℕ → List Setting → Machine → Turn
granted_on t ss m = let s = m.store in record {
  reply = record { answer = granted (bits_of (made_stale t ss m) 8); buffer = [] };
  after = ending t (land_offsets ss s.offsets) (land_lengths ss s.lengths) (tabulate (after_commit t ss m) 8)
      (land_files ss m.files) m;
}

pub preserved-first : (t : ℕ) (x : Txn) (ss : List Setting) (m : Machine) → commit_granted t x ss m
    ≡ granted_on t ss (saving_undo x m)
unfolding commit_granted granted_on saving_undo after_commit made_stale
preserved-first t x ss m = let s = m.store in let ts = tabulate (after_commit t ss m) transaction_count in λ i. record {
  reply = record { answer = granted (bits_of (made_stale t ss m) 8); buffer = [] };
  after = ending t (sym (offsets-land ss s m.files) i) (sym (lengths-land ss s m.files) i) ts
      (sym (files-land ss s m.files) i) (saving_undo x m);
}

module _ (m : Machine) (t : ℕ) (ss : List Setting) where
  ts : List Transaction
  ts = tabulate (after_commit t ss m) 8

  after : Machine
  after = ending t (land_offsets ss m.store.offsets) (land_lengths ss m.store.lengths) ts (land_files ss m.files) m

  -- The flag of u after it.
  abbrev flag : ℕ → Bool
  flag u = (transaction m.store u).stale || made_stale t ss m u

  at-commit : (u : ℕ) → u < transaction_count → (b : Bool) → eqb u t ≡ b
      → get_or ts u no_transaction ≡ cond b ended (with_stale (flag u) (transaction m.store u))
  at-commit u l b e = unfold ts after_commit in get_d_tabulate (after_commit t ss m) 8 u no_transaction l ∙ rw e

  flagged_alike : (u : ℕ) (y : Transaction) → y ≡ with_stale (flag u) (transaction m.store u)
      → AlikeElsewhere (transaction m.store u) y
  flagged_alike u y e = rw e (record { begun = refl; lengthmarks = refl; used = refl; descriptors = refl })

  carried : (u : ℕ) → u < transaction_count → (b : Bool) → eqb u t ≡ b
      → Carried (transaction m.store u) (get_or ts u no_transaction)
  carried u l true e = inr (rw (at-commit u l true e) ended-bare)
  carried u l false e = inl (flagged_alike u (get_or ts u no_transaction) (at-commit u l false e))

  -- ---- seats

  own-seat : t < transaction_count → seat after t ≡ vacant
  unfolding after ended
  own-seat l = seat-in after t false (open_txn_in after t) l
      (ap (λ (y : Transaction). y.begun) (at-commit t l true (eq-eqb t t refl))) refl

  -- Another transaction, open or not.
  touched : (u : ℕ) (c : Bool) → cond c (occupied (stale_as (open_txn_in m u)
      ((transaction m.store u).stale || (c && conflicts m.marks u (transaction m.store u) ss)))) vacant ≡ touch ss
      (cond c (occupied (open_txn_in m u)) vacant)
  unfolding touch open_txn_in
  touched u true =
      ap (λ (b : Bool). occupied (stale_as (open_txn_in m u) ((transaction m.store u).stale || b))) (conflicts-hit m u ss)
  touched u false = refl

  module _ (small : t < transaction_count) where
    other-seat : (u : ℕ) → (u ≡ t → ⊥) → (transaction_count ≤ u) ⊎ (u < transaction_count) → seat after u ≡ touch ss (seat m u)
    unfolding after touch
    other-seat u h (inl l) = seat-out after u l ∙ ap (touch ss) (sym (seat-out m u l))
    other-seat u h (inr l) = let e = at-commit u l false (ne_eqb u t h) in
        ending-seat t (land_offsets ss m.store.offsets) (land_lengths ss m.store.lengths) ts (land_files ss m.files)
        m u l h (flagged_alike u (get_or ts u no_transaction) e) ∙ ap (λ (y : Transaction). cond
        (transaction m.store u).begun (occupied (stale_as (open_txn_in m u) y.stale)) vacant) e
        ∙ ap (λ (b : Bool). cond (transaction m.store u).begun (occupied (stale_as (open_txn_in m u) b)) vacant)
        (stale-after m t ss u (ne_eqb u t h)) ∙ touched u (transaction m.store u).begun
        ∙ ap (touch ss) (sym (seat-in m u (transaction m.store u).begun (open_txn_in m u) l refl refl))

    seats : (u : ℕ) (b : Bool) → eqb u t ≡ b → seat after u ≡ touch ss (cond b vacant (seat m u))
    unfolding touch
    seats u true e = rw (eqb-true u t e) (own-seat small)
    seats u false e = other-seat u (eqb-false u t e) (le-or-lt 8 u)

    module _ (sound : Sound m) (inside : AllIn ss) where
      on-sound : Sound (granted_on t ss m).after
      on-sound = unfold granted_on after ts in let r = in-range m.store m.journal sound.in_range in
          ending-sound t (land_offsets ss m.store.offsets) (land_lengths ss m.store.lengths) ts
          (land_files ss m.files) m sound (λ u l. carried u l (eqb u t) refl) (length-offsets ss m.store.offsets
          ∙ sound.shaped.offsets) (limit-landed ss m.store.offsets inside sound.shaped.offsets r.offsets)
          (length-lengths ss m.store.lengths ∙ sound.shaped.lengths)
          (limit-lengths ss m.store.lengths inside sound.shaped.lengths r.lengths)
          (length-tabulate (after_commit t ss m) 8) (length-files ss m.files ∙ sound.files)

      on-seats : ◌≡◌ {A = ℕ → Seat} (seat (granted_on t ss m).after) (λ u. touch ss (put t vacant (seat m) u))
      on-seats = unfold granted_on after ts put in fun_ext (λ u. seats u (eqb u t) refl)

      on_values : values (granted_on t ss m).after.store (granted_on t ss m).after.files
          ≡ landed ss (values m.store m.files)
      on_values = unfold granted_on ts in
          all-landed ts m.store ss m.store.offsets m.store.lengths m.files inside sound.shaped.offsets
          sound.shaped.lengths sound.files ∙ ap (landed ss) (same-values ts m.store m.files)

  on-reply : (granted_on t ss m).reply ≡ (granting t ss (view m)).reply
  unfolding granted_on granting view
  on-reply = ap (λ (n : ℕ). record { answer = granted n; buffer = [] }) (octet-same m t ss)

-- A grant of transaction t, as x, in range and with a placing that fits.
module _ (m : Machine) (t : ℕ) (x : Txn) (small : t < transaction_count) (sound : Sound m) (ranges : TxnIn x)
    (fit : fits (values m.store m.files) x ≡ true) where
  abbrev mine : List Setting
  mine = settings (file_of m.store) (values m.store m.files) x

  abbrev first : Machine
  first = saving_undo x m

  all_in : AllIn mine
  unfolding file_of
  all_in = settings-in (file_of m.store) (values m.store m.files) x
      (in-range m.store m.journal sound.in_range).files ranges fit

  first-sound : Sound first
  first-sound = keeping-sound m x sound ranges fit

  pub granted-sound : Sound (commit_granted t x mine m).after
  granted-sound = subst (λ (τ : Turn). Sound τ.after) (sym (preserved-first t x mine m))
      (on-sound first t mine small first-sound all_in)

  first-values : values first.store first.files ≡ values m.store m.files
  unfolding saving_undo
  first-values = fun_ext each
    where
      each : (i : Item) → values first.store first.files i ≡ values m.store m.files i
      each (byte q) = unfold values saving_undo in refl
      each (offset d) = unfold values saving_undo in refl
      each (file_length f) = unfold values saving_undo in refl

  pub granted-values : values (commit_granted t x mine m).after.store (commit_granted t x mine m).after.files
      ≡ landed mine (values m.store m.files)
  granted-values = ap (λ (τ : Turn). values τ.after.store τ.after.files) (preserved-first t x mine m)
      ∙ on_values first t mine small first-sound all_in ∙ ap (landed mine) first-values

  first-seats : ◌≡◌ {A = ℕ → Seat} (seat first) (seat m)
  first-seats = fun_ext (keeping-seat m x sound ranges fit)

  seats-granted : ◌≡◌ {A = ℕ → Seat} (seat (commit_granted t x mine m).after) (λ u. touch mine (put t vacant (seat m) u))
  seats-granted = ap (λ (τ : Turn). seat τ.after) (preserved-first t x mine m) ∙ on-seats first t mine small first-sound
      all_in ∙ fun_ext (λ u. ap (λ (f : ℕ → Seat). touch mine (put t vacant f u)) first-seats)

  -- It goes back to what it found.
  on-back : (i : Item) → back_values (granted_on t mine first).after i ≡ values m.store m.files i
  unfolding back_values values granted_on saving_undo
  on-back (byte q) = ap (λ (l : List ℕ). get_or l q 0)
      (files-back m x sound ranges fit (granted_on t mine first).after.store refl refl)
  on-back (offset d) = refl
  on-back (file_length f) = refl

  pub granted-back : (i : Item) → back_values (commit_granted t x mine m).after i ≡ values m.store m.files i
  granted-back i = ap (λ (τ : Turn). back_values τ.after i) (preserved-first t x mine m) ∙ on-back i

  pub granted-preserved : back_in (commit_granted t x mine m).after ≡ preserved (values m.store m.files)
  granted-preserved = unfold back_in commit_granted saving_undo in ap preserved (fun_ext granted-back)

  pub granted-view : view (commit_granted t x mine m).after ≡ (granting t mine (view m)).after
  unfolding granting view commit_granted file_of saving_undo
  granted-view = let e = seats-granted in let f = granted-values in let b = granted-preserved in
      λ i. record { file_of = file_of m.store; value = f i; windows = window_at m.store; back = b i; seats = e i }

  pub granted-reply : (commit_granted t x mine m).reply ≡ (granting t mine (view m)).reply
  unfolding granting view
  granted-reply = ap (λ (τ : Turn). τ.reply) (preserved-first t x mine m) ∙ on-reply first t mine
      ∙ (unfold granting view in ap (λ (f : ℕ → Seat). record
      { answer = granted (bits_of (λ u. newly_stale mine (put t vacant f u)) 8); buffer = [] }) first-seats)
