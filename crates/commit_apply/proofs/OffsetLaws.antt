-- Commit's placing, and the offsets that it sets, descriptor by descriptor.
use mathlib.Core.{Bool.{Bool, true, false, cond, not, ◌&&◌}, Logic.⊎_elim, List.{List, [], ◌∷◌}}
use mathlib.Core.Path.{◌≡◌, refl, sym, ap, ◌∙◌}
use lib.{Dec.leb, ListN.{length, get_or, set, length-set}, Seq.get_or-set_other}
use borrow.Author.Tests.{le-leb, lt-leb, leb-true}
use native.Mathlib.{Numerals.add-one, Omega.arith}
use Prim.Native.Nat.{ℕ, zero, suc, ◌+◌, ◌-◌, ◌≤◌, ◌<◌}
use Rattle.limits.specs.Limits.{file_bytes, descriptor_count, transaction_count}
use Rattle.state.specs.declared.{StoreMeaning.StoreMeaning, Transaction.Transaction, Descriptor.Descriptor}
use Rattle.state.specs.{StoreMeaning.{transaction, standing_at, dirty_at, with_offsets}}
use Rattle.state.specs.Layout.{descriptor_of, transaction_of, store_of, journal_of}
use Rattle.state.{specs.Updates.with_offset_at, proofs.LayoutLaws.{descriptor-of, transaction-of, store-with-offset, journal-with-offset}}
use Rattle.buffers.proofs.{PartLaws.le-or-lt}
use Rattle.standings.specs.declared.{Standing.{Standing, TheVariants.{Untouched, Placed, Deferred, Moved, Known}}}
use Rattle.standings.specs.Table.{advance, final_offset, may_wait, is_touched}
use Rattle.admission.{specs.FirstRefusal.below, proofs.Laws.{below_at}}
use Rattle.spec.specs.{Items.offset, Commits.{sets_offset, offset_settings, fits}, Calls.{land_offset, land_offsets}}
use Rattle.commit_apply.specs.Apply.{offsets_only, descriptors_only, places_fit, Means}
use Rattle.commit_apply.proofs.Settings.{offsets-append}

-- ---- placing

-- Descriptor d's advance fits behind its committed offset.
abbrev pub offset_fits_at : StoreMeaning → Transaction → ℕ → Bool
offset_fits_at s x d = leb (get_or s.offsets d 0 + advance (standing_at x d)) file_bytes

waiting-fits : (a c end : ℕ) → c ≤ file_bytes → end ≡ file_bytes - c + 1 → not (leb end a) ≡ leb (c + a) file_bytes
waiting-fits a c end l e = ⊎_elim (λ h. ap not (le-leb end a h) ∙ sym (lt-leb (c + a) file_bytes (omega arith)))
    (λ h. ap not (lt-leb end a h) ∙ sym (le-leb (c + a) file_bytes (omega arith))) (le-or-lt end a)

-- It does where no write may wait past the room behind that offset.
pub room_fits : (z : Standing) (c end : ℕ) → c ≤ file_bytes → end ≡ file_bytes - c + 1
    → not (may_wait z && leb end (advance z)) ≡ leb (c + advance z) file_bytes
room_fits Untouched c end l e = sym (le-leb (c + 0) file_bytes (omega arith))
room_fits (Placed o) c end l e = sym (le-leb (c + 0) file_bytes (omega arith))
room_fits (Deferred a) c end l e = waiting-fits a c end l e
room_fits (Moved a o) c end l e = waiting-fits a c end l e
room_fits (Known o) c end l e = sym (le-leb (c + 0) file_bytes (omega arith))

module _ (s : StoreMeaning) (x : Transaction) where
  pub placed-all : below (offset_fits_at s x) 16 ≡ places_fit s x
  placed-all = unfold fits offsets_only in refl

  pub fits-at : places_fit s x ≡ true → (d : ℕ) → d < descriptor_count
      → get_or s.offsets d 0 + advance (standing_at x d) ≤ file_bytes
  unfolding fits offsets_only
  fits-at e d l = leb-true (get_or s.offsets d 0 + advance (standing_at x d)) file_bytes (below_at (offset_fits_at s x) 16 d e l)

-- ---- the offsets

module _ (x : Transaction) (offsets : List ℕ) where
  -- The committed offsets once those of the first n descriptors are set.
  abbrev pub offsets_set : ℕ → List ℕ
  offsets_set n = land_offsets (offset_settings (offsets_only offsets) (descriptors_only x) n) offsets

  pub offsets-none : offsets_set 0 ≡ offsets
  offsets-none = unfold offset_settings land_offsets in refl

  offsets-more : (d : ℕ) (b : Bool) → sets_offset (descriptors_only x) d ≡ b
      → offsets_set (d + 1) ≡ cond b (set (offsets_set d) d (final_offset (get_or offsets d 0) (standing_at x d))) (offsets_set d)
  unfolding offset_settings land_offsets land_offset offsets_only
  offsets-more d b e = rw (add-one, e) (offsets-append (offset_settings (offsets_only offsets) (descriptors_only x) d)
      (cond b (record { item = offset d; to = final_offset (get_or offsets d 0) (standing_at x d) } ∷ []) []) offsets ∙ pick b)
    where
      pick : (b : Bool) → land_offsets (cond b (record { item = offset d; to = final_offset (get_or offsets d 0) (standing_at x d) }
          ∷ []) []) (offsets_set d)
          ≡ cond b (set (offsets_set d) d (final_offset (get_or offsets d 0) (standing_at x d))) (offsets_set d)
      pick true = refl
      pick false = refl

  offset-set : (d : ℕ) → sets_offset (descriptors_only x) d ≡ true
      → set (offsets_set d) d (final_offset (get_or offsets d 0) (standing_at x d)) ≡ offsets_set (d + 1)
  offset-set d e = sym (offsets-more d true e)

  offset-preserved : (d : ℕ) → sets_offset (descriptors_only x) d ≡ false → offsets_set d ≡ offsets_set (d + 1)
  offset-preserved d e = sym (offsets-more d false e)

  -- Those of later descriptors are still as they were.
  offset-later : (n d : ℕ) → n ≤ d → get_or (offsets_set n) d 0 ≡ get_or offsets d 0
  unfolding offset_settings land_offsets
  offset-later zero d h = refl
  offset-later (suc n) d h = ap (λ (i : ℕ). get_or (offsets_set i) d 0) (sym (add-one n))
      ∙ pick (sets_offset (descriptors_only x) n) refl ∙ offset-later n d (omega arith)
    where
      pick : (b : Bool) → sets_offset (descriptors_only x) n ≡ b → get_or (offsets_set (n + 1)) d 0 ≡ get_or (offsets_set n) d 0
      pick true e = ap (λ (l : List ℕ). get_or l d 0) (offsets-more n true e)
          ∙ get_or-set_other (offsets_set n) n d (final_offset (get_or offsets n 0) (standing_at x n)) 0 (λ p. omega arith)
      pick false e = ap (λ (l : List ℕ). get_or l d 0) (offsets-more n false e)

  -- Where none of the first n descriptors is dirty, none of their offsets is set.
  pub offsets-clean : (n : ℕ) → ((d : ℕ) → d < n → dirty_at x d ≡ false) → offsets_set n ≡ offsets
  unfolding sets_offset
  offsets-clean zero h = offsets-none
  offsets-clean (suc n) h = ap offsets_set (sym (add-one n)) ∙ sym (offset-preserved n
      (ap (λ (b : Bool). b && is_touched (standing_at x n)) (h n (omega arith)))) ∙ offsets-clean n (λ d l. h d (omega arith))

-- ---- and put into a state

module _ (x : Transaction) (before state : List ℕ) (d : ℕ) (few : d < descriptor_count)
    (so : Means before state (with_offsets (offsets_set x (store_of before).offsets d) (store_of before)))
  where
    -- The committed offset that is read is still the one that stood there before.
    pub offset-still : get_or (store_of state).offsets d 0 ≡ get_or (store_of before).offsets d 0
    offset-still = ap (λ (s : StoreMeaning). get_or s.offsets d 0) so.store
        ∙ offset-later x (store_of before).offsets d d (omega arith)

    pub offset-put : sets_offset (descriptors_only x) d ≡ true → (c n : ℕ) (after : List ℕ)
        → c ≡ get_or (store_of state).offsets d 0 → n ≡ final_offset c (standing_at x d) → after ≡ with_offset_at state d n
        → Means before after (with_offsets (offsets_set x (store_of before).offsets (d + 1)) (store_of before))
    offset-put sets c n after reads final e = record {
      store = ap store_of e ∙ store-with-offset state so.long d n few ∙ ap (λ (s : StoreMeaning). with_offsets
          (set s.offsets d n) s) so.store ∙ ap (λ (k : ℕ). with_offsets (set (offsets_set x (store_of before).offsets
          d) d k) (store_of before)) (final ∙ ap (λ (k : ℕ). final_offset k (standing_at x d)) (reads ∙ offset-still))
          ∙ ap (λ (os : List ℕ). with_offsets os (store_of before)) (offset-set x (store_of before).offsets d sets);
      journal = ap journal_of e ∙ journal-with-offset state so.long d n ∙ so.journal;
      long = ap length e ∙ length-set state _ n ∙ so.long;
    }

    pub offset-left : sets_offset (descriptors_only x) d ≡ false → (after : List ℕ) → after ≡ state
        → Means before after (with_offsets (offsets_set x (store_of before).offsets (d + 1)) (store_of before))
    offset-left sets after e = record {
      store = ap store_of e ∙ so.store
          ∙ ap (λ (os : List ℕ). with_offsets os (store_of before)) (offset-preserved x (store_of before).offsets d sets);
      journal = ap journal_of e ∙ so.journal;
      long = ap length e ∙ so.long;
    }

-- ---- the transaction, which no committed offset changes

pub still-own : (before state offsets : List ℕ) (t : ℕ) → t < transaction_count
    → store_of state ≡ with_offsets offsets (store_of before) → transaction_of state t ≡ transaction_of before t
still-own before state offsets t l e = sym (transaction-of state t l)
    ∙ ap (λ (s : StoreMeaning). transaction s t) e ∙ transaction-of before t l

-- What is tested of a descriptor is whether a commit sets its offset.
pub sets-own : (state : List ℕ) (t d : ℕ) → d < descriptor_count → (b : Bool)
    → b ≡ ((descriptor_of state t d).dirty && is_touched (descriptor_of state t d).standing)
    → sets_offset (descriptors_only (transaction_of state t)) d ≡ b
unfolding sets_offset
sets-own state t d l b e = ap (λ (q : Descriptor). q.dirty && is_touched q.standing) (descriptor-of state t d l) ∙ sym e
