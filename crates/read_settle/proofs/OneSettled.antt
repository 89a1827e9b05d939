-- The record after one descriptor of a transaction is settled alone, in each way that settling can go.
use mathlib.Core.{Bool.{Bool, true, false, cond}, List.List, Path.{◌≡◌, refl, sym, ap, ap₂, ◌∙◌}}
use borrow.Author.Tests.{eq-eqb, ne_eqb, eqb-true, eqb-false}
use lib.{Dec.eqb, ListN.get_or}
use native.Mathlib.Omega.{arith}
use Prim.Native.Nat.{ℕ, zero, suc, ◌+◌, ◌≤◌, ◌<◌}
use Rattle.limits.specs.Limits.{file_bytes, descriptor_count}
use Rattle.buffers.proofs.TableLaws.{get_d_tabulate}
use Rattle.standings.specs.{declared.Standing.Standing, Table.{advance, settled}}
use Rattle.state.specs.declared.{Descriptor.Descriptor, Transaction.Transaction}
use Rattle.state.specs.{StoreMeaning.{standing_at, dirty_at, no_descriptor}, Layout.{descriptor_of, transaction_of, store_of}}
use Rattle.state.{specs.Updates.{StandingFits, with_descriptor_at, with_chosen_at}, proofs.LayoutLaws.descriptor-of}
use Rattle.admission.proofs.Laws.{below_all, below_fails}
use Rattle.spec.proofs.Refinement.StandingRanges.{settled-in}
use Rattle.refinement.proofs.Fitting.{standing-fits}
use Rattle.std.specs.Prelude.{Result, Ok, Err}
use Rattle.state.specs.declared.outcomes.Refusal.{Refusal, TheVariants.AppendPastEnd}
use Rattle.read_settle.specs.Choices.{only_one, settles_within, all_within, settled_descriptor, settled_transaction, settling_of}
use Rattle.read_settle.specs.{Records.{Placeable, PlacedIn}, Outcome.SettledIn}
use Rattle.read_settle.proofs.ChoiceLaws.{within-preserved, within-settled, within-past}
use Rattle.read_settle.proofs.InRecord.{past-settled, all_settled, then_is}

-- Of descriptors that are put where chosen, d alone is.
module _ (r : List ℕ) (t d : ℕ) (f : ℕ → Descriptor) (chosen : ℕ → Bool) (one : chosen d ≡ true)
    (others : (e : ℕ) → e < descriptor_count → (e ≡ d → ⊥) → chosen e ≡ false) where
  none-put : (n : ℕ) → n ≤ d → n ≤ 16 → with_chosen_at r t chosen f n ≡ r
  unfolding with_chosen_at
  none-put zero h l = refl
  none-put (suc n) h l = rw (others n (omega arith) (λ q. omega arith)) (none-put n (omega arith) (omega arith))

  pub one-put : (n : ℕ) → d < n → n ≤ 16 → with_chosen_at r t chosen f n ≡ with_descriptor_at r t d (f d)
  unfolding with_chosen_at
  one-put zero h l = absurd (omega arith)
  one-put (suc n) h l = pick (eqb n d) refl (λ ne. one-put n (omega arith) (omega arith))
    where
      pick : (b : Bool) → eqb n d ≡ b → ((n ≡ d → ⊥) → with_chosen_at r t chosen f n ≡ with_descriptor_at r t d (f d))
          → cond (chosen n) (with_descriptor_at (with_chosen_at r t chosen f n) t n (f n)) (with_chosen_at r t chosen f n)
          ≡ with_descriptor_at r t d (f d)
      pick true q ih = let s = eqb-true n d q in
          ap (λ (k : ℕ). cond (chosen k) (with_descriptor_at (with_chosen_at r t chosen f k) t k (f k))
          (with_chosen_at r t chosen f k)) s ∙ ap₂ (λ (b : Bool) (w : List ℕ). cond b (with_descriptor_at w t d (f d)) w) one
          (none-put d (omega arith) (omega arith))
      pick false q ih = let ne = eqb-false n d q in
          ap (λ (b : Bool). cond b (with_descriptor_at (with_chosen_at r t chosen f n) t n (f n)) (with_chosen_at r t chosen f n))
          (others n (omega arith) ne) ∙ ih ne

module _ (t d : ℕ) (before : List ℕ) (ready : Placeable before t (transaction_of before t).used.records)
    (few : d < descriptor_count) where
  abbrev x : Transaction
  x = transaction_of before t

  abbrev offsets : List ℕ
  offsets = (store_of before).offsets

  is_one : get_or (only_one d) d false ≡ true
  is_one = get_d_tabulate (λ e. eqb e d) descriptor_count d false few ∙ eq-eqb d d refl

  is-other : (e : ℕ) → e < descriptor_count → (e ≡ d → ⊥) → get_or (only_one d) e false ≡ false
  is-other e h ne = get_d_tabulate (λ e. eqb e d) descriptor_count e false h ∙ ne_eqb e d ne

  -- It would come past the end.
  pub one-past : file_bytes < get_or offsets d 0 + advance (standing_at x d) → SettledIn (only_one d) t x before before (Err AppendPastEnd)
  one-past h = past-settled (only_one d) t before ready (Err AppendPastEnd) answer AppendPastEnd refl
    where
      answer : ◌≡◌ {A = Result Transaction Refusal} (Err AppendPastEnd) (settling_of (only_one d) offsets x)
      answer = unfold settling_of all_within in
          rw (below_fails (settles_within (only_one d) offsets x) d 16 few (within-past (only_one d) offsets x d is_one h))

  module _ (h : get_or offsets d 0 + advance (standing_at x d) ≤ file_bytes) where
    within-one : (e : ℕ) → e < descriptor_count → settles_within (only_one d) offsets x e ≡ true
    within-one e l = pick (eqb e d) refl
      where
        pick : (b : Bool) → eqb e d ≡ b → settles_within (only_one d) offsets x e ≡ true
        pick true q = ap (settles_within (only_one d) offsets x) (eqb-true e d q) ∙ within-settled (only_one d) offsets x d h
        pick false q = within-preserved (only_one d) offsets x e (is-other e l (eqb-false e d q))

    abbrev then : Transaction
    then = settled_transaction (only_one d) offsets x

    abbrev answered : Result Transaction Refusal
    answered = Ok then

    answer : answered ≡ settling_of (only_one d) offsets x
    answer = unfold settling_of all_within in rw (below_all (settles_within (only_one d) offsets x) 16 within-one)

    -- What the code puts is the descriptor settled.
    module _ (q : Descriptor) (c : ℕ) (y : Standing) (read : q ≡ descriptor_of before t d) (at : c ≡ get_or offsets d 0)
        (goes : y ≡ settled c q.standing) where
      own_is : q ≡ get_or x.descriptors d no_descriptor
      own_is = read ∙ sym (descriptor-of before t d few)

      goes_to : y ≡ settled (get_or offsets d 0) (standing_at x d)
      goes_to = goes ∙ ap₂ (λ (k : ℕ) (p : Descriptor). settled k p.standing) at own_is

      pub one-fits : StandingFits y
      one-fits = standing-fits y (rw goes_to (settled-in (get_or offsets d 0) (standing_at x d) h (ready.standings d few)))

      put_is : ◌≡◌ {A = Descriptor} (record { standing = y; dirty = q.dirty })
          (get_or (settled_transaction (only_one d) offsets x).descriptors d no_descriptor)
      unfolding settled_descriptor
      put_is = ap₂ (λ (z : Standing) (b : Bool). record { standing = z; dirty = b }) goes_to
          (ap (λ (p : Descriptor). p.dirty) own_is) ∙ ap (λ (b : Bool). record
          { standing = cond b (settled (get_or offsets d 0) (standing_at x d)) (standing_at x d); dirty = dirty_at x d })
          (sym is_one) ∙ sym (then_is (only_one d) t before ready answered answer then refl d few)

      pub one-settled : (placed after : List ℕ) → PlacedIn (only_one d) t x.used.records before placed
          → after ≡ with_descriptor_at placed t d (record { standing = y; dirty = q.dirty })
          → SettledIn (only_one d) t x before after (Ok tt)
      one-settled placed after p put = all_settled (only_one d) t before ready answered answer then refl placed after p (put
          ∙ ap (with_descriptor_at placed t d) put_is ∙ sym (one-put placed t d (λ e. get_or (settled_transaction (only_one d)
          offsets x).descriptors e no_descriptor) (λ e. get_or (only_one d) e false) is_one is-other 16 few (omega arith)))
