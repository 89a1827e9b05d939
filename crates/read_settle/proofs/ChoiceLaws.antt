-- Laws for the loops of settling: one choice among many, and a transaction of which the first descriptors are settled.
use mathlib.Core.Bool.{Bool, true, false, cond, not, ◌&&◌, ◌||◌, or-true, and-true, and-false, true≢false, false≢true}
use mathlib.Core.{List.List, Logic.⊎_elim, Path.{◌≡◌, refl, sym, ap, ◌∙◌}}
use lib.{Dec.eqb, ListN.{length, get_or, set, replicate}}
use native.Mathlib.{Nat.{eq-or-lt_of_le, le_of_suc-le-suc}, Numerals.add-one, Omega.arith}
use borrow.Author.Tests.{le-leb, lt-leb, eq-eqb, ne_eqb, eqb-true}
use Prim.Native.Nat.{ℕ, ◌+◌, ◌≤◌, ◌<◌}
use Rattle.limits.specs.Limits.{file_bytes, descriptor_count}
use Rattle.buffers.{specs.Parts.tabulate, proofs.TableLaws.get_d_tabulate}
use Rattle.state.specs.declared.{Descriptor.Descriptor, Transaction.Transaction}
use Rattle.state.specs.StoreMeaning.{standing_at, dirty_at, no_descriptor, with_descriptors}
use Rattle.state.proofs.Filled.{filled, filled_none, filled-all, filled-set, filled-preserved}
use Rattle.standings.specs.declared.{Standing.{Standing, TheVariants.{Untouched, Placed, Deferred, Moved, Known}}}
use Rattle.standings.specs.Table.{advance, settled, pointer_settles, read_settles}
use Rattle.spec.proofs.Refinement.IndexedLists.{tabulate-same, tabulate-set, tabulate-get_d}
use Rattle.admission.proofs.Laws.{below_all}
use Rattle.std.specs.Prelude.{Result, Ok, Err}
use Rattle.state.specs.declared.outcomes.Refusal.{Refusal, TheVariants.AppendPastEnd}
use Rattle.read_settle.specs.Choices.{settles_for_read, chosen_by_read, settles_for_pointer, chosen_by_pointer, only_one}
use Rattle.read_settle.specs.Choices.{settles_within, all_within, settled_descriptor, settled_transaction, settling_of}
use Rattle.read_settle.specs.Choices.{verdict_of}

-- One of sixteen is chosen, or none.
pub one-chosen : (d : ℕ) (b : Bool) → d < descriptor_count → set (replicate 16 false) d b
    ≡ tabulate (λ e. eqb e d && b) descriptor_count
one-chosen d b h = unfold tabulate in
    sym (tabulate-set (λ e. false) (λ e. eqb e d && b) 16 d b h (rw (eq-eqb d d refl)) (λ e ne. rw (ne_eqb e d ne)))

pub alone-chosen : (d : ℕ) → d < descriptor_count → set (replicate 16 false) d true ≡ only_one d
alone-chosen d h = one-chosen d true h ∙ tabulate-same (λ e. eqb e d && true) (λ e. eqb e d) 16 (λ e l. and-true (eqb e d))

-- None of n + 1 passes, where the first n are gone over and the last is asked.
neither : (a b : Bool) → a || b ≡ false → (a ≡ false) × (b ≡ false)
neither true b e = absurd (true≢false e)
neither false b e = (refl, e)

pub none_more : (p : ℕ → Bool) (n : ℕ) (a : Bool) → (a ≡ false → (k : ℕ) → k < n → p k ≡ false) → a || p n ≡ false → (k : ℕ)
    → k < n + 1 → p k ≡ false
none_more p n a none e k h = let w = neither a (p n) e in
    ⊎_elim (λ q. ap p q ∙ w.1) (λ l. none w.0 k l) (eq-or-lt_of_le (le_of_suc-le-suc (rw add-one at h)))

-- A Read settles a descriptor where it waits and is of the file, and its own where that is Untouched: what it settles by either
-- alone tells what it settles.
settles-neither : (f i : Bool) (z : Standing) → read_settles true false z ≡ false → (i ≡ true → read_settles false true z ≡ false)
    → read_settles f i z ≡ false
settles-neither f true Untouched w own = own refl
settles-neither f false Untouched w own = refl
settles-neither f i (Placed o) w own = refl
settles-neither f i (Deferred a) w own = absurd (true≢false w)
settles-neither f i (Moved a o) w own = absurd (true≢false w)
settles-neither f i (Known o) w own = refl

settles-own : (f : Bool) (z : Standing) → read_settles false true z ≡ true → read_settles f true z ≡ true
settles-own f Untouched e = refl
settles-own f (Placed o) e = absurd (false≢true e)
settles-own f (Deferred a) e = absurd (false≢true e)
settles-own f (Moved a o) e = absurd (false≢true e)
settles-own f (Known o) e = absurd (false≢true e)

settles-alone : (f i : Bool) (z : Standing) → read_settles true false z ≡ false → (i ≡ true → read_settles false true z ≡ true)
    → i ≡ read_settles f i z
settles-alone f true z w own = sym (settles-own f z (own refl))
settles-alone f false Untouched w own = refl
settles-alone f false (Placed o) w own = refl
settles-alone f false (Deferred a) w own = absurd (true≢false w)
settles-alone f false (Moved a o) w own = absurd (true≢false w)
settles-alone f false (Known o) w own = refl

settles-waiting : (f i : Bool) (z : Standing) → (i ≡ true → read_settles false true z ≡ false)
    → read_settles f false z ≡ read_settles f i z
settles-waiting f true Untouched own = sym (own refl)
settles-waiting f false Untouched own = refl
settles-waiting f i (Placed o) own = refl
settles-waiting f i (Deferred a) own = refl
settles-waiting f i (Moved a o) own = refl
settles-waiting f i (Known o) own = refl

module _ (filenumbers : List ℕ) (x : Transaction) (d : ℕ) where
  -- What holds of d holds of any that equals it.
  own_at : (b : Bool) → read_settles false true (standing_at x d) ≡ b → (e : ℕ) → eqb e d ≡ true
      → read_settles false true (standing_at x e) ≡ b
  own_at b own e q = ap (λ (k : ℕ). read_settles false true (standing_at x k)) (eqb-true e d q) ∙ own

  -- A Read through d settles none.
  pub read-chooses-none : read_settles false true (standing_at x d) ≡ false
      → ((e : ℕ) → e < descriptor_count → read_settles true false (standing_at x e) ≡ false)
      → (e : ℕ) → e < descriptor_count → get_or (chosen_by_read filenumbers x d) e false ≡ false
  unfolding chosen_by_read settles_for_read
  read-chooses-none own none e h = get_d_tabulate (settles_for_read filenumbers x d) 16 e false h ∙ settles-neither
      (eqb (get_or filenumbers e 0) (get_or filenumbers d 0)) (eqb e d) (standing_at x e) (none e h) (own_at false own e)

  -- It settles d alone.
  pub read-chooses-own : read_settles false true (standing_at x d) ≡ true → ((e : ℕ) → e < descriptor_count
      → read_settles true false (standing_at x e) ≡ false) → only_one d ≡ chosen_by_read filenumbers x d
  unfolding chosen_by_read settles_for_read
  read-chooses-own own none = tabulate-same (λ e. eqb e d) (settles_for_read filenumbers x d) 16 (λ e h. settles-alone
      (eqb (get_or filenumbers e 0) (get_or filenumbers d 0)) (eqb e d) (standing_at x e) (none e h) (own_at true own e))

  -- Those of d's file that wait.
  abbrev pub waiting_of : ℕ → Bool
  waiting_of e = read_settles (eqb (get_or filenumbers e 0) (get_or filenumbers d 0)) false (standing_at x e)

  pub chosen-with-own : d < descriptor_count → read_settles false true (standing_at x d) ≡ true
      → set (tabulate waiting_of 16) d true ≡ chosen_by_read filenumbers x d
  unfolding chosen_by_read settles_for_read
  chosen-with-own h own = sym (tabulate-set waiting_of (settles_for_read filenumbers x d) 16 d true h (rw (eq-eqb d d refl)
      (settles-own (eqb (get_or filenumbers d 0) (get_or filenumbers d 0)) (standing_at x d) own)) (λ e ne. rw (ne_eqb e d ne)))

  pub chosen-without-own : read_settles false true (standing_at x d) ≡ false
      → tabulate waiting_of 16 ≡ chosen_by_read filenumbers x d
  unfolding chosen_by_read settles_for_read
  chosen-without-own own = tabulate-same waiting_of (settles_for_read filenumbers x d) 16 (λ e h. settles-waiting
      (eqb (get_or filenumbers e 0) (get_or filenumbers d 0)) (eqb e d) (standing_at x e) (own_at false own e))

-- A GetFilePointer on d settles d alone.
pub pointer-chooses-own : (x : Transaction) (d : ℕ) → pointer_settles (standing_at x d) ≡ true → only_one d ≡ chosen_by_pointer x d
unfolding chosen_by_pointer settles_for_pointer
pointer-chooses-own x d own = tabulate-same (λ e. eqb e d) (settles_for_pointer x d) 16
    (λ e h. sym (ap (λ (b : Bool). eqb e d && b) own ∙ and-true (eqb e d)))

-- A GetFilePointer on d settles none.
pub pointer-chooses-none : (x : Transaction) (d : ℕ) → pointer_settles (standing_at x d) ≡ false
    → (e : ℕ) → e < descriptor_count → get_or (chosen_by_pointer x d) e false ≡ false
pointer-chooses-none x d none e h = unfold chosen_by_pointer settles_for_pointer in
    get_d_tabulate (settles_for_pointer x d) 16 e false h ∙ ap (λ (b : Bool). eqb e d && b) none ∙ and-false (eqb e d)

-- The transaction with its first n descriptors settled where chosen.
abbrev pub settled_front : List Bool → List ℕ → Transaction → ℕ → Transaction
settled_front chosen offsets x n = with_descriptors (filled (settled_descriptor chosen offsets x) x.descriptors n) x

module _ (chosen : List Bool) (offsets : List ℕ) (x : Transaction) where
  pub settled-none : x ≡ settled_front chosen offsets x 0
  settled-none = ap (λ (ds : List Descriptor). with_descriptors ds x)
      (sym (filled_none (settled_descriptor chosen offsets x) x.descriptors))

  pub settled-all : length x.descriptors ≡ 16 → settled_front chosen offsets x 16 ≡ settled_transaction chosen offsets x
  unfolding settled_transaction
  settled-all l = ap (λ (ds : List Descriptor). with_descriptors ds x)
      (filled-all (settled_descriptor chosen offsets x) x.descriptors 16 (omega arith))

  module _ (n : ℕ) (h : n < length x.descriptors) where
    -- one more that is chosen
    pub settled-more : get_or chosen n false ≡ true → with_descriptors (set (settled_front chosen offsets x n).descriptors n
        (record { standing = settled (get_or offsets n 0) (standing_at x n); dirty = dirty_at x n })) x ≡ settled_front chosen
        offsets x (n + 1)
    unfolding settled_descriptor
    settled-more e = ap (λ (ds : List Descriptor). with_descriptors ds x)
        (filled-set (settled_descriptor chosen offsets x) x.descriptors n
        (record { standing = settled (get_or offsets n 0) (standing_at x n); dirty = dirty_at x n }) h (rw e))

    -- one more that is not
    pub settled-preserved : get_or chosen n false ≡ false → settled_front chosen offsets x n ≡ settled_front chosen offsets x (n + 1)
    unfolding settled_descriptor
    settled-preserved e = ap (λ (ds : List Descriptor). with_descriptors ds x)
        (filled-preserved (settled_descriptor chosen offsets x) x.descriptors n no_descriptor h (rw e))

  -- What the tests of the loop say of descriptor n.
  pub within-preserved : (n : ℕ) → get_or chosen n false ≡ false → settles_within chosen offsets x n ≡ true
  within-preserved n e = unfold settles_within in rw e

  pub within-settled : (n : ℕ) → get_or offsets n 0 + advance (standing_at x n) ≤ file_bytes → settles_within chosen offsets x n ≡ true
  unfolding settles_within
  within-settled n h = rw (le-leb (get_or offsets n 0 + advance (standing_at x n)) file_bytes h) (or-true (not (get_or chosen n false)))

  pub within-past : (n : ℕ) → get_or chosen n false ≡ true → file_bytes < get_or offsets n 0 + advance (standing_at x n)
      → settles_within chosen offsets x n ≡ false
  within-past n e h = unfold settles_within in rw (e, lt-leb (get_or offsets n 0 + advance (standing_at x n)) file_bytes h)

  -- The answer with a transaction.
  abbrev pub settled_as : Transaction → Result Transaction Refusal
  settled_as y = Ok y

  -- Where nothing is chosen, nothing changes.
  pub settling-none : ((e : ℕ) → e < descriptor_count → get_or chosen e false ≡ false) → length x.descriptors ≡ 16
      → settling_of chosen offsets x ≡ Ok x
  unfolding settling_of all_within settled_transaction settled_descriptor
  settling-none none l = rw (below_all (settles_within chosen offsets x) 16 (λ e h. within-preserved e (none e h)))
      (ap (λ (ds : List Descriptor). settled_as (with_descriptors ds x))
      (tabulate-same (settled_descriptor chosen offsets x) (λ e. record { standing = standing_at x e; dirty = dirty_at x e })
      16 (λ e h. rw (none e h)) ∙ ap (tabulate (λ e. get_or x.descriptors e no_descriptor)) (sym l)
      ∙ tabulate-get_d x.descriptors no_descriptor))

-- What the verdict tells.
module _ (chosen : List Bool) (offsets : List ℕ) (x : Transaction) where
  abbrev settling : Bool → Result Transaction Refusal
  settling b = cond b (Ok (settled_transaction chosen offsets x)) (Err AppendPastEnd)

  pub verdict-past : (r : Refusal) → verdict_of (settling_of chosen offsets x) ≡ Err r → all_within chosen offsets x ≡ false
  unfolding settling_of
  verdict-past r e = pick (all_within chosen offsets x) e
    where
      pick : (b : Bool) → verdict_of (settling b) ≡ Err r → b ≡ false
      pick true q = cc
      pick false q = refl

  pub verdict-settled : verdict_of (settling_of chosen offsets x) ≡ Ok tt → all_within chosen offsets x ≡ true
  unfolding settling_of
  verdict-settled e = pick (all_within chosen offsets x) e
    where
      pick : (b : Bool) → verdict_of (settling b) ≡ Ok tt → b ≡ true
      pick true q = refl
      pick false q = cc

  pub transaction-settled : (y : Transaction) → settling_of chosen offsets x ≡ Ok y → y ≡ settled_transaction chosen offsets x
  unfolding settling_of
  transaction-settled y e = pick (all_within chosen offsets x) e
    where
      pick : (b : Bool) → settling b ≡ Ok y → y ≡ settled_transaction chosen offsets x
      pick true q = cc
      pick false q = cc
