-- What the record means after something was put into it: that, and all else as before.
use mathlib.Core.{Bool.{Bool, true, false, cond}, List.List, Logic.{◌⊎◌, inl, inr, ⊎_elim}, Path.{◌≡◌, refl, sym, ap, ap₂, ◌∙◌}}
use borrow.Author.Tests.{eq-eqb, ne_eqb, eqb-true, eqb-false}
use lib.{Dec.eqb, ListN.{get_or, set, length, length-set, replicate}, Seq.{get_or-set_same, get_or-set_other}}
use native.Mathlib.{Nat.{eq-or-lt_of_le, le_of_suc-le-suc, not-suc-le-zero}, Numerals.{add-one, add-two}, Omega.arith}
use Prim.Native.Nat.{ℕ, zero, suc, ◌+◌, ◌-◌, ◌*◌, ◌≤◌, ◌<◌}
use Rattle.limits.specs.Limits.{file_count, descriptor_count, transaction_count, record_count}
use Rattle.buffers.specs.{Parts.tabulate, Bits.with_bit_as, Marks.contains}
use Rattle.buffers.proofs.SetLaws.{contains-put, contains-bits, bits_none}
use Rattle.buffers.proofs.TableLaws.{length-tabulate, get_d_tabulate, table_same, table-set}
use Rattle.counters.specs.declared.Used.{Used}
use Rattle.windows.specs.{declared.Window.Window, Windows.fresh_window}
use Rattle.standings.specs.declared.{Standing.{Standing, TheVariants.{Untouched, Placed, Deferred, Moved, Known}}}
use Rattle.standings.specs.Table.{place_number}
use Rattle.state.specs.declared.{Descriptor.Descriptor, Transaction.Transaction, StoreMeaning.StoreMeaning}
use Rattle.state.specs.declared.journal.WriteRecord.{WriteRecord}
use Rattle.state.specs.StoreMeaning.{ended, no_transaction, no_descriptor, transaction, standing_at, with_transaction}
use Rattle.state.specs.StoreMeaning.{with_begun, with_stale, with_lengthmarks, with_descriptors, with_used, with_offsets}
use Rattle.state.specs.StoreMeaning.{with_lengths, with_windows, window_at, no_undo}
use Rattle.state.specs.Journal.{descriptor_code, write_record_at, with_record_at, journal_length}
use Rattle.state.specs.Layout.{standing_of, is_set, number_at, descriptor_of, used_of, transaction_of, store_of, journal_of}
use Rattle.state.specs.Layout.{transactions_at, transaction_length, file_numbers_at, offsets_at, lengths_at, starts_at, ends_at}
use Rattle.state.specs.Layout.{found_offsets_at, found_lengths_at, undo_valid_at, window_of, undo_of, state_length}
use Rattle.state.specs.Updates.{first_number, second_number, flag_number, with_descriptor_at, with_chosen_at, with_used_at}
use Rattle.state.specs.Updates.{with_stale_at, with_lengthmarks_at, zeroed_at, reset_at, with_file_number_at, with_file_numbers_at}
use Rattle.state.specs.Updates.{with_offset_at, with_length_at, with_window_at}
use Rattle.state.proofs.Filled.{filled, filled_none, filled-set, filled-preserved, filled-all}

-- ---- reading by name

module _ (r : List ℕ) where
  -- Write records stand in the journal as in the record.
  pub record_of : (t k : ℕ) → t < 9 → k < record_count → write_record_at (journal_of r) t k ≡ write_record_at r t k
  unfolding write_record_at journal_of
  record_of t k h l = let i = 3 * (record_count * t + k) in let own : ℕ → ℕ = λ j. get_or r j 0 in rw (
    get_d_tabulate own journal_length i 0 (omega arith),
    get_d_tabulate own journal_length (i + 1) 0 (omega arith),
    get_d_tabulate own journal_length (i + 2) 0 (omega arith),
  )

  pub length-journal : length (journal_of r) ≡ journal_length
  length-journal = unfold journal_of in length-tabulate (λ i. get_or r i 0) journal_length

  pub transaction-of : (t : ℕ) → t < transaction_count → transaction (store_of r) t ≡ transaction_of r t
  transaction-of t h = unfold store_of in get_d_tabulate (transaction_of r) 8 t no_transaction h

  pub descriptor-of : (t d : ℕ) → d < descriptor_count → get_or (transaction_of r t).descriptors d no_descriptor ≡ descriptor_of r t d
  descriptor-of t d h = unfold transaction_of in get_d_tabulate (descriptor_of r t) 16 d no_descriptor h

  pub standing-of : (t d : ℕ) → d < descriptor_count
      → standing_at (transaction_of r t) d ≡ standing_of (get_or r (number_at t d) 0) (get_or r (number_at t (16 + d)) 0)
  standing-of t d h = unfold descriptor_of in ap (λ (q : Descriptor). q.standing) (descriptor-of t d h)

  pub file-of : (d : ℕ) → d < descriptor_count → get_or (store_of r).filenumbers d 0 ≡ get_or r (file_numbers_at + d) 0
  file-of d h = unfold store_of in get_d_tabulate (λ k. get_or r (file_numbers_at + k) 0) 16 d 0 h

  pub offset-of : (d : ℕ) → d < descriptor_count → get_or (store_of r).offsets d 0 ≡ get_or r (offsets_at + d) 0
  offset-of d h = unfold store_of in get_d_tabulate (λ k. get_or r (offsets_at + k) 0) 16 d 0 h

  pub length-of : (f : ℕ) → f < file_count → get_or (store_of r).lengths f 0 ≡ get_or r (lengths_at + f) 0
  length-of f h = unfold store_of in get_d_tabulate (λ k. get_or r (lengths_at + k) 0) 8 f 0 h

  pub window-of : (f : ℕ) → f < file_count → window_at (store_of r) f ≡ window_of r f
  window-of f h = unfold store_of in get_d_tabulate (window_of r) 8 f fresh_window h

  pub found-offset-of : (d : ℕ) → d < descriptor_count → get_or (store_of r).undo.offsets d 0 ≡ get_or r (found_offsets_at + d) 0
  found-offset-of d h = unfold store_of undo_of in get_d_tabulate (λ k. get_or r (found_offsets_at + k) 0) 16 d 0 h

  pub found-length-of : (f : ℕ) → f < file_count → get_or (store_of r).undo.lengths f 0 ≡ get_or r (found_lengths_at + f) 0
  found-length-of f h = unfold store_of undo_of in get_d_tabulate (λ k. get_or r (found_lengths_at + k) 0) 8 f 0 h

-- ---- two records that agree on some numbers

module _ (r s : List ℕ) where
  -- They agree on the numbers from `from` on, n of them.
  abbrev pub Agree : ℕ → ℕ → Type 0
  Agree from n = (j : ℕ) → from ≤ j → j < from + n → get_or s j 0 ≡ get_or r j 0

  pub journal-same : Agree 0 journal_length → journal_of s ≡ journal_of r
  journal-same e = unfold journal_of in table_same _ _ journal_length (λ k h. e k (omega arith) (omega arith))

  pub column-same : (at n : ℕ) → Agree at n → tabulate (λ k. get_or s (at + k) 0) n ≡ tabulate (λ k. get_or r (at + k) 0) n
  column-same at n e = table_same _ _ n (λ k h. e (at + k) (omega arith) (omega arith))

  pub undo-same : Agree found_offsets_at 27 → undo_of s ≡ undo_of r
  undo-same e = unfold undo_of in rw (
    e undo_valid_at (omega arith) (omega arith),
    e (undo_valid_at + 1) (omega arith) (omega arith),
    e (undo_valid_at + 2) (omega arith) (omega arith),
    column-same found_offsets_at descriptor_count (λ j a b. e j a (omega arith)),
    column-same found_lengths_at file_count (λ j a b. e j (omega arith) (omega arith)),
  )

  pub windows-same : Agree starts_at 16 → tabulate (window_of s) 8 ≡ tabulate (window_of r) 8
  unfolding window_of
  windows-same e = table_same _ _ 8
      (λ f h. rw (e (starts_at + f) (omega arith) (omega arith), e (ends_at + f) (omega arith) (omega arith)))

  -- They agree on this number.
  abbrev Same : ℕ → Type 0
  Same j = get_or s j 0 ≡ get_or r j 0

  descriptors-same : (t : ℕ) → ((k : ℕ) → k < 32 → Same (number_at t k)) → Same (number_at t 35)
      → tabulate (descriptor_of s t) 16 ≡ tabulate (descriptor_of r t) 16
  unfolding descriptor_of
  descriptors-same t e dirty = table_same _ _ 16 (λ d h. rw (e d (omega arith), e (16 + d) (omega arith), dirty))

  transaction-same : (t : ℕ) → ((k : ℕ) → k < transaction_length → Same (number_at t k)) → transaction_of s t ≡ transaction_of r t
  transaction-same t e = unfold transaction_of used_of in rw (
    e 32 (omega arith),
    e 33 (omega arith),
    e 34 (omega arith),
    e 36 (omega arith),
    e 37 (omega arith),
    descriptors-same t (λ k h. e k (omega arith)) (e 35 (omega arith)),
  )

  pub transactions-same : Agree transactions_at (transaction_count * transaction_length)
      → tabulate (transaction_of s) 8 ≡ tabulate (transaction_of r) 8
  transactions-same e = table_same _ _ 8 (λ t h. transaction-same t (λ k l. e (number_at t k) (omega arith) (omega arith)))

  -- They agree but for the numbers of transaction t: outside the rows of the transactions, and on those of every other one.
  abbrev AgreeBut : ℕ → Type 0
  AgreeBut t = ((j : ℕ) → (j < journal_length) ⊎ (file_numbers_at ≤ j) → Same j)
      × ((u k : ℕ) → u < transaction_count → k < transaction_length → (u ≡ t → ⊥) → Same (number_at u k))

  module _ (t : ℕ) (small : t < transaction_count) (outside : AgreeBut t) where
    other-transaction : (u : ℕ) → u < transaction_count → (u ≡ t → ⊥) → transaction_of s u ≡ transaction_of r u
    other-transaction u h ne = transaction-same u (λ k l. outside.1 u k h l ne)

    store-block : (y : Transaction) → transaction_of s t ≡ y → store_of s ≡ with_transaction t y (store_of r)
    store-block y own = unfold store_of with_transaction in rw (
      column-same file_numbers_at descriptor_count (λ j a b. outside.0 j (inr (omega arith))),
      column-same offsets_at descriptor_count (λ j a b. outside.0 j (inr (omega arith))),
      column-same lengths_at file_count (λ j a b. outside.0 j (inr (omega arith))),
      windows-same (λ j a b. outside.0 j (inr (omega arith))),
      undo-same (λ j a b. outside.0 j (inr (omega arith))),
      table-set (transaction_of r) (transaction_of s) 8 t y small own other-transaction,
    )

    -- The transaction became f of what it was.
    store_by : (f : Transaction → Transaction) → transaction_of s t ≡ f (transaction_of r t)
        → store_of s ≡ with_transaction t (f (transaction (store_of r) t)) (store_of r)
    store_by f own = store-block (f (transaction (store_of r) t)) (own ∙ ap f (sym (transaction-of r t small)))

    journal-block : journal_of s ≡ journal_of r
    journal-block = journal-same (λ j a b. outside.0 j (inl (omega arith)))

-- Rows are apart: a number of one transaction is none of another, and two numbers of one transaction are two.
other_row : (t u k l : ℕ) → t < transaction_count → u < transaction_count → (u ≡ t → ⊥) → number_at u k ≡ number_at t l → ⊥
other_row t u k l h m ne p = ne (omega arith)

-- One change after another of the same transaction.
agree_then : (r s v : List ℕ) (t : ℕ) → AgreeBut r s t → AgreeBut s v t → AgreeBut r v t
agree_then r s v t e f = ((λ j w. f.0 j w ∙ e.0 j w), (λ u k h l ne. f.1 u k h l ne ∙ e.1 u k h l ne))

-- Number k of transaction t was put.
agree-set : (r : List ℕ) (t k n : ℕ) → t < transaction_count → k < transaction_length → AgreeBut r (set r (number_at t k) n) t
agree-set r t k n small few = (
  (λ j w. get_or-set_other r (number_at t k) j n 0 (⊎_elim (λ h p. omega arith) (λ h p. omega arith) w)),
  (λ u l h m ne. get_or-set_other r (number_at t k) (number_at u l) n 0 (other_row t u l k small h ne)),
)

-- A number outside a column of m numbers from `at` on was put.
pub column-left : (r : List ℕ) (i n at m : ℕ) → (i < at) ⊎ (at + m ≤ i)
    → tabulate (λ k. get_or (set r i n) (at + k) 0) m ≡ tabulate (λ k. get_or r (at + k) 0) m
column-left r i n at m w = column-same r (set r i n) at m
    (λ j a b. get_or-set_other r i j n 0 (λ p. ⊎_elim (λ h. omega arith) (λ h. omega arith) w))

windows-left : (r : List ℕ) (i n : ℕ) → i < starts_at → tabulate (window_of (set r i n)) 8 ≡ tabulate (window_of r) 8
windows-left r i n h = windows-same r (set r i n) (λ j a b. get_or-set_other r i j n 0 (λ p. omega arith))

undo-left : (r : List ℕ) (i n : ℕ) → i < found_offsets_at → undo_of (set r i n) ≡ undo_of r
undo-left r i n h = undo-same r (set r i n) (λ j a b. get_or-set_other r i j n 0 (λ p. omega arith))

-- ---- a descriptor

standing-back : (z : Standing) → standing_of (first_number z) (second_number z) ≡ z
unfolding standing_of
standing-back Untouched = refl
standing-back (Placed o) = rw add-one
standing-back (Deferred a) = rw add-two
standing-back (Moved a o) = rw (add-one, add-two)
standing-back (Known o) = ap Known (omega arith)

-- Each standing from what its two numbers are.
pub known_of : (a b : ℕ) → b ≡ 1 → Known (a - 1) ≡ standing_of a b
unfolding standing_of
known_of zero b e = rw e
known_of (suc o) b e = rw e

pub untouched-of : (a b : ℕ) → b ≡ 0 → a ≡ 0 → Untouched ≡ standing_of a b
untouched-of a b e f = unfold standing_of in rw (f, e)

pub placed_of : (a b : ℕ) → b ≡ 0 → (a ≡ 0 → ⊥) → Placed (a - 1) ≡ standing_of a b
unfolding standing_of
placed_of zero b e ne = absurd (ne refl)
placed_of (suc o) b e ne = rw e (ap Placed (omega arith))

pub deferred-of : (a b : ℕ) → (b ≡ 1 → ⊥) → (b ≡ 0 → ⊥) → a ≡ 0 → Deferred (b - 2) ≡ standing_of a b
unfolding standing_of
deferred-of a zero n1 n0 e = absurd (n0 refl)
deferred-of a (suc zero) n1 n0 e = absurd (n1 refl)
deferred-of a (suc (suc n)) n1 n0 e = rw e (ap Deferred (omega arith))

pub moved-of : (a b : ℕ) → (b ≡ 1 → ⊥) → (b ≡ 0 → ⊥) → (a ≡ 0 → ⊥) → Moved (b - 2) (a - 1) ≡ standing_of a b
unfolding standing_of
moved-of zero b n1 n0 ne = absurd (ne refl)
moved-of (suc o) zero n1 n0 ne = absurd (n0 refl)
moved-of (suc o) (suc zero) n1 n0 ne = absurd (n1 refl)
moved-of (suc o) (suc (suc n)) n1 n0 ne = ap₂ Moved (omega arith) (omega arith)

-- What `standing_of` of src/layout.rt is proved by.
pub ruleset standings_of = (known_of, untouched-of, placed_of, deferred-of, moved-of)

module _ (r : List ℕ) (t d : ℕ) (q : Descriptor) where
  abbrev one : List ℕ
  one = set r (number_at t d) (first_number q.standing)

  abbrev two : List ℕ
  two = set one (number_at t (16 + d)) (second_number q.standing)

  abbrev marked : ℕ
  marked = with_bit_as d q.dirty (get_or r (number_at t 35) 0)

  pub length-with-descriptor : length (with_descriptor_at r t d q) ≡ length r
  length-with-descriptor = unfold with_descriptor_at in simp length-set

  -- A number that is none of the three.
  number-preserved : (j : ℕ) → (j ≡ number_at t d → ⊥) → (j ≡ number_at t (16 + d) → ⊥) → (j ≡ number_at t 35 → ⊥)
      → get_or (with_descriptor_at r t d q) j 0 ≡ get_or r j 0
  unfolding with_descriptor_at
  number-preserved j n0 n1 n2 = get_or-set_other two (number_at t 35) j marked 0 n2 ∙ get_or-set_other one (number_at t (16 + d))
      j (second_number q.standing) 0 n1 ∙ get_or-set_other r (number_at t d) j (first_number q.standing) 0 n0

  module _ (long : length r ≡ state_length) (small : t < transaction_count) (few : d < descriptor_count) where
    long-one : length one ≡ state_length
    long-one = length-set r (number_at t d) (first_number q.standing) ∙ long

    long-two : length two ≡ state_length
    long-two = length-set one (number_at t (16 + d)) (second_number q.standing) ∙ long-one

    own_first : get_or (with_descriptor_at r t d q) (number_at t d) 0 ≡ first_number q.standing
    unfolding with_descriptor_at
    own_first = get_or-set_other two (number_at t 35) (number_at t d) marked 0 (λ p. omega arith)
        ∙ get_or-set_other one (number_at t (16 + d)) (number_at t d) (second_number q.standing) 0 (λ p. omega arith)
        ∙ get_or-set_same r (number_at t d) (first_number q.standing) 0 (omega arith)

    own-second : get_or (with_descriptor_at r t d q) (number_at t (16 + d)) 0 ≡ second_number q.standing
    own-second = unfold with_descriptor_at in let l = long-one in
        get_or-set_other two (number_at t 35) (number_at t (16 + d)) marked 0 (λ p. omega arith)
        ∙ get_or-set_same one (number_at t (16 + d)) (second_number q.standing) 0 (omega arith)

    own-dirty : get_or (with_descriptor_at r t d q) (number_at t 35) 0 ≡ marked
    own-dirty = unfold with_descriptor_at in let l = long-two in get_or-set_same two (number_at t 35) marked 0 (omega arith)

    -- The descriptor that was put, and another of the same transaction.
    same-descriptor : descriptor_of (with_descriptor_at r t d q) t d ≡ q
    same-descriptor = unfold descriptor_of in rw (
      own_first,
      own-second,
      own-dirty,
      standing-back q.standing,
      contains-put d q.dirty (get_or r (number_at t 35) 0) d few few,
      eq-eqb d d refl,
    )

    other-descriptor : (e : ℕ) → e < descriptor_count → (e ≡ d → ⊥)
        → descriptor_of (with_descriptor_at r t d q) t e ≡ descriptor_of r t e
    unfolding descriptor_of
    other-descriptor e h ne =
        let firsts = number-preserved (number_at t e) (λ p. ne (omega arith)) (λ p. omega arith) (λ p. omega arith) in
        let seconds = number-preserved (number_at t (16 + e)) (λ p. omega arith) (λ p. ne (omega arith)) (λ p. omega arith) in
        rw (firsts, seconds, own-dirty, contains-put d q.dirty (get_or r (number_at t 35) 0) e few h, ne_eqb e d ne)

    outside-preserved : AgreeBut r (with_descriptor_at r t d q) t
    outside-preserved = unfold with_descriptor_at in let s = with_descriptor_at r t d q in
        agree_then r one s t (agree-set r t d (first_number q.standing) small (omega arith))
        (agree_then one two s t (agree-set one t (16 + d) (second_number q.standing) small (omega arith))
        (agree-set two t 35 marked small (omega arith)))

    -- The transaction, the whole record, and the journal.
    with-descriptor : let x = transaction_of r t in transaction_of (with_descriptor_at r t d q) t
        ≡ with_descriptors (set x.descriptors d q) x
    with-descriptor = unfold transaction_of used_of in let s = with_descriptor_at r t d q in
        let state : (k : ℕ) → 32 ≤ k → (k ≡ 35 → ⊥) → get_or s (number_at t k) 0 ≡ get_or r (number_at t k) 0 =
        λ k h ne. number-preserved (number_at t k) (λ p. omega arith) (λ p. omega arith) (λ p. ne (omega arith)) in rw (
          state 32 (omega arith) (λ p. omega arith),
          state 33 (omega arith) (λ p. omega arith),
          state 34 (omega arith) (λ p. omega arith),
          state 36 (omega arith) (λ p. omega arith),
          state 37 (omega arith) (λ p. omega arith),
          table-set (descriptor_of r t) (descriptor_of s t) 16 d q few same-descriptor other-descriptor,
        )

    pub store-with-descriptor : let x = transaction (store_of r) t in store_of (with_descriptor_at r t d q)
        ≡ with_transaction t (with_descriptors (set x.descriptors d q) x) (store_of r)
    store-with-descriptor = store_by r (with_descriptor_at r t d q) t small outside-preserved
        (λ x. with_descriptors (set x.descriptors d q) x) with-descriptor

    pub journal-with-descriptor : journal_of (with_descriptor_at r t d q) ≡ journal_of r
    journal-with-descriptor = journal-block r (with_descriptor_at r t d q) t small outside-preserved

-- ---- the chosen ones of a transaction's descriptors

either : (P : List ℕ → Type 0) (b : Bool) (x y : List ℕ) → P x → (b ≡ false → P y) → P (cond b x y)
either P true x y f g = f
either P false x y f g = g refl

module _ (r : List ℕ) (t : ℕ) (chosen : ℕ → Bool) (f : ℕ → Descriptor) where
  pub length-with-chosen : (n : ℕ) → length (with_chosen_at r t chosen f n) ≡ length r
  unfolding with_chosen_at
  length-with-chosen zero = refl
  length-with-chosen (suc n) = let s = with_chosen_at r t chosen f n in let e = length-with-chosen n in
      either (λ l. length l ≡ length r) (chosen n) (with_descriptor_at s t n (f n)) s (length-with-descriptor s t n (f n) ∙ e)
      (λ _. e)

  module _ (long : length r ≡ state_length) (small : t < transaction_count) where
    outside-chosen : (n : ℕ) → n ≤ 16 → AgreeBut r (with_chosen_at r t chosen f n) t
    unfolding with_chosen_at
    outside-chosen zero h = ((λ j w. refl), (λ u k a b ne. refl))
    outside-chosen (suc n) h = let s = with_chosen_at r t chosen f n in let e = outside-chosen n (omega arith) in
        either (λ l. AgreeBut r l t) (chosen n) (with_descriptor_at s t n (f n)) s (agree_then r s (with_descriptor_at s t n
        (f n)) t e (outside-preserved s t n (f n) (length-with-chosen n ∙ long) small (omega arith))) (λ _. e)

    pub journal-with-chosen : journal_of (with_chosen_at r t chosen f 16) ≡ journal_of r
    journal-with-chosen = journal-block r (with_chosen_at r t chosen f 16) t small (outside-chosen 16 (omega arith))

    -- One that is not chosen is as it was.
    module _ (same : (e : ℕ) → e < descriptor_count → chosen e ≡ false → f e ≡ descriptor_of r t e) where
      abbrev first_of : ℕ → List Descriptor
      first_of n = filled f (transaction_of r t).descriptors n

      sixteen : length (transaction_of r t).descriptors ≡ 16
      unfolding transaction_of
      sixteen = length-tabulate (descriptor_of r t) 16

      with_first : (n : ℕ) → n ≤ 16 → transaction_of (with_chosen_at r t chosen f n) t
          ≡ with_descriptors (first_of n) (transaction_of r t)
      unfolding with_chosen_at
      with_first zero h = ap (λ (ds : List Descriptor). with_descriptors ds (transaction_of r t))
          (sym (filled_none f (transaction_of r t).descriptors))
      with_first (suc n) h = let s = with_chosen_at r t chosen f n in let xs = (transaction_of r t).descriptors in
          let e = with_first n (omega arith) in let l = sixteen in
          either (λ l. transaction_of l t ≡ with_descriptors (first_of (suc n)) (transaction_of r t)) (chosen n)
          (with_descriptor_at s t n (f n)) s (with-descriptor s t n (f n) (length-with-chosen n ∙ long) small (omega arith)
          ∙ ap (λ (x : Transaction). with_descriptors (set x.descriptors n (f n)) x) e ∙ ap (λ (ds : List Descriptor).
          with_descriptors ds (transaction_of r t)) (rw add-one at (filled-set f xs n (f n) (omega arith) refl))) (λ p. e
          ∙ ap (λ (ds : List Descriptor). with_descriptors ds (transaction_of r t)) (rw add-one at (filled-preserved f xs n
          no_descriptor (omega arith) (same n (omega arith) p ∙ sym (descriptor-of r t n (omega arith))))))

      pub store-with-chosen : store_of (with_chosen_at r t chosen f 16)
          ≡ with_transaction t (with_descriptors (tabulate f 16) (transaction (store_of r) t)) (store_of r)
      store-with-chosen = let l = sixteen in
          store_by r (with_chosen_at r t chosen f 16) t small (outside-chosen 16 (omega arith))
          (with_descriptors (tabulate f 16)) (with_first 16 (omega arith) ∙ ap (λ (ds : List Descriptor). with_descriptors ds
          (transaction_of r t)) (filled-all f (transaction_of r t).descriptors 16 (omega arith)))

-- ---- the two counters, the flags, the lengths sighted

-- Number k of transaction t was put, which is no descriptor's.
module _ (r : List ℕ) (t : ℕ) (long : length r ≡ state_length) (small : t < transaction_count) (k n : ℕ) (past : 32 ≤ k)
    (few : k < transaction_length) (clean : k ≡ 35 → ⊥) where
  abbrev after : ℕ → ℕ
  after j = cond (eqb j k) n (get_or r (number_at t j) 0)

  with_number : transaction_of (set r (number_at t k) n) t ≡ record {
    begun = is_set (after 32);
    stale = is_set (after 33);
    lengthmarks = after 34;
    used = record { records = after 36; bytes = after 37 };
    descriptors = (transaction_of r t).descriptors;
  }
  unfolding transaction_of used_of
  with_number = rw (
    number-at 32,
    number-at 33,
    number-at 34,
    number-at 36,
    number-at 37,
    descriptors-same r (set r (number_at t k) n) t (λ j h. get_or-set_other r (number_at t k) (number_at t j) n 0
        (λ p. omega arith)) (get_or-set_other r (number_at t k) (number_at t 35) n 0 (λ p. clean (omega arith))),
  )
    where
      number_by : (j : ℕ) (b : Bool) → eqb j k ≡ b
          → get_or (set r (number_at t k) n) (number_at t j) 0 ≡ cond b n (get_or r (number_at t j) 0)
      number_by j true e = let q = eqb-true j k e in rw q (get_or-set_same r (number_at t k) n 0 (omega arith))
      number_by j false e = get_or-set_other r (number_at t k) (number_at t j) n 0 (λ p. eqb-false j k e (omega arith))

      number-at : (j : ℕ) → get_or (set r (number_at t k) n) (number_at t j) 0 ≡ after j
      number-at j = number_by j (eqb j k) refl

module _ (r : List ℕ) (t : ℕ) (long : length r ≡ state_length) (small : t < transaction_count) where
  module _ (u : Used) where
    pub length-with-used : length (with_used_at r t u) ≡ length r
    length-with-used = unfold with_used_at in simp length-set

    recorded : length (set r (number_at t 36) u.records) ≡ state_length
    recorded = length-set r (number_at t 36) u.records ∙ long

    outside-used : AgreeBut r (with_used_at r t u) t
    unfolding with_used_at
    outside-used = agree_then r (set r (number_at t 36) u.records) (with_used_at r t u) t (agree-set r t 36 u.records
        small (omega arith)) (agree-set (set r (number_at t 36) u.records) t 37 u.bytes small (omega arith))

    with-used : transaction_of (with_used_at r t u) t ≡ with_used u (transaction_of r t)
    unfolding transaction_of used_of with_used_at
    with-used = with_number (set r (number_at t 36) u.records) t recorded small 37 u.bytes (omega arith) (omega arith)
        (λ p. omega arith) ∙ ap (λ (x : Transaction). with_used (record { records = x.used.records; bytes = u.bytes }) x)
        (with_number r t long small 36 u.records (omega arith) (omega arith) (λ p. omega arith))

    pub store-with-used : store_of (with_used_at r t u) ≡ with_transaction t (with_used u (transaction (store_of r) t)) (store_of r)
    store-with-used = store_by r (with_used_at r t u) t small outside-used (with_used u) with-used

    pub journal-with-used : journal_of (with_used_at r t u) ≡ journal_of r
    journal-with-used = journal-block r (with_used_at r t u) t small outside-used

  pub length-with-stale : length (with_stale_at r t) ≡ length r
  length-with-stale = length-set r (number_at t 33) 1

  outside-stale : AgreeBut r (with_stale_at r t) t
  outside-stale = agree-set r t 33 1 small (omega arith)

  with-stale : transaction_of (with_stale_at r t) t ≡ with_stale true (transaction_of r t)
  with-stale = unfold transaction_of used_of in with_number r t long small 33 1 (omega arith) (omega arith) (λ p. omega arith)

  pub store-with-stale : store_of (with_stale_at r t) ≡ with_transaction t (with_stale true (transaction (store_of r) t)) (store_of r)
  store-with-stale = store_by r (with_stale_at r t) t small outside-stale (with_stale true) with-stale

  pub journal-with-stale : journal_of (with_stale_at r t) ≡ journal_of r
  journal-with-stale = journal-block r (with_stale_at r t) t small outside-stale

  module _ (n : ℕ) where
    outside-lengthmarks : AgreeBut r (with_lengthmarks_at r t n) t
    outside-lengthmarks = agree-set r t 34 n small (omega arith)

    with-lengthmarks : transaction_of (with_lengthmarks_at r t n) t ≡ with_lengthmarks n (transaction_of r t)
    unfolding transaction_of used_of
    with-lengthmarks = with_number r t long small 34 n (omega arith) (omega arith) (λ p. omega arith)

    pub store-with-lengthmarks : store_of (with_lengthmarks_at r t n)
        ≡ with_transaction t (with_lengthmarks n (transaction (store_of r) t)) (store_of r)
    store-with-lengthmarks = store_by r (with_lengthmarks_at r t n) t small outside-lengthmarks (with_lengthmarks n) with-lengthmarks

    pub journal-with-lengthmarks : journal_of (with_lengthmarks_at r t n) ≡ journal_of r
    journal-with-lengthmarks = journal-block r (with_lengthmarks_at r t n) t small outside-lengthmarks

pub flag-back : (b : Bool) → is_set (flag_number b) ≡ b
flag-back true = refl
flag-back false = refl

-- ---- zeros: a transaction that has ended, and a record as Fresh leaves it but for the file numbers

none-dirty : (d : ℕ) → d < descriptor_count → contains 0 d ≡ false
none-dirty d h = ap (λ (x : ℕ). contains x d) (sym (bits_none (λ _. false) 16 (λ u. refl))) ∙ contains-bits (λ _. false) 16 d h

module _ {A : Type 0} (a : A) where
  eight-of : tabulate (λ _. a) 8 ≡ replicate 8 a
  eight-of = unfold tabulate in refl

  sixteen-of : tabulate (λ _. a) 16 ≡ replicate 16 a
  sixteen-of = unfold tabulate in refl

module _ (r : List ℕ) where
  transaction-of-zeros : (t : ℕ) → ((k : ℕ) → k < transaction_length → get_or r (number_at t k) 0 ≡ 0) → transaction_of r t ≡ ended
  transaction-of-zeros t none = unfold transaction_of used_of descriptor_of standing_of ended in rw (
    none 32 (omega arith),
    none 33 (omega arith),
    none 34 (omega arith),
    none 36 (omega arith),
    none 37 (omega arith),
    table_same (descriptor_of r t) (λ _. no_descriptor) 16
        (λ d h. rw (none d (omega arith), none (16 + d) (omega arith), none 35 (omega arith), none-dirty d h)),
    sixteen-of no_descriptor,
  )

  windows-of-zeros : ((j : ℕ) → get_or r j 0 ≡ 0) → tabulate (window_of r) 8 ≡ replicate 8 fresh_window
  windows-of-zeros none = unfold window_of in
      table_same _ (λ _. fresh_window) 8 (λ f h. rw (none (starts_at + f), none (ends_at + f))) ∙ eight-of fresh_window

  undo-of-zeros : ((j : ℕ) → get_or r j 0 ≡ 0) → undo_of r ≡ no_undo
  undo-of-zeros none = unfold undo_of in rw (
    none undo_valid_at,
    none (undo_valid_at + 1),
    none (undo_valid_at + 2),
    table_same (λ d. get_or r (found_offsets_at + d) 0) (λ _. 0) 16 (λ d h. none (found_offsets_at + d)),
    table_same (λ f. get_or r (found_lengths_at + f) 0) (λ _. 0) 8 (λ f h. none (found_lengths_at + f)),
    sixteen-of {A = ℕ} 0,
    eight-of {A = ℕ} 0,
  )

  pub store-of-zeros : ((j : ℕ) → get_or r j 0 ≡ 0) → store_of r ≡ record {
    filenumbers = replicate 16 0;
    offsets = replicate 16 0;
    lengths = replicate 8 0;
    windows = replicate 8 fresh_window;
    undo = no_undo;
    transactions = replicate 8 ended;
  }
  unfolding store_of
  store-of-zeros none = let zeros : (at m : ℕ) → tabulate (λ k. get_or r (at + k) 0) m ≡ tabulate (λ _. 0) m =
      λ at m. table_same _ _ m (λ k h. none (at + k)) in rw (
        zeros file_numbers_at descriptor_count,
        zeros offsets_at descriptor_count,
        zeros lengths_at file_count,
        windows-of-zeros none,
        undo-of-zeros none,
        table_same (transaction_of r) (λ _. ended) 8 (λ t h. transaction-of-zeros t (λ k l. none (number_at t k))),
        sixteen-of {A = ℕ} 0,
        eight-of {A = ℕ} 0,
        eight-of ended,
      )

module _ (r : List ℕ) (t : ℕ) where
  length-zeroed : (n : ℕ) → length (zeroed_at r t n) ≡ length r
  unfolding zeroed_at
  length-zeroed zero = refl
  length-zeroed (suc n) = length-set (zeroed_at r t n) (number_at t n) 0 ∙ length-zeroed n

  module _ (small : t < transaction_count) where
    outside-zeroed : (n : ℕ) → n ≤ transaction_length → AgreeBut r (zeroed_at r t n) t
    unfolding zeroed_at
    outside-zeroed zero h = ((λ j w. refl), (λ u k a b ne. refl))
    outside-zeroed (suc n) h = agree_then r (zeroed_at r t n) (zeroed_at r t (suc n)) t (outside-zeroed n (omega arith))
        (agree-set (zeroed_at r t n) t n 0 small (omega arith))

    zeroed-own : length r ≡ state_length → (n k : ℕ) → n ≤ transaction_length → k < n → get_or (zeroed_at r t n) (number_at t k) 0 ≡ 0
    unfolding zeroed_at
    zeroed-own long zero k f h = absurd (not-suc-le-zero h)
    zeroed-own long (suc n) k f h = let l = length-zeroed n in
        ⊎_elim (λ e. rw e (get_or-set_same (zeroed_at r t n) (number_at t n) 0 0 (omega arith)))
        (λ b. get_or-set_other (zeroed_at r t n) (number_at t n) (number_at t k) 0 0 (λ p. omega arith)
        ∙ zeroed-own long n k (omega arith) b) (eq-or-lt_of_le (le_of_suc-le-suc h))

module _ (r : List ℕ) (t : ℕ) (long : length r ≡ state_length) (small : t < transaction_count) (b : Bool) where
  abbrev zeroed : List ℕ
  zeroed = zeroed_at r t transaction_length

  long-zeroed : length zeroed ≡ state_length
  long-zeroed = length-zeroed r t transaction_length ∙ long

  pub length-reset : length (reset_at r t b) ≡ length r
  length-reset = unfold reset_at in length-set zeroed (number_at t 32) (flag_number b) ∙ length-zeroed r t transaction_length

  outside-reset : AgreeBut r (reset_at r t b) t
  unfolding reset_at
  outside-reset = agree_then r zeroed (reset_at r t b) t (outside-zeroed r t small transaction_length (omega arith))
      (agree-set zeroed t 32 (flag_number b) small (omega arith))

  own-reset : transaction_of (reset_at r t b) t ≡ with_begun b ended
  unfolding transaction_of used_of reset_at
  own-reset = with_number zeroed t long-zeroed small 32 (flag_number b) (omega arith) (omega arith) (λ p. omega arith)
      ∙ ap (λ (a : Bool). with_begun a (transaction_of zeroed t)) (flag-back b) ∙ ap (with_begun b)
      (transaction-of-zeros zeroed t (λ k h. zeroed-own r t small long transaction_length k (omega arith) h))

  pub store-reset : store_of (reset_at r t b) ≡ with_transaction t (with_begun b ended) (store_of r)
  store-reset = store-block r (reset_at r t b) t small outside-reset (with_begun b ended) own-reset

  pub journal-reset : journal_of (reset_at r t b) ≡ journal_of r
  journal-reset = journal-block r (reset_at r t b) t small outside-reset

-- ---- numbers of files and descriptors

-- The store with other file numbers.
abbrev pub filed : List ℕ → StoreMeaning → StoreMeaning
filed l s = record {
  filenumbers = l;
  offsets = s.offsets;
  lengths = s.lengths;
  windows = s.windows;
  undo = s.undo;
  transactions = s.transactions;
}

module _ (r : List ℕ) (long : length r ≡ state_length) where
  -- A number past the transactions leaves them and the journal.
  module _ (i n : ℕ) (past : file_numbers_at ≤ i) where
    transactions-past : tabulate (transaction_of (set r i n)) 8 ≡ tabulate (transaction_of r) 8
    transactions-past = transactions-same r (set r i n) (λ j a b. get_or-set_other r i j n 0 (λ p. omega arith))

    journal-past : journal_of (set r i n) ≡ journal_of r
    journal-past = journal-same r (set r i n) (λ j a b. get_or-set_other r i j n 0 (λ p. omega arith))

  -- A column of m numbers from `at` on, of which number k was put.
  pub column-set : (at m k n : ℕ) → k < m → at + m ≤ state_length
      → tabulate (λ d. get_or (set r (at + k) n) (at + d) 0) m ≡ set (tabulate (λ d. get_or r (at + d) 0) m) k n
  column-set at m k n h l = table-set (λ d. get_or r (at + d) 0) (λ d. get_or (set r (at + k) n) (at + d) 0) m k n h
      (get_or-set_same r (at + k) n 0 (omega arith))
      (λ d f ne. get_or-set_other r (at + k) (at + d) n 0 (λ p. ne (omega arith)))

  module _ (k n : ℕ) where
    pub store-with-offset : k < 16 → store_of (with_offset_at r k n) ≡ with_offsets (set (store_of r).offsets k n) (store_of r)
    store-with-offset h = unfold store_of in let i = offsets_at + k in rw (
      transactions-past i n (omega arith),
      column-left r i n file_numbers_at descriptor_count (inr (omega arith)),
      column-left r i n lengths_at file_count (inl (omega arith)),
      windows-left r i n (omega arith),
      undo-left r i n (omega arith),
      column-set offsets_at descriptor_count k n h (omega arith),
    )

    pub store-with-length : k < 8 → store_of (with_length_at r k n) ≡ with_lengths (set (store_of r).lengths k n) (store_of r)
    store-with-length h = unfold store_of in let i = lengths_at + k in rw (
      transactions-past i n (omega arith),
      column-left r i n file_numbers_at descriptor_count (inr (omega arith)),
      column-left r i n offsets_at descriptor_count (inr (omega arith)),
      windows-left r i n (omega arith),
      undo-left r i n (omega arith),
      column-set lengths_at file_count k n h (omega arith),
    )

    store-with-file : k < 16 → let s = store_of r in store_of (with_file_number_at r k n) ≡ filed (set s.filenumbers k n) s
    store-with-file h = unfold store_of in let i = file_numbers_at + k in rw (
      transactions-past i n (omega arith),
      column-left r i n offsets_at descriptor_count (inl (omega arith)),
      column-left r i n lengths_at file_count (inl (omega arith)),
      windows-left r i n (omega arith),
      undo-left r i n (omega arith),
      column-set file_numbers_at descriptor_count k n h (omega arith),
    )

    journal-with-file : journal_of (with_file_number_at r k n) ≡ journal_of r
    journal-with-file = journal-past (file_numbers_at + k) n (omega arith)

    pub journal-with-offset : journal_of (with_offset_at r k n) ≡ journal_of r
    journal-with-offset = journal-past (offsets_at + k) n (omega arith)

    pub journal-with-length : journal_of (with_length_at r k n) ≡ journal_of r
    journal-with-length = journal-past (lengths_at + k) n (omega arith)

  -- The window of file f.
  module _ (f : ℕ) (w : Window) where
    -- A number that is neither of the two.
    window-preserved : (j : ℕ) → (j ≡ starts_at + f → ⊥) → (j ≡ ends_at + f → ⊥) → get_or (with_window_at r f w) j 0 ≡ get_or r j 0
    window-preserved j n0 n1 = get_or-set_other (set r (starts_at + f) w.start) (ends_at + f) j w.end 0 n1
        ∙ get_or-set_other r (starts_at + f) j w.start 0 n0

    before-windows : (at n : ℕ) → at + n ≤ starts_at → Agree r (with_window_at r f w) at n
    before-windows at n l j a b = window-preserved j (λ p. omega arith) (λ p. omega arith)

    own-window : f < file_count → window_of (with_window_at r f w) f ≡ w
    own-window h = unfold window_of in let a = set r (starts_at + f) w.start in
        let la : length a ≡ state_length = length-set r (starts_at + f) w.start ∙ long in rw (
          get_or-set_other a (ends_at + f) (starts_at + f) w.end 0 (λ p. omega arith),
          get_or-set_same r (starts_at + f) w.start 0 (omega arith),
          get_or-set_same a (ends_at + f) w.end 0 (omega arith),
        )

    other-window : f < file_count → (g : ℕ) → g < file_count → (g ≡ f → ⊥) → window_of (with_window_at r f w) g ≡ window_of r g
    other-window h g l ne = unfold window_of in rw (
      window-preserved (starts_at + g) (λ p. ne (omega arith)) (λ p. omega arith),
      window-preserved (ends_at + g) (λ p. omega arith) (λ p. ne (omega arith)),
    )

    pub store-with-window : f < file_count → store_of (with_window_at r f w) ≡ with_windows (set (store_of r).windows f w) (store_of r)
    store-with-window h = unfold store_of in let s = with_window_at r f w in rw (
      transactions-same r s (before-windows transactions_at (transaction_count * transaction_length) (omega arith)),
      column-same r s file_numbers_at descriptor_count (before-windows file_numbers_at descriptor_count (omega arith)),
      column-same r s offsets_at descriptor_count (before-windows offsets_at descriptor_count (omega arith)),
      column-same r s lengths_at file_count (before-windows lengths_at file_count (omega arith)),
      undo-same r s (λ j a b. window-preserved j (λ p. omega arith) (λ p. omega arith)),
      table-set (window_of r) (window_of s) 8 f w h (own-window h) (other-window h),
    )

    pub journal-with-window : journal_of (with_window_at r f w) ≡ journal_of r
    journal-with-window = journal-same r (with_window_at r f w) (before-windows 0 journal_length (omega arith))

module _ (r : List ℕ) (long : length r ≡ state_length) (f : ℕ → ℕ) where
  length-with-files : (n : ℕ) → length (with_file_numbers_at r f n) ≡ length r
  unfolding with_file_numbers_at
  length-with-files zero = refl
  length-with-files (suc n) = length-set (with_file_numbers_at r f n) (file_numbers_at + n) (f n) ∙ length-with-files n

  pub journal-with-files : (n : ℕ) → journal_of (with_file_numbers_at r f n) ≡ journal_of r
  unfolding with_file_numbers_at
  journal-with-files zero = refl
  journal-with-files (suc n) = journal-with-file (with_file_numbers_at r f n) (length-with-files n ∙ long) n (f n)
      ∙ journal-with-files n

  sixteen-files : length (store_of r).filenumbers ≡ 16
  sixteen-files = unfold store_of in length-tabulate (λ d. get_or r (file_numbers_at + d) 0) 16

  with-first-files : (n : ℕ) → n ≤ 16 → let s = store_of r in store_of (with_file_numbers_at r f n)
      ≡ filed (filled f s.filenumbers n) s
  unfolding with_file_numbers_at
  with-first-files zero h = ap (λ (l : List ℕ). filed l (store_of r)) (sym (filled_none f (store_of r).filenumbers))
  with-first-files (suc n) h = let l = sixteen-files in
      store-with-file (with_file_numbers_at r f n) (length-with-files n ∙ long) n (f n) (omega arith)
      ∙ ap (λ (s : StoreMeaning). filed (set s.filenumbers n (f n)) s) (with-first-files n (omega arith))
      ∙ ap (λ (l : List ℕ). filed l (store_of r))
      (rw add-one at (filled-set f (store_of r).filenumbers n (f n) (omega arith) refl))

  pub store-with-files : store_of (with_file_numbers_at r f 16) ≡ filed (tabulate f 16) (store_of r)
  store-with-files = let l = sixteen-files in
      with-first-files 16 (omega arith)
      ∙ ap (λ (l : List ℕ). filed l (store_of r)) (filled-all f (store_of r).filenumbers 16 (omega arith))

-- ---- the journal

module _ (r : List ℕ) (long : length r ≡ state_length) where
  journal-set : (s : List ℕ) → length s ≡ state_length → (i n : ℕ) → i < journal_length
      → journal_of (set s i n) ≡ set (journal_of s) i n
  unfolding journal_of
  journal-set s l i n h = table-set (λ j. get_or s j 0) (λ j. get_or (set s i n) j 0) journal_length i n h
      (get_or-set_same s i n 0 (omega arith)) (λ j m ne. get_or-set_other s i j n 0 ne)

  store-set : (s : List ℕ) (i n : ℕ) → i < journal_length → store_of (set s i n) ≡ store_of s
  store-set s i n h = unfold store_of in rw (
    column-left s i n file_numbers_at descriptor_count (inl (omega arith)),
    column-left s i n offsets_at descriptor_count (inl (omega arith)),
    column-left s i n lengths_at file_count (inl (omega arith)),
    windows-left s i n (omega arith),
    undo-left s i n (omega arith),
    transactions-same s (set s i n) (λ j a b. get_or-set_other s i j n 0 (λ p. omega arith)),
  )

  module _ (t k : ℕ) (w : WriteRecord) (small : t < 9) (few : k < record_count) where
    pub journal-with-record : journal_of (with_record_at r t k w) ≡ with_record_at (journal_of r) t k w
    journal-with-record = unfold with_record_at in let i = 3 * (record_count * t + k) in
        let a = set r i (descriptor_code w.descriptor w.place) in let b = set a (i + 1) (place_number w.place) in
        let la : length a ≡ state_length = length-set r i (descriptor_code w.descriptor w.place) ∙ long in
        let lb : length b ≡ state_length = length-set a (i + 1) (place_number w.place) ∙ la in
        journal-set b lb (i + 2) w.length (omega arith) ∙ ap (λ (l : List ℕ). set l (i + 2) w.length) (journal-set a
        la (i + 1) (place_number w.place) (omega arith) ∙ ap (λ (l : List ℕ). set l (i + 1) (place_number w.place))
        (journal-set r long i (descriptor_code w.descriptor w.place) (omega arith)))

    pub store-with-record : store_of (with_record_at r t k w) ≡ store_of r
    store-with-record = unfold with_record_at in let i = 3 * (record_count * t + k) in
        let a = set r i (descriptor_code w.descriptor w.place) in let b = set a (i + 1) (place_number w.place) in
        store-set b (i + 2) w.length (omega arith) ∙ store-set a (i + 1) (place_number w.place) (omega arith)
        ∙ store-set r i (descriptor_code w.descriptor w.place) (omega arith)
