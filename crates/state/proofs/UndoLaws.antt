-- What the record means after something was put into what it holds of the last grant, or went back from there.
use mathlib.Core.{Bool.Bool, List.List, Logic.{◌⊎◌, inl, inr, ⊎_elim}, Path.{◌≡◌, refl, ◌∙◌}}
use lib.{ListN.{get_or, set, length, length-set}, Seq.{get_or-set_same, get_or-set_other}}
use native.Mathlib.{Nat.{eq-or-lt_of_le, le_of_suc-le-suc, not-suc-le-zero}, Omega.arith}
use Prim.Native.Nat.{ℕ, zero, suc, ◌+◌, ◌≤◌, ◌<◌, ◌*◌}
use Rattle.limits.specs.Limits.{file_count, descriptor_count, transaction_count}
use Rattle.buffers.{specs.Parts.tabulate, proofs.TableLaws.table_same}
use Rattle.counters.specs.declared.Used.{Used}
use Rattle.state.specs.{declared.Undo.Undo, StoreMeaning.{with_offsets, with_lengths, with_valid, with_undo}}
use Rattle.state.specs.Layout.{undo_of, store_of, journal_of, state_length, transactions_at, transaction_length, file_numbers_at}
use Rattle.state.specs.Layout.{offsets_at, lengths_at, starts_at, found_offsets_at, found_lengths_at, undo_valid_at}
use Rattle.state.specs.Updates.{flag_number, with_undo_valid_at, with_undo_used_at, copied_to, with_committed_found}
use Rattle.state.specs.Updates.{with_found_committed}
use Rattle.state.proofs.LayoutLaws.{Agree, journal-same, column-same, windows-same, transactions-same, undo-same}
use Rattle.state.proofs.LayoutLaws.{flag-back, column-left}

-- Two records that agree on the numbers before those of the last grant.
module _ (r s : List ℕ) (before : Agree r s 0 found_offsets_at) where
  store-before : (u : Undo) → undo_of s ≡ u → store_of s ≡ with_undo u (store_of r)
  unfolding store_of
  store-before u e = let first : (at n : ℕ) → at + n ≤ found_offsets_at → Agree r s at n =
      λ at n l j a b. before j (omega arith) (omega arith) in rw (
        column-same r s file_numbers_at descriptor_count (first file_numbers_at descriptor_count (omega arith)),
        column-same r s offsets_at descriptor_count (first offsets_at descriptor_count (omega arith)),
        column-same r s lengths_at file_count (first lengths_at file_count (omega arith)),
        windows-same r s (first starts_at 16 (omega arith)),
        transactions-same r s (first transactions_at (transaction_count * transaction_length) (omega arith)),
        e,
      )

  journal-before : journal_of s ≡ journal_of r
  journal-before = journal-same r s (λ j a b. before j (omega arith) (omega arith))

-- ---- one number, or the two counters

module _ (r : List ℕ) (long : length r ≡ state_length) where
  before-put : (i n : ℕ) → found_offsets_at ≤ i → Agree r (set r i n) 0 found_offsets_at
  before-put i n past j a b = get_or-set_other r i j n 0 (λ p. omega arith)

  module _ (b : Bool) where
    pub length-with-valid : length (with_undo_valid_at r b) ≡ length r
    length-with-valid = length-set r undo_valid_at (flag_number b)

    own-valid : undo_of (with_undo_valid_at r b) ≡ with_valid b (undo_of r)
    own-valid = unfold undo_of in let n = flag_number b in rw (
      get_or-set_same r undo_valid_at n 0 (omega arith),
      flag-back b,
      get_or-set_other r undo_valid_at (undo_valid_at + 1) n 0 (λ p. omega arith),
      get_or-set_other r undo_valid_at (undo_valid_at + 2) n 0 (λ p. omega arith),
      column-left r undo_valid_at n found_offsets_at descriptor_count (inr (omega arith)),
      column-left r undo_valid_at n found_lengths_at file_count (inr (omega arith)),
    )

    pub store-with-valid : store_of (with_undo_valid_at r b) ≡ with_undo (with_valid b (store_of r).undo) (store_of r)
    unfolding store_of
    store-with-valid = store-before r (with_undo_valid_at r b) (before-put undo_valid_at (flag_number b) (omega arith))
        (with_valid b (undo_of r)) own-valid

    pub journal-with-valid : journal_of (with_undo_valid_at r b) ≡ journal_of r
    journal-with-valid = journal-before r (with_undo_valid_at r b) (before-put undo_valid_at (flag_number b) (omega arith))

  module _ (u : Used) where
    abbrev with-records : List ℕ
    with-records = set r (undo_valid_at + 1) u.records

    pub length-with-undo-used : length (with_undo_used_at r u) ≡ length r
    length-with-undo-used = simp length-set

    long-records : length with-records ≡ state_length
    long-records = length-set r (undo_valid_at + 1) u.records ∙ long

    before-counters : Agree r (with_undo_used_at r u) 0 found_offsets_at
    before-counters j a b = get_or-set_other with-records (undo_valid_at + 2) j u.bytes 0 (λ p. omega arith)
        ∙ get_or-set_other r (undo_valid_at + 1) j u.records 0 (λ p. omega arith)

    abbrev with-counters : Undo → Undo
    with-counters x = record { valid = x.valid; used = u; offsets = x.offsets; lengths = x.lengths }

    own-counters : undo_of (with_undo_used_at r u) ≡ with-counters (undo_of r)
    own-counters = unfold undo_of in let s = with-records in let l = long-records in let m = u.bytes in rw (
      get_or-set_other s (undo_valid_at + 2) undo_valid_at m 0 (λ p. omega arith),
      get_or-set_other r (undo_valid_at + 1) undo_valid_at u.records 0 (λ p. omega arith),
      get_or-set_other s (undo_valid_at + 2) (undo_valid_at + 1) m 0 (λ p. omega arith),
      get_or-set_same r (undo_valid_at + 1) u.records 0 (omega arith),
      get_or-set_same s (undo_valid_at + 2) m 0 (omega arith),
      column-left s (undo_valid_at + 2) m found_offsets_at descriptor_count (inr (omega arith)),
      column-left r (undo_valid_at + 1) u.records found_offsets_at descriptor_count (inr (omega arith)),
      column-left s (undo_valid_at + 2) m found_lengths_at file_count (inr (omega arith)),
      column-left r (undo_valid_at + 1) u.records found_lengths_at file_count (inr (omega arith)),
    )

    pub store-with-undo-used : let x = (store_of r).undo in store_of (with_undo_used_at r u)
        ≡ with_undo (record { valid = x.valid; used = u; offsets = x.offsets; lengths = x.lengths }) (store_of r)
    unfolding store_of
    store-with-undo-used = store-before r (with_undo_used_at r u) before-counters (with-counters (undo_of r)) own-counters

    pub journal-with-undo-used : journal_of (with_undo_used_at r u) ≡ journal_of r
    journal-with-undo-used = journal-before r (with_undo_used_at r u) before-counters

-- ---- all 24 offsets and lengths, copied

module _ (r : List ℕ) (from to : ℕ) where
  pub length-copied : (n : ℕ) → length (copied_to r from to n) ≡ length r
  unfolding copied_to
  length-copied zero = refl
  length-copied (suc n) = let s = copied_to r from to n in length-set s (to + n) (get_or s (from + n) 0) ∙ length-copied n

  -- A number that is none of the copies.
  copied-other : (n j : ℕ) → (j < to) ⊎ (to + n ≤ j) → get_or (copied_to r from to n) j 0 ≡ get_or r j 0
  unfolding copied_to
  copied-other zero j w = refl
  copied-other (suc n) j w = let s = copied_to r from to n in
      get_or-set_other s (to + n) j (get_or s (from + n) 0) 0 (⊎_elim (λ h p. omega arith) (λ h p. omega arith) w)
      ∙ copied-other n j (⊎_elim inl (λ h. inr (omega arith)) w)

  -- The copies, where the two stretches have no number in common.
  copied-own : (n k : ℕ) → (from + n ≤ to) ⊎ (to + n ≤ from) → to + n ≤ length r → k < n
      → get_or (copied_to r from to n) (to + k) 0 ≡ get_or r (from + k) 0
  unfolding copied_to
  copied-own zero k apart fit h = absurd (not-suc-le-zero h)
  copied-own (suc n) k apart fit h = let s = copied_to r from to n in let l = length-copied n in
      ⊎_elim (λ e. rw e (get_or-set_same s (to + n) (get_or s (from + n) 0) 0 (omega arith)
      ∙ copied-other n (from + n) (⊎_elim (λ a. inl (omega arith)) (λ a. inr (omega arith)) apart))) (λ b. get_or-set_other s
      (to + n) (to + k) (get_or s (from + n) 0) 0 (λ p. omega arith) ∙ copied-own n k (⊎_elim (λ a. inl (omega arith))
      (λ a. inr (omega arith)) apart) (omega arith) b) (eq-or-lt_of_le (le_of_suc-le-suc h))

  -- A column of m of the copies, from `a` on, and the column from `b` on that it was copied from.
  column-copied : (n a b at m : ℕ) → (from + n ≤ to) ⊎ (to + n ≤ from) → to + n ≤ length r → a ≡ to + at → b ≡ from + at
      → at + m ≤ n → tabulate (λ k. get_or (copied_to r from to n) (a + k) 0) m ≡ tabulate (λ k. get_or r (b + k) 0) m
  column-copied n a b at m apart fit ea eb l = table_same _ _ m (λ k h. let e : a + k ≡ to + (at + k) = omega arith in
      let f : b + k ≡ from + (at + k) = omega arith in rw (e, f) (copied-own n (at + k) apart fit (omega arith)))

module _ (r : List ℕ) (long : length r ≡ state_length) where
  own-found : undo_of (with_committed_found r) ≡ record {
    valid = (undo_of r).valid;
    used = (undo_of r).used;
    offsets = tabulate (λ d. get_or r (offsets_at + d) 0) descriptor_count;
    lengths = tabulate (λ f. get_or r (lengths_at + f) 0) file_count;
  }
  unfolding undo_of
  own-found = let left : (j : ℕ) → undo_valid_at ≤ j → get_or (with_committed_found r) j 0 ≡ get_or r j 0 =
      λ j l. copied-other r offsets_at found_offsets_at 24 j (inr l) in rw (
        left undo_valid_at (omega arith),
        left (undo_valid_at + 1) (omega arith),
        left (undo_valid_at + 2) (omega arith),
        column-copied r offsets_at found_offsets_at 24 found_offsets_at offsets_at 0 16 (inl (omega arith)) (omega arith) refl
            refl (omega arith),
        column-copied r offsets_at found_offsets_at 24 found_lengths_at lengths_at 16 8 (inl (omega arith)) (omega arith) refl
            refl (omega arith),
      )

  before-found : Agree r (with_committed_found r) 0 found_offsets_at
  before-found j a b = copied-other r offsets_at found_offsets_at 24 j (inl b)

  pub store-with-committed-found : let s = store_of r in store_of (with_committed_found r)
      ≡ with_undo (record { valid = s.undo.valid; used = s.undo.used; offsets = s.offsets; lengths = s.lengths }) s
  store-with-committed-found = unfold store_of in store-before r (with_committed_found r) before-found _ own-found

  pub journal-with-committed-found : journal_of (with_committed_found r) ≡ journal_of r
  journal-with-committed-found = journal-before r (with_committed_found r) before-found

  pub store-with-found-committed : let s = store_of r in store_of (with_found_committed r)
      ≡ with_offsets s.undo.offsets (with_lengths s.undo.lengths s)
  store-with-found-committed = unfold store_of undo_of in let s = with_found_committed r in
      let left : (at n : ℕ) → (at + n ≤ offsets_at) ⊎ (starts_at ≤ at) → Agree r s at n = λ at n w j a b. copied-other r
      found_offsets_at offsets_at 24 j (⊎_elim (λ l. inl (omega arith)) (λ l. inr (omega arith)) w) in rw (
        column-same r s file_numbers_at descriptor_count (left file_numbers_at descriptor_count (inl (omega arith))),
        windows-same r s (left starts_at 16 (inr (omega arith))),
        undo-same r s (left found_offsets_at 27 (inr (omega arith))),
        transactions-same r s (left transactions_at (transaction_count * transaction_length) (inl (omega arith))),
        column-copied r found_offsets_at offsets_at 24 offsets_at found_offsets_at 0 16 (inr (omega arith)) (omega arith) refl
            refl (omega arith),
        column-copied r found_offsets_at offsets_at 24 lengths_at found_lengths_at 16 8 (inr (omega arith)) (omega arith) refl
            refl (omega arith),
      )

  pub journal-with-found-committed : journal_of (with_found_committed r) ≡ journal_of r
  journal-with-found-committed = journal-same r (with_found_committed r)
      (λ j a b. copied-other r found_offsets_at offsets_at 24 j (inl (omega arith)))
