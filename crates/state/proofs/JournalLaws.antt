-- Laws of write records in the journal: what is read after one is written.
use mathlib.Core.{Bool.{Bool, true, false}, List.List, Logic.⊎_elim, Path.{◌≡◌, refl, ◌∙◌}}
use lib.{Dec.ltb, ListN.{get_or, set, length, length-set}, Seq.{get_or-set_same, get_or-set_other, set-get_or}}
use borrow.Author.Tests.{lt-ltb, le-ltb, ltb-false}
use native.Mathlib.{Nat.{eq-or-lt_of_le, le_of_suc-le-suc, not-suc-le-zero}, Omega.arith, Numerals.add-one}
use Prim.Native.Nat.{ℕ, zero, suc, ◌+◌, ◌-◌, ◌*◌, ◌≤◌, ◌<◌}
use Rattle.limits.specs.Limits.{descriptor_count, record_count}
use Rattle.standings.specs.{declared.Place.{Place, TheVariants.{At, After}}, Table.place_number}
use Rattle.state.specs.declared.journal.WriteRecord.{WriteRecord}
use Rattle.state.specs.Journal.{descriptor_code, decoded_as, decoded, write_record_at, with_record_at, with_records, journal_length}

-- ---- three numbers and a record

-- A record as three numbers, and back.
decoded-place : (d : ℕ) (place : Place) (n : ℕ) → d < descriptor_count
    → decoded (descriptor_code d place) (place_number place) n ≡ record { descriptor = d; place = place; length = n }
unfolding decoded decoded_as
decoded-place d (At p) n h = rw (lt-ltb d 16 h)
decoded-place d (After a) n h = rw (le-ltb (16 + d) 16 (omega arith), let e : 16 + d - 16 ≡ d = omega arith in e)

decoded-record : (w : WriteRecord) → w.descriptor < descriptor_count
    → decoded (descriptor_code w.descriptor w.place) (place_number w.place) w.length ≡ w
decoded-record w h = decoded-place w.descriptor w.place w.length h

-- Three numbers as a record, and back.
module _ (h p n : ℕ) where
  code-decoded : descriptor_code (decoded h p n).descriptor (decoded h p n).place ≡ h
  unfolding decoded decoded_as
  code-decoded = pick (ltb h 16) refl
    where
      pick : (b : Bool) → ltb h 16 ≡ b → descriptor_code (decoded_as b h p n).descriptor (decoded_as b h p n).place ≡ h
      pick true e = refl
      pick false e = let l = ltb-false h 16 e in omega arith

  number-decoded : place_number (decoded h p n).place ≡ p
  unfolding decoded decoded_as
  number-decoded = pick (ltb h 16)
    where
      pick : (b : Bool) → place_number (decoded_as b h p n).place ≡ p
      pick true = refl
      pick false = refl

  pub length-decoded : (decoded h p n).length ≡ n
  unfolding decoded decoded_as
  length-decoded = pick (ltb h 16)
    where
      pick : (b : Bool) → (decoded_as b h p n).length ≡ n
      pick true = refl
      pick false = refl

-- ---- one record

module _ (journal : List ℕ) (t k : ℕ) where
  pub length-with-at : (w : WriteRecord) → length (with_record_at journal t k w) ≡ length journal
  length-with-at w = unfold with_record_at in simp length-set

  -- A record written over itself.
  pub with-own : with_record_at journal t k (write_record_at journal t k) ≡ journal
  with-own = unfold with_record_at write_record_at in let i = 3 * (record_count * t + k) in let a = get_or journal i 0 in
      let b = get_or journal (i + 1) 0 in let c = get_or journal (i + 2) 0 in rw (
        code-decoded a b c,
        number-decoded a b c,
        length-decoded a b c,
        set-get_or journal i 0,
        set-get_or journal (i + 1) 0,
        set-get_or journal (i + 2) 0,
      )

  module _ (w : WriteRecord) (long : length journal ≡ journal_length) (small : t < 9) (few : k < record_count) where
    at_same : w.descriptor < descriptor_count → write_record_at (with_record_at journal t k w) t k ≡ w
    unfolding with_record_at write_record_at
    at_same low = let i = 3 * (record_count * t + k) in let h = descriptor_code w.descriptor w.place in
        let p = place_number w.place in let a = set journal i h in let b = set a (i + 1) p in
        let c = set b (i + 2) w.length in let la : length a ≡ journal_length = length-set journal i h ∙ long in
        let lb : length b ≡ journal_length = length-set a (i + 1) p ∙ la in
        let e : get_or c i 0 ≡ h = get_or-set_other b (i + 2) i w.length 0 (λ q. omega arith)
        ∙ get_or-set_other a (i + 1) i p 0 (λ q. omega arith) ∙ get_or-set_same journal i h 0 (omega arith) in
        let f : get_or c (i + 1) 0 ≡ p = get_or-set_other b (i + 2) (i + 1) w.length 0 (λ q. omega arith)
        ∙ get_or-set_same a (i + 1) p 0 (omega arith) in
        let g : get_or c (i + 2) 0 ≡ w.length = get_or-set_same b (i + 2) w.length 0 (omega arith) in
        rw (e, f, g) (decoded-record w low)

    at_other : (u j : ℕ) → u < 9 → j < record_count → (record_count * u + j ≡ record_count * t + k → ⊥)
        → write_record_at (with_record_at journal t k w) u j ≡ write_record_at journal u j
    unfolding with_record_at write_record_at
    at_other u j m l ne = let i = 3 * (record_count * t + k) in let n = 3 * (record_count * u + j) in
        let h = descriptor_code w.descriptor w.place in let p = place_number w.place in let a = set journal i h in
        let b = set a (i + 1) p in let c = set b (i + 2) w.length in
        let e : get_or c n 0 ≡ get_or journal n 0 = get_or-set_other b (i + 2) n w.length 0 (λ q. omega arith)
        ∙ get_or-set_other a (i + 1) n p 0 (λ q. omega arith) ∙ get_or-set_other journal i n h 0 (λ q. ne (omega arith)) in
        let f : get_or c (n + 1) 0 ≡ get_or journal (n + 1) 0 = get_or-set_other b (i + 2) (n + 1) w.length 0
        (λ q. omega arith) ∙ get_or-set_other a (i + 1) (n + 1) p 0 (λ q. ne (omega arith))
        ∙ get_or-set_other journal i (n + 1) h 0 (λ q. omega arith) in
        let g : get_or c (n + 2) 0 ≡ get_or journal (n + 2) 0 = get_or-set_other b (i + 2) (n + 2) w.length 0
        (λ q. ne (omega arith)) ∙ get_or-set_other a (i + 1) (n + 2) p 0 (λ q. omega arith)
        ∙ get_or-set_other journal i (n + 2) h 0 (λ q. omega arith) in rw (e, f, g)

-- ---- the first records of a transaction: none, one more, the same ones, its own

module _ (journal : List ℕ) (t : ℕ) where
  pub with_none : (f : ℕ → WriteRecord) → with_records journal t f 0 ≡ journal
  with_none f = unfold with_records in refl

  pub with-more : (f : ℕ → WriteRecord) (n : ℕ) → with_records journal t f (n + 1)
      ≡ with_record_at (with_records journal t f n) t n (f n)
  with-more f n = unfold with_records in rw add-one

  pub length-with : (f : ℕ → WriteRecord) (n : ℕ) → length (with_records journal t f n) ≡ length journal
  unfolding with_records
  length-with f zero = refl
  length-with f (suc n) = length-with-at (with_records journal t f n) t n (f n) ∙ length-with f n

  pub with-same : (f g : ℕ → WriteRecord) (n : ℕ) → ((k : ℕ) → k < n → f k ≡ g k) → with_records journal t f n
      ≡ with_records journal t g n
  unfolding with_records
  with-same f g zero h = refl
  with-same f g (suc n) h = rw (with-same f g n (λ k l. h k (omega arith)), h n (omega arith))

  pub with-own-records : (n : ℕ) → with_records journal t (write_record_at journal t) n ≡ journal
  unfolding with_records
  with-own-records zero = refl
  with-own-records (suc n) = rw (with-own-records n, with-own journal t n)

  module _ (f : ℕ → WriteRecord) (long : length journal ≡ journal_length) (small : t < 9) where
    -- What is read elsewhere, past the records written or in another transaction.
    pub read_past : (n u j : ℕ) → n ≤ record_count → u < 9 → j < record_count → ((k : ℕ) → k < n → record_count * u + j
        ≡ record_count * t + k → ⊥) → write_record_at (with_records journal t f n) u j ≡ write_record_at journal u j
    unfolding with_records
    read_past zero u j few m l ne = refl
    read_past (suc n) u j few m l ne = at_other (with_records journal t f n) t n (f n) (length-with f n ∙ long) small
        (omega arith) u j m l (ne n (omega arith)) ∙ read_past n u j (omega arith) m l (λ k h. ne k (omega arith))

    -- The next record is not changed yet.
    pub read_next : (n : ℕ) → n < record_count → write_record_at (with_records journal t f n) t n ≡ write_record_at journal t n
    read_next n few = read_past n t n (omega arith) small few (λ k h q. omega arith)

    -- The records written.
    pub read-own : (n k : ℕ) → n ≤ record_count → k < n → (f k).descriptor < descriptor_count
        → write_record_at (with_records journal t f n) t k ≡ f k
    unfolding with_records
    read-own zero k few h low = absurd (not-suc-le-zero h)
    read-own (suc n) k few h low = ⊎_elim (λ e. rw e
        (at_same (with_records journal t f n) t n (f n) (length-with f n ∙ long) small (omega arith) (rw e at low)))
        (λ l. at_other (with_records journal t f n) t n (f n) (length-with f n ∙ long) small (omega arith) t k small
        (omega arith) (λ q. omega arith) ∙ read-own n k (omega arith) l low) (eq-or-lt_of_le (le_of_suc-le-suc h))

    -- The records of another transaction.
    pub read-elsewhere : (n u j : ℕ) → n ≤ record_count → u < 9 → j < record_count → (u ≡ t → ⊥)
        → write_record_at (with_records journal t f n) u j ≡ write_record_at journal u j
    read-elsewhere n u j few m l other = read_past n u j few m l (λ k h q. other (omega arith))
