-- A write record as three numbers, and those of the last grant in a journal of zeros.
use mathlib.Core.{Bool.{Bool, true, false}, List.List, Path.{◌≡◌, refl, sym, ap, ◌∙◌}}
use borrow.Author.Tests.{lt-ltb, le-ltb, ltb-false}
use lib.{Dec.ltb, ListN.{get_or, set, length, length-set}, Seq.{get_or-set_same, get_or-set_other}}
use native.Mathlib.Omega.{arith}
use Prim.Native.Nat.{ℕ, zero, suc, ◌+◌, ◌-◌, ◌*◌, ◌≤◌, ◌<◌, min}
use Rattle.limits.specs.Limits.{record_count}
use Rattle.standings.specs.Table.{place_number}
use Rattle.state.specs.declared.journal.WriteRecord.{WriteRecord}
use Rattle.state.specs.Journal.{decoded_as, decoded, last_grant, write_record_at, with_record_at, with_records, journal_length}
use Rattle.images.{specs.{Images.{record_code, no_record, grant_record}, Young.with_each}, proofs.YoungLaws.{each-own, records-cut}}

-- ---- three numbers

module _ (h p n : ℕ) where
  pub code-of-decoded : record_code (decoded h p n) ≡ h
  unfolding decoded decoded_as
  code-of-decoded = pick (ltb h 16) refl
    where
      pick : (b : Bool) → ltb h 16 ≡ b → record_code (decoded_as b h p n) ≡ h
      pick true e = refl
      pick false e = let l = ltb-false h 16 e in let q : 16 + (h - 16) ≡ h = omega arith in q

  pub place-of-decoded : place_number (decoded h p n).place ≡ p
  unfolding decoded decoded_as
  place-of-decoded = pick (ltb h 16)
    where
      pick : (b : Bool) → place_number (decoded_as b h p n).place ≡ p
      pick true = refl
      pick false = refl

  pub length-of-decoded : (decoded h p n).length ≡ n
  unfolding decoded decoded_as
  length-of-decoded = pick (ltb h 16)
    where
      pick : (b : Bool) → (decoded_as b h p n).length ≡ n
      pick true = refl
      pick false = refl

  pub again-decoded : decoded (record_code (decoded h p n)) (place_number (decoded h p n).place) (decoded h p n).length
      ≡ decoded h p n
  again-decoded = λ i. decoded (code-of-decoded i) (place-of-decoded i) (length-of-decoded i)

-- ---- a grant's records, and none past them

module _ (records : ℕ) (journal : List ℕ) (k : ℕ) where
  pub has-record : k < records → grant_record records journal k ≡ write_record_at journal last_grant k
  has-record h = unfold grant_record in rw (lt-ltb k records h)

  pub no_record_lem : records ≤ k → grant_record records journal k ≡ no_record
  no_record_lem h = unfold grant_record in rw (le-ltb k records h)

-- ---- records put into a journal are read again

module _ (f : ℕ → WriteRecord) where
  abbrev put_record : ℕ → List ℕ → List ℕ
  put_record k r = with_record_at r last_grant k (f k)

  as-each : (journal : List ℕ) (n : ℕ) → with_records journal last_grant f n ≡ with_each put_record n journal
  unfolding with_records with_each
  as-each journal zero = refl
  as-each journal (suc n) = ap (put_record n) (as-each journal n)

  length-put : (k : ℕ) (r : List ℕ) → length (put_record k r) ≡ length r
  length-put k r = unfold with_record_at in simp length-set

  abbrev first : ℕ → ℕ
  first k = 3 * (record_count * last_grant + k)

  module _ (k : ℕ) (r : List ℕ) where
    abbrev one : List ℕ
    one = set r (first k) (record_code (f k))

    abbrev two : List ℕ
    two = set one (first k + 1) (place_number (f k).place)

    put_other : (j : ℕ) → (j ≡ first k → ⊥) → (j ≡ first k + 1 → ⊥) → (j ≡ first k + 2 → ⊥) → get_or
        (put_record k r) j 0 ≡ get_or r j 0
    unfolding with_record_at
    put_other j n0 n1 n2 = get_or-set_other two (first k + 2) j (f k).length 0 n2 ∙ get_or-set_other one (first k + 1) j
        (place_number (f k).place) 0 n1 ∙ get_or-set_other r (first k) j (record_code (f k)) 0 n0

    module _ (few : k < record_count) (long : length r ≡ journal_length) where
      long-one : length one ≡ journal_length
      long-one = length-set r (first k) (record_code (f k)) ∙ long

      long-two : length two ≡ journal_length
      long-two = length-set one (first k + 1) (place_number (f k).place) ∙ long-one

      put-code : get_or (put_record k r) (first k) 0 ≡ record_code (f k)
      unfolding with_record_at
      put-code = get_or-set_other two (first k + 2) (first k) (f k).length 0 (λ q. omega arith)
          ∙ get_or-set_other one (first k + 1) (first k) (place_number (f k).place) 0 (λ q. omega arith)
          ∙ get_or-set_same r (first k) (record_code (f k)) 0 (omega arith)

      put-place : get_or (put_record k r) (first k + 1) 0 ≡ place_number (f k).place
      put-place = unfold with_record_at in let l = long-one in
          get_or-set_other two (first k + 2) (first k + 1) (f k).length 0 (λ q. omega arith)
          ∙ get_or-set_same one (first k + 1) (place_number (f k).place) 0 (omega arith)

      put-length : get_or (put_record k r) (first k + 2) 0 ≡ (f k).length
      put-length = unfold with_record_at in let l = long-two in get_or-set_same two (first k + 2) (f k).length 0 (omega arith)

  module _ (journal : List ℕ) (long : length journal ≡ journal_length) where
    -- One of the three numbers, c, of record k.
    own-number : (n k c v : ℕ) → n ≤ record_count → k < n → c < 3 → ((r : List ℕ) → length r ≡ journal_length
        → get_or (put_record k r) (first k + c) 0 ≡ v) → get_or (with_each put_record n journal) (first k + c) 0 ≡ v
    own-number n k c v few h l own = each-own put_record length-put (first k + c) n k v journal_length h own (λ i r a b.
        put_other i r (first k + c) (λ q. b (omega arith)) (λ q. b (omega arith)) (λ q. b (omega arith))) journal long

    records-read : (n k : ℕ) → n ≤ record_count → k < n → write_record_at (with_records journal last_grant f n) last_grant k ≡ decoded
        (record_code (f k)) (place_number (f k).place) (f k).length
    unfolding write_record_at
    records-read n k few h = let e = as-each journal n in let zero_more : first k + 0 ≡ first k = omega arith in
        let a : get_or (with_each put_record n journal) (first k) 0 ≡ record_code (f k) = rw zero_more at
        (own-number n k 0 (record_code (f k)) few h (omega arith) (λ r l. rw zero_more (put-code k r (omega arith) l))) in
        let b = own-number n k 1 (place_number (f k).place) few h (omega arith) (λ r l. put-place k r (omega arith) l) in
        let c = own-number n k 2 (f k).length few h (omega arith) (λ r l. put-length k r (omega arith) l) in
        rw (e, a, b, c)

    pub grant-read : (n k : ℕ) → k < record_count → k < n → write_record_at (with_records journal last_grant f n) last_grant k ≡ decoded
        (record_code (f k)) (place_number (f k).place) (f k).length
    grant-read n k few h = ap (λ (l : List ℕ). write_record_at l last_grant k) (sym (records-cut f journal long n))
        ∙ records-read (min n record_count) k (omega arith) (omega arith)
