-- The image of what was loaded is the image.
use mathlib.Core.{Bool.{Bool, true, false, ◌&&◌, ◌||◌}, List.{List, [], ◌∷◌, ◌++◌, append_assoc}, Logic.⊎_elim}
use mathlib.Core.Path.{◌≡◌, refl, sym, ap, ap₂, ◌∙◌}
use borrow.Author.Tests.{eqb-true, leb-true, ltb-true, ltb-false}
use lib.{Dec.{ltb, leb, eqb}, ListN.{get_or, length, take, replicate, length-replicate, length-append, get_or-append}}
use lib.Seq.{take-suc, take_all, get_or_at}
use native.Mathlib.{Nat.{eq-or-lt_of_le, le_of_suc-le-suc, not-suc-le-zero}, Omega.arith}
use Prim.Native.Nat.{ℕ, zero, suc, ◌+◌, ◌-◌, ◌*◌, ◌/◌, ◌%◌, ◌≤◌, ◌<◌}
use Rattle.limits.specs.Limits.{file_count, record_count}
use Rattle.state.specs.{Journal.{journal_length, decoded_as, decoded}, declared.journal.WriteRecord.WriteRecord, Layout.is_set}
use Rattle.state.specs.Updates.{flag_number}
use Rattle.buffers.{specs.Parts.tabulate, proofs.{BelowLaws.{and_left, and_right, below_at}, PartLaws.le-or-lt}}
use Rattle.buffers.proofs.TableLaws.{get_d_tabulate}
use Rattle.standings.specs.Table.{place_number}
use Rattle.windows.specs.{declared.Window.Window, Windows.{window, fresh_window}}
use Rattle.admission.proofs.Laws.{unless-zero}
use Rattle.images.specs.Words.{word_at, low_first}
use Rattle.images.specs.Images.{number_of, grant_record, record_code, no_record, record_from, undo_from, store_from, journal_from}
use Rattle.images.{specs.Images.{blank_record, canonical, load_refusal}, proofs.WordLaws.length-low-first}
use Rattle.c_images.proofs.WriteRecords.{again-decoded, has-record, no_record_lem, code-of-decoded, place-of-decoded}
use Rattle.c_images.proofs.WriteRecords.{length-of-decoded, grant-read}
use Rattle.c_images.proofs.Columns as at

-- ---- bytes

low-first-same : (f g : ℕ → ℕ) (n : ℕ) → ((i : ℕ) → i < n → f i ≡ g i) → low_first f n ≡ low_first g n
unfolding low_first
low-first-same f g zero h = refl
low-first-same f g (suc n) h = ap₂ (λ (l : List ℕ) (k : ℕ). l ++ (k % 256 ∷ (k / 256 ∷ [])))
    (low-first-same f g n (λ i l. h i (omega arith))) (h n (omega arith))

-- Two bytes of a number, and the number of two bytes.
joined : (n : ℕ) → n % 256 + 256 * (n / 256) ≡ n
joined n = omega arith

low_byte : (a b : ℕ) → a < 256 → (a + 256 * b) % 256 ≡ a
low_byte a b h = omega arith

high_byte : (a b : ℕ) → a < 256 → (a + 256 * b) / 256 ≡ b
high_byte a b h = omega arith

module _ (f : ℕ → ℕ) where
  low-at : (n i : ℕ) → i < n → get_or (low_first f n) (2 * i) 0 ≡ f i % 256
  unfolding low_first
  low-at zero i h = absurd (not-suc-le-zero h)
  low-at (suc n) i h = let l = length-low-first f n in
      ⊎_elim (λ e. ap (λ (k : ℕ). get_or (low_first f n ++ (f n % 256 ∷ (f n / 256 ∷ []))) (2 * k) 0) e
      ∙ get_or_at (low_first f n) (f n % 256) (f n / 256 ∷ []) 0 (2 * n) l ∙ ap (λ (k : ℕ). f k % 256) (sym e))
      (λ m. get_or-append (low_first f n) (f n % 256 ∷ (f n / 256 ∷ [])) 0 (2 * i) (omega arith) ∙ low-at n i m)
      (eq-or-lt_of_le (le_of_suc-le-suc h))

  high-at : (n i : ℕ) → i < n → get_or (low_first f n) (2 * i + 1) 0 ≡ f i / 256
  unfolding low_first
  high-at zero i h = absurd (not-suc-le-zero h)
  high-at (suc n) i h = let l = length-low-first f n in
      let m : length (low_first f n ++ (f n % 256 ∷ [])) ≡ 2 * n + 1 = simp length-append (omega arith) in
      ⊎_elim (λ e. ap (λ (k : ℕ). get_or (low_first f n ++ (f n % 256 ∷ (f n / 256 ∷ []))) (2 * k + 1) 0) e
      ∙ ap (λ (t : List ℕ). get_or t (2 * n + 1) 0) (sym (append_assoc (low_first f n) (f n % 256 ∷ []) (f n / 256 ∷ [])))
      ∙ get_or_at (low_first f n ++ (f n % 256 ∷ [])) (f n / 256) [] 0 (2 * n + 1) m ∙ ap (λ (k : ℕ). f k / 256) (sym e))
      (λ q. get_or-append (low_first f n) (f n % 256 ∷ (f n / 256 ∷ [])) 0 (2 * i + 1) (omega arith) ∙ high-at n i q)
      (eq-or-lt_of_le (le_of_suc-le-suc h))

  pub word_back : (n i : ℕ) → i < n → word_at (low_first f n) i ≡ f i
  word_back n i h = unfold word_at in ap₂ (λ (a b : ℕ). a + 256 * b) (low-at n i h) (high-at n i h) ∙ joined (f i)

module _ (bytes : List ℕ) (small : (i : ℕ) → get_or bytes i 0 < 256) where
  words_back : (n : ℕ) → 2 * n ≤ length bytes → low_first (word_at bytes) n ≡ take (2 * n) bytes
  unfolding low_first word_at
  words_back zero h = refl
  words_back (suc n) h = let a = get_or bytes (2 * n) 0 in let b = get_or bytes (2 * n + 1) 0 in
      let e : 2 * suc n ≡ suc (suc (2 * n)) = omega arith in let q : suc (2 * n) ≡ 2 * n + 1 = omega arith in
      let two : take (2 * suc n) bytes ≡ take (2 * n) bytes ++ (a ∷ (b ∷ [])) = ap (λ (k : ℕ). take k bytes) e
      ∙ take-suc bytes (suc (2 * n)) 0 (omega arith) ∙ ap₂ (λ (l : List ℕ) (k : ℕ). l ++ (get_or bytes k 0 ∷ []))
      (take-suc bytes (2 * n) 0 (omega arith)) q ∙ append_assoc (take (2 * n) bytes) (a ∷ []) (b ∷ []) in
      ap (λ (l : List ℕ). l ++ ((a + 256 * b) % 256 ∷ ((a + 256 * b) / 256 ∷ []))) (words_back n (omega arith)) ∙ ap₂
      (λ (x y : ℕ). take (2 * n) bytes ++ (x ∷ (y ∷ []))) (low_byte a b (small (2 * n))) (high_byte a b (small (2 * n)))
      ∙ sym two

-- ---- numbers

flag-set : (n : ℕ) → n ≤ 1 → flag_number (is_set n) ≡ n
flag-set zero h = refl
flag-set (suc zero) h = refl
flag-set (suc (suc n)) h = absurd (not-suc-le-zero (le_of_suc-le-suc h))

module _ (w : ℕ → ℕ) (passes : load_refusal w ≡ 0) where
  format-is : w 0 ≡ 1
  format-is = unfold load_refusal in eqb-true (w 0) 1 (unless-zero (eqb (w 0) 1) 1 _ (omega arith) passes).0

  canonical-is : canonical w ≡ true
  unfolding load_refusal
  canonical-is = (unless-zero (canonical w) 2 _ (omega arith) (unless-zero (eqb (w 0) 1) 1 _ (omega arith) passes).1).0

  flag_is : w 57 ≤ 1
  flag_is = unfold canonical in leb-true (w 57) 1 (and_left (leb (w 57) 1) _ canonical-is)

  blank : (k : ℕ) → k < record_count → w 58 ≤ k → blank_record w k ≡ true
  unfolding canonical
  blank k h l = pick (ltb k (w 58)) refl
      (below_at (λ j. ltb j (w 58) || blank_record w j) record_count k (and_right (leb (w 57) 1) _ canonical-is) h)
    where
      pick : (b : Bool) → ltb k (w 58) ≡ b → b || blank_record w k ≡ true → blank_record w k ≡ true
      pick true e q = absurd (let m = ltb-true k (w 58) e in let bad : 1 ≤ 0 = omega (arith, m, l) in not-suc-le-zero bad)
      pick false e q = q

  -- A column of n numbers from `from` on.
  column : (from n i : ℕ) → from ≤ i → i < from + n → get_or (tabulate (λ k. w (from + k)) n) (i - from) 0 ≡ w i
  column from n i l h = let e : from + (i - from) ≡ i = omega arith in
      get_d_tabulate (λ k. w (from + k)) n (i - from) 0 (omega arith) ∙ ap w e

  windows-at : (f : ℕ) → f < file_count → get_or (store_from w).windows f fresh_window ≡ window (w (41 + f)) (w (49 + f))
  windows-at f h = unfold store_from in get_d_tabulate (λ g. window (w (41 + g)) (w (49 + g))) 8 f fresh_window h

  -- Write record k: the one that is said, or none.
  module _ (k : ℕ) (few : k < record_count) where
    none_said : blank_record w k ≡ true → record_from w k ≡ no_record
    unfolding blank_record record_from decoded decoded_as
    none_said q = let rest = eqb (w (148 + k)) 0 && eqb (w (212 + k)) 0 in let r = and_right (eqb (w (84 + k)) 0) rest q in
        let a = eqb-true (w (84 + k)) 0 (and_left (eqb (w (84 + k)) 0) rest q) in
        let b = eqb-true (w (148 + k)) 0 (and_left (eqb (w (148 + k)) 0) (eqb (w (212 + k)) 0) r) in
        let c = eqb-true (w (212 + k)) 0 (and_right (eqb (w (148 + k)) 0) (eqb (w (212 + k)) 0) r) in
        λ i. decoded (a i) (b i) (c i)

    said-or-none : (b : Bool) → ltb k (w 58) ≡ b → grant_record (w 58) (journal_from w) k ≡ record_from w k
    unfolding journal_from record_from
    said-or-none true e = has-record (w 58) (journal_from w) k (ltb-true k (w 58) e) ∙ grant-read (record_from w)
        (replicate journal_length 0) (length-replicate {A = ℕ} journal_length 0) (w 58) k few (ltb-true k (w 58) e)
        ∙ again-decoded (w (84 + k)) (w (148 + k)) (w (212 + k))
    said-or-none false e = let l = ltb-false k (w 58) e in
        no_record_lem (w 58) (journal_from w) k l ∙ sym (none_said (blank k few l))

    record-back : grant_record (w 58) (journal_from w) k ≡ record_from w k
    record-back = said-or-none (ltb k (w 58)) refl

  abbrev number : ℕ → ℕ
  number = number_of (store_from w) (journal_from w)

  module _ (i : ℕ) where
    records-back : 84 ≤ i → i < 276 → number i ≡ w i
    records-back l h = unfold store_from undo_from record_from in let s = store_from w in let j = journal_from w in
        ⊎_elim (λ a. ⊎_elim (λ b. let e : 212 + (i - 212) ≡ i = omega arith in at.record-length-number s j i b h
        ∙ ap (λ (x : WriteRecord). x.length) (record-back (i - 212) (omega arith)) ∙ length-of-decoded _ _ _ ∙ ap w e)
        (λ b. let e : 148 + (i - 148) ≡ i = omega arith in at.place-number s j i a b
        ∙ ap (λ (x : WriteRecord). place_number x.place) (record-back (i - 148) (omega arith)) ∙ place-of-decoded _ _ _
        ∙ ap w e) (le-or-lt 212 i)) (λ a. let e : 84 + (i - 84) ≡ i = omega arith in at.code-number s j i l a
        ∙ ap record_code (record-back (i - 84) (omega arith)) ∙ code-of-decoded _ _ _ ∙ ap w e) (le-or-lt 148 i)

    found_back : 60 ≤ i → i < 84 → number i ≡ w i
    found_back l h = unfold store_from undo_from in let s = store_from w in let j = journal_from w in
        ⊎_elim (λ a. at.found-length-number s j i a h ∙ column 76 8 i a (omega arith))
        (λ a. at.found-offset-number s j i l a ∙ column 60 16 i l (omega arith)) (le-or-lt 76 i)

    windows-back : 41 ≤ i → i < 57 → number i ≡ w i
    windows-back l h = let s = store_from w in let j = journal_from w in
        ⊎_elim (λ a. let e : 49 + (i - 49) ≡ i = omega arith in at.end-number s j i a h ∙ ap (λ (x : Window). x.end)
        (windows-at (i - 49) (omega arith)) ∙ ap w e) (λ a. let e : 41 + (i - 41) ≡ i = omega arith in at.start-number s j i
        l a ∙ ap (λ (x : Window). x.start) (windows-at (i - 41) (omega arith)) ∙ ap w e) (le-or-lt 49 i)

    tables-back : 1 ≤ i → i < 41 → number i ≡ w i
    tables-back l h = unfold store_from in let s = store_from w in let j = journal_from w in
        ⊎_elim (λ a. at.committed-length-number s j i a h ∙ column 33 8 i a (omega arith))
        (λ b. ⊎_elim (λ a. at.offset-number s j i a b ∙ column 17 16 i a (omega arith)) (λ a. at.file-number s j i l a
        ∙ column 1 16 i l (omega arith)) (le-or-lt 17 i)) (le-or-lt 33 i)

  decoded-back : number 57 ≡ w 57
  decoded-back = unfold store_from undo_from in at.valid-number (store_from w) (journal_from w) ∙ flag-set (w 57) flag_is

  counts-back : (number 58 ≡ w 58) × (number 59 ≡ w 59)
  unfolding store_from undo_from
  counts-back = (at.records-number (store_from w) (journal_from w), at.bytes-number (store_from w) (journal_from w))

  counters-back : (i : ℕ) → 57 ≤ i → i < 60 → number i ≡ w i
  counters-back i l h = ⊎_elim (λ a. let e : i ≡ 59 = omega arith in ap number e ∙ counts-back.1 ∙ ap w (sym e))
      (λ b. ⊎_elim (λ a. let e : i ≡ 58 = omega arith in ap number e ∙ counts-back.0 ∙ ap w (sym e))
      (λ a. let e : i ≡ 57 = omega arith in ap number e ∙ decoded-back ∙ ap w (sym e)) (le-or-lt 58 i)) (le-or-lt 59 i)

  pub image-number-back : (i : ℕ) → i < 276 → number i ≡ w i
  image-number-back i h = ⊎_elim (λ a. records-back i a h) (λ b. ⊎_elim (λ a. found_back i a b)
      (λ c. ⊎_elim (λ a. counters-back i a c) (λ d. ⊎_elim (λ a. windows-back i a d) (λ f. ⊎_elim (λ a. tables-back i a f)
      (λ a. let e : i ≡ 0 = omega arith in ap number e ∙ at.format-number (store_from w) (journal_from w) ∙ sym format-is
      ∙ ap w (sym e)) (le-or-lt 1 i)) (le-or-lt 41 i)) (le-or-lt 57 i)) (le-or-lt 60 i)) (le-or-lt 84 i)

pub image-back : (numbers : List ℕ) → length numbers ≡ 552 → ((i : ℕ) → get_or numbers i 0 < 256) → load_refusal (word_at numbers) ≡ 0
    → low_first (number_of (store_from (word_at numbers)) (journal_from (word_at numbers))) 276 ≡ numbers
image-back numbers long small passes = low-first-same _ _ 276 (image-number-back (word_at numbers) passes)
    ∙ words_back numbers small 276 (omega arith) ∙ take_all 552 numbers (omega arith)
