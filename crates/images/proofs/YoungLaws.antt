-- The record of an image's numbers means what they say.
use mathlib.Core.{List.List, Logic.{◌⊎◌, inl, inr, ⊎_elim}, Path.{◌≡◌, refl, sym, ap, ◌∙◌}}
use lib.ListN.{get_or, set, length, length-set, replicate, length-replicate, get_or-replicate, get_or-eq_default}
use lib.Seq.{get_or-set_same, get_or-set_other, set_out}
use native.Mathlib.{Nat.{suc-add, eq-or-lt_of_le, le_of_suc-le-suc, not-suc-le-zero}, Omega.arith}
use Prim.Native.Nat.{ℕ, zero, suc, ◌+◌, ◌-◌, ◌*◌, ◌≤◌, ◌<◌, min}
use Rattle.limits.specs.Limits.{file_count, descriptor_count, record_count}
use Rattle.buffers.{specs.Parts.tabulate, proofs.{PartLaws.le-or-lt, TableLaws.table_same}}
use Rattle.windows.specs.Windows.{window}
use Rattle.state.specs.{declared.{StoreMeaning.StoreMeaning, journal.WriteRecord.WriteRecord}, StoreMeaning.ended}
use Rattle.state.specs.Journal.{last_grant, with_record_at, with_records, journal_length}
use Rattle.state.specs.Layout.{store_of, undo_of, window_of, transaction_of, journal_of, state_length, is_set, file_numbers_at, offsets_at}
use Rattle.state.specs.{Layout.{lengths_at, starts_at, ends_at, found_offsets_at, found_lengths_at, undo_valid_at}, Updates.flag_number}
use Rattle.state.proofs.LayoutLaws.{flag-back, store-of-zeros, transactions-same, journal-with-record, store-with-record}
use Rattle.state.proofs.JournalLaws.{length-with}
use Rattle.standings.specs.Table.{place_number}
use Rattle.spec.proofs.Refinement.IndexedLists.{tabulate-get_d}
use Rattle.images.specs.Images.{record_from, undo_from, store_from, journal_from}
use Rattle.images.specs.Young.{with_each, put_descriptor, put_file, with_last_grant, Young}

-- ---- what is put one after the other

module _ (put : ℕ → List ℕ → List ℕ) (same : (n : ℕ) (r : List ℕ) → length (put n r) ≡ length r) where
  pub length-each : (n : ℕ) (r : List ℕ) → length (with_each put n r) ≡ length r
  unfolding with_each
  length-each zero r = refl
  length-each (suc n) r = same n (with_each put n r) ∙ length-each n r

  -- A number that none of them puts, and one that the k-th alone puts.
  module _ (j : ℕ) where
    pub each-other : (n : ℕ) → ((k : ℕ) (r : List ℕ) → k < n → get_or (put k r) j 0 ≡ get_or r j 0) → (r : List ℕ)
        → get_or (with_each put n r) j 0 ≡ get_or r j 0
    unfolding with_each
    each-other zero left r = refl
    each-other (suc n) left r = left n (with_each put n r) (omega arith) ∙ each-other n (λ k s h. left k s (omega arith)) r

    pub each-own : (n k v long : ℕ) → k < n → ((r : List ℕ) → length r ≡ long → get_or (put k r) j 0 ≡ v)
        → ((i : ℕ) (r : List ℕ) → i < n → (i ≡ k → ⊥) → get_or (put i r) j 0 ≡ get_or r j 0) → (r : List ℕ) → length r ≡ long
        → get_or (with_each put n r) j 0 ≡ v
    unfolding with_each
    each-own zero k v long h own left r l = absurd (not-suc-le-zero h)
    each-own (suc n) k v long h own left r l = ⊎_elim (λ e. ap (λ (i : ℕ). get_or (put i (with_each put n r)) j 0) (sym e)
        ∙ own (with_each put n r) (length-each n r ∙ l)) (λ m. left n (with_each put n r) (omega arith) (λ q. omega arith)
        ∙ each-own n k v long m own (λ i s a b. left i s (omega arith) b) r l) (eq-or-lt_of_le (le_of_suc-le-suc h))

-- ---- the numbers of descriptors

module _ (w : ℕ → ℕ) where
  abbrev put_descriptor-0 : ℕ → List ℕ → List ℕ
  put_descriptor-0 d r = set r (file_numbers_at + d) (w (1 + d))

  abbrev put_descriptor-1 : ℕ → List ℕ → List ℕ
  put_descriptor-1 d r = set (put_descriptor-0 d r) (offsets_at + d) (w (17 + d))

  length-descriptor : (d : ℕ) (r : List ℕ) → length (put_descriptor w d r) ≡ length r
  length-descriptor d r = unfold put_descriptor in simp length-set

  descriptor-other : (d j : ℕ) (r : List ℕ) → (j ≡ file_numbers_at + d → ⊥) → (j ≡ offsets_at + d → ⊥) → (j ≡ found_offsets_at + d → ⊥)
      → get_or (put_descriptor w d r) j 0 ≡ get_or r j 0
  descriptor-other d j r n0 n1 n2 = unfold put_descriptor in
      get_or-set_other (put_descriptor-1 d r) (found_offsets_at + d) j (w (60 + d)) 0 n2 ∙ get_or-set_other (put_descriptor-0 d r)
      (offsets_at + d) j (w (17 + d)) 0 n1 ∙ get_or-set_other r (file_numbers_at + d) j (w (1 + d)) 0 n0

  own-file : (d : ℕ) → d < descriptor_count → (r : List ℕ) → length r ≡ state_length
      → get_or (put_descriptor w d r) (file_numbers_at + d) 0 ≡ w (1 + d)
  unfolding put_descriptor
  own-file d h r l = get_or-set_other (put_descriptor-1 d r) (found_offsets_at + d) (file_numbers_at + d) (w (60 + d)) 0
      (λ p. omega arith) ∙ get_or-set_other (put_descriptor-0 d r) (offsets_at + d) (file_numbers_at + d) (w (17 + d)) 0
      (λ p. omega arith) ∙ get_or-set_same r (file_numbers_at + d) (w (1 + d)) 0 (omega arith)

  own-offset : (d : ℕ) → d < descriptor_count → (r : List ℕ) → length r ≡ state_length
      → get_or (put_descriptor w d r) (offsets_at + d) 0 ≡ w (17 + d)
  unfolding put_descriptor
  own-offset d h r l = get_or-set_other (put_descriptor-1 d r) (found_offsets_at + d) (offsets_at + d) (w (60 + d)) 0
      (λ p. omega arith) ∙ get_or-set_same (put_descriptor-0 d r) (offsets_at + d) (w (17 + d)) 0
      (let e : length (put_descriptor-0 d r) ≡ length r = simp length-set in omega arith)

  own-found-offset : (d : ℕ) → d < descriptor_count → (r : List ℕ) → length r ≡ state_length
      → get_or (put_descriptor w d r) (found_offsets_at + d) 0 ≡ w (60 + d)
  unfolding put_descriptor
  own-found-offset d h r l = get_or-set_same (put_descriptor-1 d r) (found_offsets_at + d) (w (60 + d)) 0
      (let e : length (put_descriptor-1 d r) ≡ length r = simp length-set in omega arith)

-- ---- the numbers of files

module _ (w : ℕ → ℕ) where
  abbrev put_file-0 : ℕ → List ℕ → List ℕ
  put_file-0 f r = set r (lengths_at + f) (w (33 + f))

  abbrev put_file-1 : ℕ → List ℕ → List ℕ
  put_file-1 f r = set (put_file-0 f r) (starts_at + f) (w (41 + f))

  abbrev put_file-2 : ℕ → List ℕ → List ℕ
  put_file-2 f r = set (put_file-1 f r) (ends_at + f) (w (49 + f))

  length-of-file : (f : ℕ) (r : List ℕ) → length (put_file w f r) ≡ length r
  length-of-file f r = unfold put_file in simp length-set

  of-file-other : (f j : ℕ) (r : List ℕ) → (j ≡ lengths_at + f → ⊥) → (j ≡ starts_at + f → ⊥) → (j ≡ ends_at + f → ⊥)
      → (j ≡ found_lengths_at + f → ⊥) → get_or (put_file w f r) j 0 ≡ get_or r j 0
  unfolding put_file
  of-file-other f j r n0 n1 n2 n3 = get_or-set_other (put_file-2 f r) (found_lengths_at + f) j (w (76 + f)) 0 n3 ∙ get_or-set_other
      (put_file-1 f r) (ends_at + f) j (w (49 + f)) 0 n2 ∙ get_or-set_other (put_file-0 f r) (starts_at + f) j (w (41 + f)) 0 n1
      ∙ get_or-set_other r (lengths_at + f) j (w (33 + f)) 0 n0

  own-length : (f : ℕ) → f < file_count → (r : List ℕ) → length r ≡ state_length
      → get_or (put_file w f r) (lengths_at + f) 0 ≡ w (33 + f)
  unfolding put_file
  own-length f h r l = get_or-set_other (put_file-2 f r) (found_lengths_at + f) (lengths_at + f) (w (76 + f)) 0 (λ p. omega arith)
      ∙ get_or-set_other (put_file-1 f r) (ends_at + f) (lengths_at + f) (w (49 + f)) 0 (λ p. omega arith)
      ∙ get_or-set_other (put_file-0 f r) (starts_at + f) (lengths_at + f) (w (41 + f)) 0 (λ p. omega arith)
      ∙ get_or-set_same r (lengths_at + f) (w (33 + f)) 0 (omega arith)

  own-start : (f : ℕ) → f < file_count → (r : List ℕ) → length r ≡ state_length → get_or (put_file w f r) (starts_at + f) 0 ≡ w (41 + f)
  own-start f h r l = unfold put_file in
      get_or-set_other (put_file-2 f r) (found_lengths_at + f) (starts_at + f) (w (76 + f)) 0 (λ p. omega arith) ∙ get_or-set_other
      (put_file-1 f r) (ends_at + f) (starts_at + f) (w (49 + f)) 0 (λ p. omega arith) ∙ get_or-set_same (put_file-0 f r)
      (starts_at + f) (w (41 + f)) 0 (let e : length (put_file-0 f r) ≡ length r = simp length-set in omega arith)

  own-end : (f : ℕ) → f < file_count → (r : List ℕ) → length r ≡ state_length → get_or (put_file w f r) (ends_at + f) 0 ≡ w (49 + f)
  unfolding put_file
  own-end f h r l = get_or-set_other (put_file-2 f r) (found_lengths_at + f) (ends_at + f) (w (76 + f)) 0 (λ p. omega arith)
      ∙ get_or-set_same (put_file-1 f r) (ends_at + f) (w (49 + f)) 0
      (let e : length (put_file-1 f r) ≡ length r = simp length-set in omega arith)

  own-found-length : (f : ℕ) → f < file_count → (r : List ℕ) → length r ≡ state_length → get_or (put_file w f r) (found_lengths_at + f) 0
      ≡ w (76 + f)
  unfolding put_file
  own-found-length f h r l = get_or-set_same (put_file-2 f r) (found_lengths_at + f) (w (76 + f)) 0
      (let e : length (put_file-2 f r) ≡ length r = simp length-set in omega arith)

-- ---- the whole record

abbrev zeros : ℕ → List ℕ
zeros n = replicate n 0

length-zeros : (n : ℕ) → length (zeros n) ≡ n
length-zeros n = length-replicate {A = ℕ} n 0

zero-at : (n k : ℕ) → k < n → get_or (zeros n) k 0 ≡ 0
zero-at n k h = get_or-replicate {A = ℕ} n k 0 0 h

zero-anywhere : (k : ℕ) → get_or (zeros state_length) k 0 ≡ 0
zero-anywhere k = ⊎_elim (λ h. get_or-eq_default (zeros state_length) 0 {n = k} (omega (arith, length-zeros state_length)))
    (zero-at state_length k) (le-or-lt state_length k)

module _ (w : ℕ → ℕ) where
  abbrev described : List ℕ
  described = with_each (put_descriptor w) 16 (zeros state_length)

  abbrev filed : List ℕ
  filed = with_each (put_file w) 8 described

  abbrev pub granted : List ℕ
  granted = with_last_grant w filed

  long-described : length described ≡ state_length
  long-described = length-each (put_descriptor w) (length-descriptor w) 16 (zeros state_length) ∙ length-zeros state_length

  long-filed : length filed ≡ state_length
  long-filed = length-each (put_file w) (length-of-file w) 8 described ∙ long-described

  pub long-granted : length granted ≡ state_length
  long-granted = unfold with_last_grant in simp length-set long-filed

  -- A number before those of the grant.
  before-grant : (j : ℕ) → j < undo_valid_at → get_or granted j 0 ≡ get_or filed j 0
  before-grant j h = unfold with_last_grant in let a = set filed undo_valid_at (flag_number (is_set (w 57))) in
      get_or-set_other (set a (undo_valid_at + 1) (w 58)) (undo_valid_at + 2) j (w 59) 0 (λ p. omega arith)
      ∙ get_or-set_other a (undo_valid_at + 1) j (w 58) 0 (λ p. omega arith)
      ∙ get_or-set_other filed undo_valid_at j (flag_number (is_set (w 57))) 0 (λ p. omega arith)

  -- A number that is none of the files' ones.
  past-files : (j : ℕ) → (j < lengths_at) ⊎ ((found_offsets_at ≤ j) × (j < found_lengths_at)) → get_or filed j 0 ≡ get_or described j 0
  past-files j away = each-other (put_file w) (length-of-file w) j 8 (λ k r h. ⊎_elim (λ a. of-file-other w k j r
      (λ p. omega arith) (λ p. omega arith) (λ p. omega arith) (λ p. omega arith)) (λ a. let b = a.0 in let e = a.1 in
      of-file-other w k j r (λ p. omega arith) (λ p. omega arith) (λ p. omega arith) (λ p. omega arith)) away) described

  untouched : (j : ℕ) → j < file_numbers_at → get_or granted j 0 ≡ get_or (zeros state_length) j 0
  untouched j h = before-grant j (omega arith) ∙ past-files j (inl (omega arith))
      ∙ each-other (put_descriptor w) (length-descriptor w) j 16
      (λ k r l. descriptor-other w k j r (λ p. omega arith) (λ p. omega arith) (λ p. omega arith)) (zeros state_length)

  at-file : (d : ℕ) → d < descriptor_count → get_or granted (file_numbers_at + d) 0 ≡ w (1 + d)
  at-file d h = before-grant (file_numbers_at + d) (omega arith) ∙ past-files (file_numbers_at + d) (inl (omega arith))
      ∙ each-own (put_descriptor w) (length-descriptor w) (file_numbers_at + d) 16 d (w (1 + d)) state_length h (own-file w d h)
      (λ i r a b. descriptor-other w i (file_numbers_at + d) r (λ p. b (omega arith)) (λ p. omega arith) (λ p. omega arith))
      (zeros state_length) (length-zeros state_length)

  at_offset : (d : ℕ) → d < descriptor_count → get_or granted (offsets_at + d) 0 ≡ w (17 + d)
  at_offset d h = before-grant (offsets_at + d) (omega arith) ∙ past-files (offsets_at + d) (inl (omega arith))
      ∙ each-own (put_descriptor w) (length-descriptor w) (offsets_at + d) 16 d (w (17 + d)) state_length h (own-offset w d h)
      (λ i r a b. descriptor-other w i (offsets_at + d) r (λ p. omega arith) (λ p. b (omega arith)) (λ p. omega arith))
      (zeros state_length) (length-zeros state_length)

  at-found-offset : (d : ℕ) → d < descriptor_count → get_or granted (found_offsets_at + d) 0 ≡ w (60 + d)
  at-found-offset d h = before-grant (found_offsets_at + d) (omega arith) ∙ past-files (found_offsets_at + d)
      (inr (omega arith, omega arith)) ∙ each-own (put_descriptor w) (length-descriptor w) (found_offsets_at + d) 16 d
      (w (60 + d)) state_length h (own-found-offset w d h) (λ i r a b. descriptor-other w i (found_offsets_at + d) r
      (λ p. omega arith) (λ p. omega arith) (λ p. b (omega arith))) (zeros state_length) (length-zeros state_length)

  at_length : (f : ℕ) → f < file_count → get_or granted (lengths_at + f) 0 ≡ w (33 + f)
  at_length f h = before-grant (lengths_at + f) (omega arith) ∙ each-own (put_file w) (length-of-file w) (lengths_at + f) 8 f
      (w (33 + f)) state_length h (own-length w f h) (λ i r a b. of-file-other w i (lengths_at + f) r (λ p. b (omega arith))
      (λ p. omega arith) (λ p. omega arith) (λ p. omega arith)) described long-described

  at-start : (f : ℕ) → f < file_count → get_or granted (starts_at + f) 0 ≡ w (41 + f)
  at-start f h = before-grant (starts_at + f) (omega arith) ∙ each-own (put_file w) (length-of-file w) (starts_at + f) 8 f
      (w (41 + f)) state_length h (own-start w f h) (λ i r a b. of-file-other w i (starts_at + f) r (λ p. omega arith)
      (λ p. b (omega arith)) (λ p. omega arith) (λ p. omega arith)) described long-described

  at-end : (f : ℕ) → f < file_count → get_or granted (ends_at + f) 0 ≡ w (49 + f)
  at-end f h = before-grant (ends_at + f) (omega arith) ∙ each-own (put_file w) (length-of-file w) (ends_at + f) 8 f
      (w (49 + f)) state_length h (own-end w f h) (λ i r a b. of-file-other w i (ends_at + f) r (λ p. omega arith)
      (λ p. omega arith) (λ p. b (omega arith)) (λ p. omega arith)) described long-described

  at-found-length : (f : ℕ) → f < file_count → get_or granted (found_lengths_at + f) 0 ≡ w (76 + f)
  at-found-length f h = before-grant (found_lengths_at + f) (omega arith)
      ∙ each-own (put_file w) (length-of-file w) (found_lengths_at + f) 8 f (w (76 + f)) state_length h (own-found-length w f h)
      (λ i r a b. of-file-other w i (found_lengths_at + f) r (λ p. omega arith) (λ p. omega arith) (λ p. omega arith)
      (λ p. b (omega arith))) described long-described

  undo-granted : undo_of granted ≡ undo_from w
  unfolding undo_of undo_from with_last_grant
  undo-granted = let l = long-filed in let n = flag_number (is_set (w 57)) in let a = set filed undo_valid_at n in
      let b = set a (undo_valid_at + 1) (w 58) in let la : length a ≡ length filed = length-set filed undo_valid_at n in
      let lb : length b ≡ length filed = length-set a (undo_valid_at + 1) (w 58) ∙ la in
      let held : is_set (get_or (set b (undo_valid_at + 2) (w 59)) undo_valid_at 0) ≡ is_set (w 57) =
      ap is_set (get_or-set_other b (undo_valid_at + 2) undo_valid_at (w 59) 0 (λ p. omega arith)
      ∙ get_or-set_other a (undo_valid_at + 1) undo_valid_at (w 58) 0 (λ p. omega arith)
      ∙ get_or-set_same filed undo_valid_at n 0 (omega arith)) ∙ flag-back (is_set (w 57)) in
      let records : get_or (set b (undo_valid_at + 2) (w 59)) (undo_valid_at + 1) 0 ≡ w 58 =
      get_or-set_other b (undo_valid_at + 2) (undo_valid_at + 1) (w 59) 0 (λ p. omega arith)
      ∙ get_or-set_same a (undo_valid_at + 1) (w 58) 0 (omega arith) in
      let bytes : get_or (set b (undo_valid_at + 2) (w 59)) (undo_valid_at + 2) 0 ≡ w 59 =
      get_or-set_same b (undo_valid_at + 2) (w 59) 0 (omega arith) in
      let offsets : tabulate (λ d. get_or granted (found_offsets_at + d) 0) descriptor_count ≡ tabulate (λ d. w (60 + d))
      descriptor_count = table_same _ _ 16 at-found-offset in
      let lengths : tabulate (λ f. get_or granted (found_lengths_at + f) 0) file_count ≡ tabulate (λ f. w (76 + f)) file_count =
      table_same _ _ 8 at-found-length in λ i. record {
        valid = held i;
        used = record { records = records i; bytes = bytes i };
        offsets = offsets i;
        lengths = lengths i;
      }

  none-begun : tabulate (transaction_of granted) 8 ≡ replicate 8 ended
  unfolding store_of
  none-begun = transactions-same (zeros state_length) granted (λ j a b. untouched j (omega arith))
      ∙ ap (λ (s : StoreMeaning). s.transactions) (store-of-zeros (zeros state_length) zero-anywhere)

  pub store-granted : store_of granted ≡ store_from w
  unfolding store_of store_from window_of
  store-granted = let files : tabulate (λ d. get_or granted (file_numbers_at + d) 0) descriptor_count ≡ tabulate (λ d. w (1 + d))
      descriptor_count = table_same _ _ 16 at-file in
      let offsets : tabulate (λ d. get_or granted (offsets_at + d) 0) descriptor_count ≡ tabulate (λ d. w (17 + d))
      descriptor_count = table_same _ _ 16 at_offset in
      let lengths : tabulate (λ f. get_or granted (lengths_at + f) 0) file_count ≡ tabulate (λ f. w (33 + f)) file_count =
      table_same _ _ 8 at_length in
      let windows : tabulate (window_of granted) 8 ≡ tabulate (λ f. window (w (41 + f)) (w (49 + f))) file_count =
      table_same _ _ 8 (λ f h i. window (at-start f h i) (at-end f h i)) in λ i. record {
        filenumbers = files i;
        offsets = offsets i;
        lengths = lengths i;
        windows = windows i;
        undo = undo-granted i;
        transactions = none-begun i;
      }

  pub journal-granted : journal_of granted ≡ zeros journal_length
  unfolding journal_of
  journal-granted = table_same (λ k. get_or granted k 0) (λ k. get_or (zeros journal_length) k 0) journal_length
      (λ k h. untouched k (omega arith) ∙ zero-anywhere k ∙ sym (zero-at journal_length k h)) ∙ ap (λ (n : ℕ). tabulate
      (λ k. get_or (zeros journal_length) k 0) n) (sym (length-zeros journal_length)) ∙ tabulate-get_d (zeros journal_length) 0

-- ---- the write records

module _ (f : ℕ → WriteRecord) where
  -- In the record as in its journal.
  journal-records : (r : List ℕ) → length r ≡ state_length → (n : ℕ) → n ≤ record_count → (store_of (with_records r last_grant f n)
      ≡ store_of r) × (journal_of (with_records r last_grant f n) ≡ with_records (journal_of r) last_grant f n)
  unfolding with_records
  journal-records r l zero h = (refl, refl)
  journal-records r l (suc n) h = let s = with_records r last_grant f n in
      let long : length s ≡ state_length = length-with r last_grant f n ∙ l in
      let before = journal-records r l n (omega arith) in (
        store-with-record s long last_grant n (f n) (omega arith) (omega arith) ∙ before.0,
        journal-with-record s long last_grant n (f n) (omega arith) (omega arith)
            ∙ ap (λ (j : List ℕ). with_record_at j last_grant n (f n)) before.1,
      )

  module _ (journal : List ℕ) (long : length journal ≡ journal_length) where
    -- There is no record past the 64th.
    past-last : (l : List ℕ) (k : ℕ) (x : WriteRecord) → length l ≡ journal_length → record_count ≤ k
        → with_record_at l last_grant k x ≡ l
    past-last l k x e h = unfold with_record_at in let i = 3 * (record_count * last_grant + k) in
        ap (λ (t : List ℕ). set (set t (i + 1) (place_number x.place)) (i + 2) x.length) (set_out l i _ (omega arith))
        ∙ ap (λ (t : List ℕ). set t (i + 2) x.length) (set_out l (i + 1) _ (omega arith))
        ∙ set_out l (i + 2) _ (omega arith)

    all-of-them : (m : ℕ) → with_records journal last_grant f (m + record_count) ≡ with_records journal last_grant f record_count
    unfolding with_records
    all-of-them zero = refl
    all-of-them (suc m) = ap (with_records journal last_grant f) (suc-add m record_count)
        ∙ past-last (with_records journal last_grant f (m + record_count)) (m + record_count) (f (m + record_count))
        (length-with journal last_grant f (m + record_count) ∙ long) (omega arith) ∙ all-of-them m

    pub records-cut : (n : ℕ) → with_records journal last_grant f (min n record_count) ≡ with_records journal last_grant f n
    records-cut n = ⊎_elim (λ h. let e : min n record_count ≡ n = omega arith in rw e) (λ h. let e : min n
        record_count ≡ record_count = omega arith in let q : n ≡ (n - record_count) + record_count = omega arith in rw e
        (sym (all-of-them (n - record_count)) ∙ ap (with_records journal last_grant f) (sym q))) (le-or-lt n record_count)

module _ (w : ℕ → ℕ) where
  abbrev built : List ℕ
  built = with_records (granted w) last_grant (record_from w) (min (w 58) record_count)

  pub young-built : Young w built
  young-built = unfold journal_from in
      let j = journal-records (record_from w) (granted w) (long-granted w) (min (w 58) record_count) (omega arith) in record {
        long = length-with (granted w) last_grant (record_from w) (min (w 58) record_count) ∙ long-granted w;
        store = j.0 ∙ store-granted w;
        journal = j.1 ∙ ap (λ (l : List ℕ). with_records l last_grant (record_from w) (min (w 58) record_count))
            (journal-granted w) ∙ records-cut (record_from w) (zeros journal_length) (length-zeros journal_length) (w 58);
      }
