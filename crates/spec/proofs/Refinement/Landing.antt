-- Landing settings in the files buffer and in the committed offsets and lengths is landing them in the committed values.
use mathlib.Core.{Bool.{Bool, true, false, cond}, List.{List, [], ◌∷◌}, Path.{◌≡◌, refl, sym, ap, ◌∙◌, fun_ext, subst}}
use lib.{Dec.eqb, ListN.{length, get_or, set, length-set}, Seq.{ext_get_or, get_or-set_same, get_or-set_other}}
use Prim.Native.Nat.{ℕ, ◌≤◌, ◌<◌}
use native.Mathlib.Omega.{arith}
use borrow.Author.Tests.{eqb-true, eqb-false}
use Rattle.limits.specs.Limits.{file_count, file_bytes, buffer_bytes, descriptor_count}
use Rattle.buffers.{specs.Parts.tabulate, proofs.TableLaws.{length-tabulate, get_d_tabulate}}
use Rattle.state.specs.declared.{Transaction.Transaction, StoreMeaning.StoreMeaning}
use Rattle.spec.specs.{Items.{Item, byte, offset, file_length, same, Values}, Commits.{Setting, put_item, landed}}
use Rattle.spec.specs.{Machine.values, Calls.{land_byte, land_files, land_offset, land_offsets, land_length, land_lengths}}
use Rattle.spec.proofs.Refinement.{OtherCommitted.renewed, SettingsIn.{SetIn, AllIn}}

get_d_set : (l : List ℕ) (i : ℕ) (n k : ℕ) → i < length l → get_or (set l i n) k 0 ≡ cond (eqb k i) n (get_or l k 0)
get_d_set l i n k h = pick (eqb k i) refl
  where
    pick : (b : Bool) → eqb k i ≡ b → get_or (set l i n) k 0 ≡ cond b n (get_or l k 0)
    pick true e = rw (eqb-true k i e) (get_or-set_same l i n 0 h)
    pick false e = get_or-set_other l i k n 0 (eqb-false k i e)

-- ---- lengths

length-byte : (i : Item) (n : ℕ) (files : List ℕ) → length (land_byte i n files) ≡ length files
unfolding land_byte
length-byte (byte q) n files = length-set files q n
length-byte (offset d) n files = refl
length-byte (file_length f) n files = refl

length-offset : (i : Item) (n : ℕ) (offsets : List ℕ) → length (land_offset i n offsets) ≡ length offsets
unfolding land_offset
length-offset (byte q) n offsets = refl
length-offset (offset d) n offsets = length-set offsets d n
length-offset (file_length f) n offsets = refl

length-length : (i : Item) (n : ℕ) (lengths : List ℕ) → length (land_length i n lengths) ≡ length lengths
unfolding land_length
length-length (byte q) n lengths = refl
length-length (offset d) n lengths = refl
length-length (file_length f) n lengths = length-set lengths f n

pub length-files : (ss : List Setting) (files : List ℕ) → length (land_files ss files) ≡ length files
unfolding land_files
length-files [] files = refl
length-files (x ∷ ss) files = length-files ss (land_byte x.item x.to files) ∙ length-byte x.item x.to files

pub length-offsets : (ss : List Setting) (offsets : List ℕ) → length (land_offsets ss offsets) ≡ length offsets
unfolding land_offsets
length-offsets [] offsets = refl
length-offsets (x ∷ ss) offsets = length-offsets ss (land_offset x.item x.to offsets)
    ∙ length-offset x.item x.to offsets

pub length-lengths : (ss : List Setting) (lengths : List ℕ) → length (land_lengths ss lengths) ≡ length lengths
unfolding land_lengths
length-lengths [] lengths = refl
length-lengths (x ∷ ss) lengths = length-lengths ss (land_length x.item x.to lengths)
    ∙ length-length x.item x.to lengths

-- ---- ranges

limit-one : (i : Item) (n : ℕ) (offsets : List ℕ) → SetIn i n → length offsets ≡ descriptor_count
    → ((d : ℕ) → d < descriptor_count → get_or offsets d 0 ≤ file_bytes)
    → (d : ℕ) → d < descriptor_count → get_or (land_offset i n offsets) d 0 ≤ file_bytes
unfolding land_offset
limit-one (byte q) n offsets h e r d l = r d l
limit-one (file_length f) n offsets h e r d l = r d l
limit-one (offset c) n offsets h e r d l = rw (get_d_set offsets c n d (omega arith)) (pick (eqb d c))
  where
    pick : (b : Bool) → cond b n (get_or offsets d 0) ≤ file_bytes
    pick true = h.1
    pick false = r d l

pub limit-landed : (ss : List Setting) (offsets : List ℕ) → AllIn ss → length offsets ≡ descriptor_count
    → ((d : ℕ) → d < descriptor_count → get_or offsets d 0 ≤ file_bytes)
    → (d : ℕ) → d < descriptor_count → get_or (land_offsets ss offsets) d 0 ≤ file_bytes
unfolding land_offsets
limit-landed [] offsets a e r = r
limit-landed (x ∷ ss) offsets a e r = limit-landed ss (land_offset x.item x.to offsets) a.1
    (length-offset x.item x.to offsets ∙ e) (limit-one x.item x.to offsets a.0 e r)

length-one : (i : Item) (n : ℕ) (lengths : List ℕ) → SetIn i n → length lengths ≡ file_count → ((f : ℕ) → f < file_count
    → get_or lengths f 0 ≤ file_bytes) → (f : ℕ) → f < file_count → get_or (land_length i n lengths) f 0 ≤ file_bytes
unfolding land_length
length-one (byte q) n lengths h e r f l = r f l
length-one (offset d) n lengths h e r f l = r f l
length-one (file_length g) n lengths h e r f l = rw (get_d_set lengths g n f (omega arith)) (pick (eqb f g))
  where
    pick : (b : Bool) → cond b n (get_or lengths f 0) ≤ file_bytes
    pick true = h.1
    pick false = r f l

pub limit-lengths : (ss : List Setting) (lengths : List ℕ) → AllIn ss → length lengths ≡ file_count → ((f : ℕ) → f
    < file_count → get_or lengths f 0 ≤ file_bytes) → (f : ℕ) → f < file_count → get_or (land_lengths ss lengths) f 0 ≤ file_bytes
unfolding land_lengths
limit-lengths [] lengths a e r = r
limit-lengths (x ∷ ss) lengths a e r = limit-lengths ss (land_length x.item x.to lengths) a.1
    (length-length x.item x.to lengths ∙ e) (length-one x.item x.to lengths a.0 e r)

-- ---- values

module _ (ts : List Transaction) (s : StoreMeaning) where
  one-landed : (offsets lengths files : List ℕ) → length offsets ≡ descriptor_count → length lengths ≡ file_count
      → length files ≡ buffer_bytes → (n : ℕ) (i : Item) → SetIn i n → (j : Item) → values (renewed (land_offset i n offsets)
      (land_length i n lengths) ts s) (land_byte i n files) j ≡ put_item i n (values (renewed offsets lengths ts s) files) j
  unfolding values put_item land_byte same land_offset land_length
  one-landed offsets lengths files e g f n (byte q) h (byte p) = get_d_set files q n p (omega arith)
  one-landed offsets lengths files e g f n (byte q) h (offset d) = refl
  one-landed offsets lengths files e g f n (byte q) h (file_length k) = refl
  one-landed offsets lengths files e g f n (offset c) h (byte p) = refl
  one-landed offsets lengths files e g f n (offset c) h (offset d) = get_d_set offsets c n d (omega arith)
  one-landed offsets lengths files e g f n (offset c) h (file_length k) = refl
  one-landed offsets lengths files e g f n (file_length j) h (byte p) = refl
  one-landed offsets lengths files e g f n (file_length j) h (offset d) = refl
  one-landed offsets lengths files e g f n (file_length j) h (file_length k) = get_d_set lengths j n k (omega arith)

  pub all-landed : (ss : List Setting) (offsets lengths files : List ℕ) → AllIn ss → length offsets ≡ descriptor_count
      → length lengths ≡ file_count → length files ≡ buffer_bytes → values (renewed (land_offsets ss offsets)
      (land_lengths ss lengths) ts s) (land_files ss files) ≡ landed ss (values (renewed offsets lengths ts s) files)
  unfolding land_offsets land_lengths land_files landed
  all-landed [] offsets lengths files a e g f = refl
  all-landed (x ∷ ss) offsets lengths files a e g f = all-landed ss (land_offset x.item x.to offsets)
      (land_length x.item x.to lengths) (land_byte x.item x.to files) a.1 (length-offset x.item x.to
      offsets ∙ e) (length-length x.item x.to lengths ∙ g) (length-byte x.item x.to files ∙ f)
      ∙ ap (landed ss) (fun_ext (one-landed offsets lengths files e g f x.to x.item a.0))

-- ---- place for place

-- The elements of a list are the values of items.
abbrev Agree : (ℕ → Item) → List ℕ → Values → Type 0
Agree item xs v = (k : ℕ) → k < length xs → get_or xs k 0 ≡ v (item k)

agree-set : (item : ℕ → Item) (xs : List ℕ) (v : Values) (i n : ℕ) → Agree item xs v
    → (k : ℕ) → k < length (set xs i n) → get_or (set xs i n) k 0 ≡ cond (eqb k i) n (v (item k))
agree-set item xs v i n h k l = pick (eqb k i) refl
  where
    inside : k < length xs
    inside = subst (λ (c : ℕ). k < c) (length-set xs i n) l

    pick : (b : Bool) → eqb k i ≡ b → get_or (set xs i n) k 0 ≡ cond b n (v (item k))
    pick true e = let q = eqb-true k i e in
        ap (λ (j : ℕ). get_or (set xs i n) j 0) q ∙ get_or-set_same xs i n 0 (subst (λ (j : ℕ). j < length xs) q inside)
    pick false e = get_or-set_other xs i k n 0 (eqb-false k i e) ∙ h k inside

agree-byte : (i : Item) (n : ℕ) (files : List ℕ) (v : Values) → Agree byte files v
    → Agree byte (land_byte i n files) (put_item i n v)
unfolding land_byte put_item same
agree-byte (byte q) n files v h = agree-set byte files v q n h
agree-byte (offset d) n files v h = h
agree-byte (file_length f) n files v h = h

agree-offset : (i : Item) (n : ℕ) (offsets : List ℕ) (v : Values) → Agree offset offsets v
    → Agree offset (land_offset i n offsets) (put_item i n v)
unfolding land_offset put_item same
agree-offset (byte q) n offsets v h = h
agree-offset (offset d) n offsets v h = agree-set offset offsets v d n h
agree-offset (file_length f) n offsets v h = h

agree-length : (i : Item) (n : ℕ) (lengths : List ℕ) (v : Values) → Agree file_length lengths v
    → Agree file_length (land_length i n lengths) (put_item i n v)
unfolding land_length put_item same
agree-length (byte q) n lengths v h = h
agree-length (offset d) n lengths v h = h
agree-length (file_length f) n lengths v h = agree-set file_length lengths v f n h

bytes-agree : (ss : List Setting) (files : List ℕ) (v : Values) → Agree byte files v
    → Agree byte (land_files ss files) (landed ss v)
unfolding land_files landed
bytes-agree [] files v h = h
bytes-agree (x ∷ ss) files v h =
    bytes-agree ss (land_byte x.item x.to files) (put_item x.item x.to v) (agree-byte x.item x.to files v h)

offsets-agree : (ss : List Setting) (offsets : List ℕ) (v : Values) → Agree offset offsets v
    → Agree offset (land_offsets ss offsets) (landed ss v)
unfolding land_offsets landed
offsets-agree [] offsets v h = h
offsets-agree (x ∷ ss) offsets v h = offsets-agree ss (land_offset x.item x.to offsets) (put_item x.item x.to v)
    (agree-offset x.item x.to offsets v h)

lengths-agree : (ss : List Setting) (lengths : List ℕ) (v : Values) → Agree file_length lengths v
    → Agree file_length (land_lengths ss lengths) (landed ss v)
unfolding land_lengths landed
lengths-agree [] lengths v h = h
lengths-agree (x ∷ ss) lengths v h = lengths-agree ss (land_length x.item x.to lengths) (put_item x.item x.to v)
    (agree-length x.item x.to lengths v h)

tabulated : (item : ℕ → Item) (xs : List ℕ) (v : Values) (n : ℕ) → length xs ≡ n → Agree item xs v
    → xs ≡ tabulate (λ k. v (item k)) n
tabulated item xs v n e h = let f : ℕ → ℕ = λ k. v (item k) in
    ext_get_or 0 xs (tabulate f n) (e ∙ sym (length-tabulate f n)) (λ k l. h k l
    ∙ sym (get_d_tabulate f n k 0 (subst (λ (c : ℕ). k < c) e l)))

-- The files, offsets and lengths that a grant leaves are the landed values, place for place.
module _ (ss : List Setting) (s : StoreMeaning) (files : List ℕ) where
  pub files-land : land_files ss files ≡ tabulate (λ q. landed ss (values s files) (byte q)) (length files)
  unfolding values
  files-land = tabulated byte (land_files ss files) (landed ss (values s files)) (length files) (length-files ss files)
      (bytes-agree ss files (values s files) (λ k l. refl))

  pub offsets-land : land_offsets ss s.offsets
      ≡ tabulate (λ d. landed ss (values s files) (offset d)) (length s.offsets)
  unfolding values
  offsets-land = tabulated offset (land_offsets ss s.offsets) (landed ss (values s files)) (length s.offsets)
      (length-offsets ss s.offsets) (offsets-agree ss s.offsets (values s files) (λ k l. refl))

  pub lengths-land : land_lengths ss s.lengths
      ≡ tabulate (λ f. landed ss (values s files) (file_length f)) (length s.lengths)
  unfolding values
  lengths-land = tabulated file_length (land_lengths ss s.lengths) (landed ss (values s files)) (length s.lengths)
      (length-lengths ss s.lengths) (lengths-agree ss s.lengths (values s files) (λ k l. refl))
