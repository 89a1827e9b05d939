-- Settings put into the files, the offsets and the lengths: one list after another, and which of them land where.
use mathlib.Core.{Bool.{Bool, true, false, cond}, List.{List, [], ◌∷◌, ◌++◌}, Path.{◌≡◌, refl, ap, ◌∙◌}}
use lib.Dec.{ltb}
use Prim.Native.Nat.{ℕ, zero, suc, ◌+◌, ◌*◌}
use Rattle.limits.specs.Limits.{file_bytes}
use Rattle.standings.specs.Table.{final_offset}
use Rattle.spec.specs.{Items.{offset, file_length, Values}, Transactions.{Txn, Write}}
use Rattle.spec.specs.Commits.{Setting, lands_at, bytes_from, byte_settings, sets_offset, offset_settings, landed_end, length_settings}
use Rattle.spec.specs.Calls.{land_byte, land_files, land_offset, land_offsets, land_length, land_lengths}

-- ---- in order

pub settings-landed-append : (xs ys : List Setting) (files : List ℕ)
    → land_files (xs ++ ys) files ≡ land_files ys (land_files xs files)
unfolding land_files
settings-landed-append [] ys files = refl
settings-landed-append (x ∷ xs) ys files = settings-landed-append xs ys (land_byte x.item x.to files)

pub offsets-append : (xs ys : List Setting) (offsets : List ℕ) → land_offsets (xs ++ ys) offsets
    ≡ land_offsets ys (land_offsets xs offsets)
unfolding land_offsets
offsets-append [] ys offsets = refl
offsets-append (x ∷ xs) ys offsets = offsets-append xs ys (land_offset x.item x.to offsets)

pub lengths-append : (xs ys : List Setting) (lengths : List ℕ) → land_lengths (xs ++ ys) lengths
    ≡ land_lengths ys (land_lengths xs lengths)
unfolding land_lengths
lengths-append [] ys lengths = refl
lengths-append (x ∷ xs) ys lengths = lengths-append xs ys (land_length x.item x.to lengths)

-- ---- bytes land in the files alone

interval-sets-none : (q : ℕ) (bs offsets : List ℕ) → land_offsets (bytes_from q bs) offsets ≡ offsets
unfolding land_offsets bytes_from land_offset
interval-sets-none q [] offsets = refl
interval-sets-none q (b ∷ bs) offsets = interval-sets-none (suc q) bs offsets

interval-raises-none : (q : ℕ) (bs lengths : List ℕ) → land_lengths (bytes_from q bs) lengths ≡ lengths
unfolding land_lengths bytes_from land_length
interval-raises-none q [] lengths = refl
interval-raises-none q (b ∷ bs) lengths = interval-raises-none (suc q) bs lengths

module _ (F : ℕ → ℕ) (v : Values) where
  -- Where a write lands in the files buffer.
  abbrev from : Write → ℕ
  from w = file_bytes * F w.descriptor + lands_at (v (offset w.descriptor)) w.place

  pub bytes-set-none : (ws : List Write) (offsets : List ℕ) → land_offsets (byte_settings F v ws) offsets ≡ offsets
  unfolding byte_settings land_offsets
  bytes-set-none [] offsets = refl
  bytes-set-none (w ∷ ws) offsets = offsets-append (bytes_from (from w) w.bytes) (byte_settings F v ws) offsets
      ∙ ap (land_offsets (byte_settings F v ws)) (interval-sets-none (from w) w.bytes offsets) ∙ bytes-set-none ws offsets

  pub bytes-raise-none : (ws : List Write) (lengths : List ℕ) → land_lengths (byte_settings F v ws) lengths ≡ lengths
  unfolding byte_settings land_lengths
  bytes-raise-none [] lengths = refl
  bytes-raise-none (w ∷ ws) lengths = lengths-append (bytes_from (from w) w.bytes) (byte_settings F v ws) lengths ∙ ap
      (land_lengths (byte_settings F v ws)) (interval-raises-none (from w) w.bytes lengths) ∙ bytes-raise-none ws lengths

-- ---- offsets in the offsets alone

module _ (v : Values) (x : Txn) where
  -- The offset of descriptor d, if it is set.
  abbrev setting : Bool → ℕ → List Setting
  setting b d = cond b (record { item = offset d; to = final_offset (v (offset d)) (x.standing d) } ∷ []) []

  pub offsets-land-none : (files : List ℕ) (n : ℕ) → land_files (offset_settings v x n) files ≡ files
  unfolding offset_settings land_files land_byte
  offsets-land-none files zero = refl
  offsets-land-none files (suc n) = settings-landed-append (offset_settings v x n) (setting (sets_offset x n) n) files
      ∙ one (sets_offset x n) (land_files (offset_settings v x n) files) ∙ offsets-land-none files n
    where
      one : (b : Bool) (l : List ℕ) → land_files (setting b n) l ≡ l
      one true l = refl
      one false l = refl

  pub offsets-raise-none : (lengths : List ℕ) (n : ℕ) → land_lengths (offset_settings v x n) lengths ≡ lengths
  unfolding offset_settings land_lengths land_length
  offsets-raise-none lengths zero = refl
  offsets-raise-none lengths (suc n) = lengths-append (offset_settings v x n) (setting (sets_offset x n) n) lengths
      ∙ one (sets_offset x n) (land_lengths (offset_settings v x n) lengths) ∙ offsets-raise-none lengths n
    where
      one : (b : Bool) (l : List ℕ) → land_lengths (setting b n) l ≡ l
      one true l = refl
      one false l = refl

-- ---- lengths in the lengths alone

module _ (F : ℕ → ℕ) (v : Values) (ws : List Write) where
  -- The length of file f, if it is raised.
  abbrev pub raising : Bool → ℕ → List Setting
  raising b f = cond b (record { item = file_length f; to = landed_end F v f ws } ∷ []) []

  abbrev pub raises : ℕ → Bool
  raises f = ltb (v (file_length f)) (landed_end F v f ws)

  pub lengths-land-none : (files : List ℕ) (n : ℕ) → land_files (length_settings F v ws n) files ≡ files
  unfolding length_settings land_files land_byte
  lengths-land-none files zero = refl
  lengths-land-none files (suc n) = settings-landed-append (length_settings F v ws n) (raising (raises n) n) files
      ∙ one (raises n) (land_files (length_settings F v ws n) files) ∙ lengths-land-none files n
    where
      one : (b : Bool) (l : List ℕ) → land_files (raising b n) l ≡ l
      one true l = refl
      one false l = refl

  pub lengths-set-none : (offsets : List ℕ) (n : ℕ) → land_offsets (length_settings F v ws n) offsets ≡ offsets
  unfolding length_settings land_offsets land_offset
  lengths-set-none offsets zero = refl
  lengths-set-none offsets (suc n) = offsets-append (length_settings F v ws n) (raising (raises n) n) offsets
      ∙ one (raises n) (land_offsets (length_settings F v ws n) offsets) ∙ lengths-set-none offsets n
    where
      one : (b : Bool) (l : List ℕ) → land_offsets (raising b n) l ≡ l
      one true l = refl
      one false l = refl
