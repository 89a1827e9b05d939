-- What the code lands, sets and keeps is what the rules say that a commit sets and keeps.
use mathlib.Core.{Bool.{Bool, true, cond, ◌&&◌}, List.{List, [], ◌∷◌, ◌++◌}, Path.{◌≡◌, refl, sym, ap, ap₂, ◌∙◌}}
use lib.ListN.{length, get_or}
use native.Mathlib.Omega.{arith}
use Prim.Native.Nat.{ℕ, zero, suc, ◌+◌, ◌*◌, ◌<◌, max}
use Rattle.limits.specs.Limits.{file_count, file_bytes, buffer_bytes, descriptor_count}
use Rattle.buffers.{specs.Parts.tabulate, proofs.TableLaws.{length-tabulate, get_d_tabulate}}
use Rattle.spec_undo.specs.OldBytes.{old_bytes}
use Rattle.state.specs.declared.{StoreMeaning.StoreMeaning, Transaction.Transaction}
use Rattle.state.specs.{StoreMeaning.{transaction, standing_at, dirty_at}, Journal.{last_grant, write_record_at, with_records}}
use Rattle.state.proofs.JournalLaws.{with-same}
use Rattle.admission.{specs.Admission.{lengths_before, record_in}, proofs.Laws.{sum_same, InRange, record-in}}
use Rattle.standings.specs.{declared.{Standing.Standing, Place.TheVariants.At}, Table.{is_touched, final_offset}}
use Rattle.spec.specs.{Items.{offset, Values}, Transactions.{Txn, Write}}
use Rattle.spec.specs.Commits.{Setting, lands_at, bytes_from, byte_settings, sets_offset, offset_settings, landed_end, length_settings}
use Rattle.spec.specs.{Commits.{settings, fits}, Steps.total, Machine.{file_of, values, write_at, txn_of, no_write}}
use Rattle.spec.specs.{Undo.{landing_of, landings_of, landed_record}, Calls.{land_files, land_offsets, land_lengths}}
use Rattle.spec.proofs.Refinement.{IndexedLists.tabulate-same, SettingsIn.lands-in}
use Rattle.refinement.proofs.Decoded.{Opened, total-tabulate}
use Rattle.commit_apply.specs.Apply.{offsets_only, descriptors_only, places_fit, bytes_set, landed_reach, lengths_landed}
use Rattle.commit_apply.specs.{Apply.{RecordLands, CanLand}, SaveUndo.record_landed}
use Rattle.commit_apply.proofs.Settings.{settings-landed-append, offsets-append, lengths-append, bytes-set-none}
use Rattle.commit_apply.proofs.Settings.{bytes-raise-none, offsets-land-none, offsets-raise-none, lengths-land-none}
use Rattle.commit_apply.proofs.{Settings.lengths-set-none, WriteLaws.byte-count, OffsetLaws.{fits-at, offsets_set}}
use Rattle.commit_apply.proofs.LengthLaws.{lengths-table, reach-is}

-- ---- what a commit sets goes by the committed offsets and the descriptors

bytes_same : (F : ℕ → ℕ) (v w : Values) (ws : List Write) → ((d : ℕ) → v (offset d) ≡ w (offset d))
    → byte_settings F v ws ≡ byte_settings F w ws
unfolding byte_settings
bytes_same F v w [] h = refl
bytes_same F v w (x ∷ ws) h = ap₂ (λ (c : ℕ) (ss : List Setting). bytes_from
    (file_bytes * F x.descriptor + lands_at c x.place) x.bytes ++ ss) (h x.descriptor) (bytes_same F v w ws h)

offsets-same : (v w : Values) (x : Txn) → ((d : ℕ) → v (offset d) ≡ w (offset d)) → (n : ℕ) → offset_settings v x n
    ≡ offset_settings w x n
unfolding offset_settings
offsets-same v w x h zero = refl
offsets-same v w x h (suc d) = ap₂ ◌++◌ (offsets-same v w x h d)
    (ap (λ (c : ℕ). cond (sets_offset x d) (record { item = offset d; to = final_offset c (x.standing d) } ∷ []) []) (h d))

-- ..and by no write.
offsets-only : (v : Values) (x : Txn) (y : Transaction) → ((d : ℕ) → x.standing d ≡ standing_at y d)
    → ((d : ℕ) → x.dirty d ≡ dirty_at y d) → (n : ℕ) → offset_settings v x n ≡ offset_settings v (descriptors_only y) n
unfolding offset_settings sets_offset
offsets-only v x y h g zero = refl
offsets-only v x y h g (suc d) = ap₂ ◌++◌ (offsets-only v x y h g d) (ap₂ (λ (z : Standing) (b : Bool). cond
    (b && is_touched z) (record { item = offset d; to = final_offset (v (offset d)) z } ∷ []) []) (h d) (g d))

-- ---- all that it sets: bytes, offsets, lengths

module _ (s : StoreMeaning) (journal files logs : List ℕ) (t : ℕ) where
  abbrev v : Values
  v = values s files

  abbrev x : Txn
  x = txn_of s journal logs t

  abbrev count : ℕ
  count = (transaction s t).used.records

  abbrev pub all_set : List Setting
  all_set = settings (file_of s) v x

  abbrev landed_bytes : List Setting
  landed_bytes = bytes_set s.filenumbers s.offsets journal logs t count

  abbrev set_offsets : List Setting
  set_offsets = offset_settings v (descriptors_only (transaction s t)) 16

  abbrev set_lengths : List Setting
  set_lengths = length_settings (file_of s) v x.writes 8

  pub fits-is : fits v x ≡ places_fit s (transaction s t)
  fits-is = unfold fits txn_of values offsets_only in refl

  bytes-are : byte_settings (file_of s) v x.writes ≡ landed_bytes
  unfolding bytes_set txn_of file_of values offsets_only
  bytes-are = bytes_same (file_of s) v (offsets_only s.offsets) x.writes (λ d. refl)

  pub settings-are : all_set ≡ landed_bytes ++ (set_offsets ++ set_lengths)
  unfolding settings txn_of
  settings-are = ap₂ ◌++◌ bytes-are
      (ap (λ (ss : List Setting). ss ++ set_lengths) (offsets-only v x (transaction s t) (λ d. refl) (λ d. refl) 16))

  pub files-are : land_files all_set files ≡ land_files landed_bytes files
  files-are = ap (λ (ss : List Setting). land_files ss files) settings-are ∙ settings-landed-append landed_bytes
      (set_offsets ++ set_lengths) files ∙ settings-landed-append set_offsets set_lengths (land_files landed_bytes files)
      ∙ lengths-land-none (file_of s) v x.writes (land_files set_offsets (land_files landed_bytes files)) 8
      ∙ offsets-land-none v (descriptors_only (transaction s t)) (land_files landed_bytes files) 16

  pub offsets_are : land_offsets all_set s.offsets ≡ offsets_set (transaction s t) s.offsets 16
  unfolding values offsets_only bytes_set
  offsets_are = ap (λ (ss : List Setting). land_offsets ss s.offsets) settings-are ∙ offsets-append landed_bytes
      (set_offsets ++ set_lengths) s.offsets ∙ offsets-append set_offsets set_lengths (land_offsets landed_bytes s.offsets)
      ∙ lengths-set-none (file_of s) v x.writes (land_offsets set_offsets (land_offsets landed_bytes s.offsets)) 8
      ∙ ap (land_offsets set_offsets) (bytes-set-none _ _ _ s.offsets) ∙ ap (λ (ss : List Setting). land_offsets ss
      s.offsets) (offsets-same v (offsets_only s.offsets) (descriptors_only (transaction s t)) (λ d. refl) 16)

  -- The bytes that its writes land on.
  pub old-are : old_bytes (landings_of (file_of s) v x.writes) files
      ≡ old_bytes (landings_of (file_of s) (offsets_only s.offsets) (tabulate (write_at journal logs t) count)) files
  old-are = unfold txn_of landing_of values offsets_only in refl

  -- Its writes land inside the files, from data inside its log.
  module _ (can : CanLand s.filenumbers s.offsets journal t count) (size : length logs ≡ buffer_bytes) where
    reach-same : (f : ℕ) → landed_reach s.filenumbers s.offsets journal t f count ≡ landed_end (file_of s) v f x.writes
    unfolding file_of txn_of
    reach-same f = reach-is s.filenumbers s.offsets journal t v (λ d. unfold values in refl) logs f count
        (λ k h. byte-count can h logs size)

    pub lengths-are : length s.lengths ≡ file_count
        → land_lengths all_set s.lengths ≡ lengths_landed s.filenumbers s.offsets journal t s.lengths count
    unfolding lengths_landed bytes_set
    lengths-are eight = ap (λ (ss : List Setting). land_lengths ss s.lengths) settings-are
        ∙ lengths-append landed_bytes (set_offsets ++ set_lengths) s.lengths ∙ lengths-append set_offsets set_lengths
        (land_lengths landed_bytes s.lengths) ∙ ap (land_lengths set_lengths) (offsets-raise-none v
        (descriptors_only (transaction s t)) (land_lengths landed_bytes s.lengths) 16 ∙ bytes-raise-none _ _ _ s.lengths)
        ∙ lengths-table (file_of s) v x.writes s.lengths eight (λ f. unfold values in refl)
        ∙ tabulate-same (λ f. max (get_or s.lengths f 0) (landed_end (file_of s) v f x.writes))
        (λ f. max (get_or s.lengths f 0) (landed_reach s.filenumbers s.offsets journal t f count)) 8
        (λ f l. ap (max (get_or s.lengths f 0)) (sym (reach-same f)))

    -- What is saved of them: their records, and how many records and bytes there are.
    preserved-is : (k : ℕ) → k < count → record_landed s.offsets (write_record_at journal t k)
        ≡ landed_record v (get_or x.writes k no_write)
    preserved-is k h = unfold txn_of record_landed landed_record write_at values in let w = write_record_at journal t k in
        let p = lands_at (get_or s.offsets w.descriptor 0) w.place in
        ap (λ (n : ℕ). record { descriptor = w.descriptor; place = At p; length = n }) (sym (byte-count can h logs size))
        ∙ ap (landed_record v) (sym (get_d_tabulate (write_at journal logs t) count k no_write h))

    pub records-are : with_records journal last_grant (λ k. record_landed s.offsets (write_record_at journal t k)) count
        ≡ with_records journal last_grant (λ k. landed_record v (get_or x.writes k no_write)) (length x.writes)
    unfolding txn_of
    records-are = with-same journal last_grant _ _ count preserved-is ∙ ap (with_records journal last_grant
        (λ k. landed_record v (get_or x.writes k no_write))) (sym (length-tabulate (write_at journal logs t) count))

    pub counters-are : lengths_before journal t count ≡ (transaction s t).used.bytes
        → record { records = length x.writes; bytes = total x.writes } ≡ (transaction s t).used
    unfolding txn_of lengths_before
    counters-are e = ap₂ (λ (m n : ℕ). record { records = m; bytes = n }) (length-tabulate (write_at journal logs t) count)
        (total-tabulate (write_at journal logs t) count ∙ sum_same (λ k. length (write_at journal logs t k).bytes)
        (λ k. (write_record_at journal t k).length) count (λ k h. byte-count can h logs size) ∙ e)

  -- A transaction in range whose placing fits can land.
  module _ (fit : places_fit s (transaction s t) ≡ true) where
    record-lands : (k : ℕ) → record_in (transaction s t) (write_record_at journal t k) ≡ true → RecordLands s.offsets journal t k
    record-lands k e = let w = write_record_at journal t k in let d = w.descriptor in
        let r = record-in (transaction s t) w e in let i : d < descriptor_count = omega (arith, r.descriptor) in record {
          descriptor = i;
          place = lands-in (get_or s.offsets d 0) (standing_at (transaction s t) d) w.place w.length
              (fits-at s (transaction s t) fit d i) r.place;
        }

    pub can-land : Opened s journal logs t → InRange s journal → CanLand s.filenumbers s.offsets journal t count
    can-land o r = record {
      small = o.small;
      records = o.ranges.records;
      bytes = omega (arith, o.ranges.total, o.ranges.bytes);
      numbers = r.files;
      inside = λ k h. record-lands k (o.ranges.writes k h);
    }
