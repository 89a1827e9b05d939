-- The bytes that a commit lands, write record by write record.
use mathlib.Core.{List.{List, [], ◌∷◌, ◌++◌, append-nil, append_assoc}, Path.{◌≡◌, refl, sym, ap, ap₂, ◌∙◌}}
use lib.{ListN.{length, get_or, set}, Seq.sets}
use native.Mathlib.{Numerals.add-one, Omega.arith}
use Prim.Native.Nat.{ℕ, suc, ◌+◌, ◌*◌, ◌≤◌, ◌<◌}
use Rattle.limits.specs.Limits.{file_bytes, buffer_bytes, descriptor_count, log_bytes}
use Rattle.buffers.{specs.Parts.{pasted, cut, tabulate}, proofs.PartLaws.{pasted-sets, length_cut}}
use Rattle.state.specs.{declared.journal.WriteRecord.WriteRecord, Journal.write_record_at, Layout.{store_of, journal_of}}
use Rattle.admission.specs.{FirstRefusal.sum, Admission.lengths_before}
use Rattle.spec.specs.{Items.{offset, Values}, Transactions.Write, Commits.{Setting, lands_at, bytes_from, byte_settings}}
use Rattle.spec.{specs.{Machine.{data_start, write_at}, Calls.{land_byte, land_files}}, proofs.Refinement.IndexedLists.sum-le}
use Rattle.commit_apply.specs.declared.writes.LandedWrite.{LandedWrite}
use Rattle.commit_apply.specs.Apply.{offsets_only, bytes_set, bytes_set_in, CanLand, CanLandIn, LandsAs}
use Rattle.commit_apply.proofs.Settings.{settings-landed-append}

-- ---- the records

module _ {filenumbers offsets journal : List ℕ} {t n k : ℕ} (can : CanLand filenumbers offsets journal t n)
    (earlier : k < n) where
  -- The records up to record k.
  pub can-first : CanLand filenumbers offsets journal t (k + 1)
  can-first = unfold lengths_before in let few = can.records in record {
    small = can.small;
    records = omega arith;
    bytes = omega (arith, can.bytes, sum-le (λ j. (write_record_at journal t j).length) (k + 1) n (omega arith));
    numbers = can.numbers;
    inside = λ j h. can.inside j (omega arith);
  }

  -- Its data lie within the transaction's part of the logs.
  pub data-in : data_start journal t k + (write_record_at journal t k).length ≤ log_bytes * t + log_bytes
  unfolding data_start lengths_before sum
  data-in = omega (arith, can.bytes, sum-le (λ j. (write_record_at journal t j).length) (suc k) n earlier)

  pub byte-count : (logs : List ℕ) → length logs ≡ buffer_bytes → length (write_at journal logs t k).bytes
      ≡ (write_record_at journal t k).length
  byte-count logs e = unfold write_at in
      length_cut logs (data_start journal t k) (write_record_at journal t k).length (omega (arith, data-in, can.small))

-- What the code reads of record k.
module _ (state : List ℕ) (k : ℕ) {t d : ℕ} {w : WriteRecord} (can : CanLandIn state t (k + 1))
    (found : w ≡ write_record_at (journal_of state) t k) (through : d ≡ w.descriptor)
  where
    descriptor-is : d ≡ (write_record_at (journal_of state) t k).descriptor
    descriptor-is = through ∙ ap (λ (v : WriteRecord). v.descriptor) found

    pub descriptor-in : d < descriptor_count
    descriptor-in = let e = descriptor-is in omega (arith, (can.inside k (omega arith)).descriptor)

    pub lands_as : (r : LandedWrite) → r.file ≡ get_or (store_of state).filenumbers d 0
        → r.place ≡ lands_at (get_or (store_of state).offsets d 0) w.place → r.length ≡ w.length → LandsAs state t k r
    lands_as r f p l = let s = store_of state in
        let place = p ∙ ap₂ (λ (e : ℕ) (v : WriteRecord). lands_at (get_or s.offsets e 0) v.place) descriptor-is found in
        let size = l ∙ ap (λ (v : WriteRecord). v.length) found in record {
          file = f ∙ ap (λ (e : ℕ). get_or s.filenumbers e 0) descriptor-is;
          place = place;
          length = size;
          file_in = omega (arith, can.numbers d descriptor-in);
          inside = omega (arith, (can.inside k (omega arith)).place);
        }

-- ---- one record more

bytes-append : (F : ℕ → ℕ) (v : Values) (ws : List Write) (w : Write) → byte_settings F v (ws ++ (w ∷ [])) ≡ byte_settings F v
    ws ++ bytes_from (file_bytes * F w.descriptor + lands_at (v (offset w.descriptor)) w.place) w.bytes
unfolding byte_settings
bytes-append F v [] w = append-nil (bytes_from (file_bytes * F w.descriptor + lands_at (v (offset w.descriptor)) w.place)
    w.bytes)
bytes-append F v (x ∷ ws) w = simp (bytes-append F v ws w, append_assoc)

landed-interval : (bs : List ℕ) (q : ℕ) (files : List ℕ) → land_files (bytes_from q bs) files ≡ sets files q bs
unfolding land_files bytes_from land_byte
landed-interval [] q files = refl
landed-interval (b ∷ bs) q files = landed-interval bs (suc q) (set files q b)

module _ {state : List ℕ} {t k : ℕ} {w : LandedWrite} (lands : LandsAs state t k w) (logs : List ℕ) (start : ℕ)
    (starts : start ≡ data_start (journal_of state) t k) where
  pub set_more : bytes_set_in state logs t (k + 1)
      ≡ bytes_set_in state logs t k ++ bytes_from (file_bytes * w.file + w.place) (cut logs start w.length)
  set_more = unfold bytes_set tabulate write_at offsets_only in let s = store_of state in let j = journal_of state in
      rw (add-one, lands.file, lands.place, lands.length, starts) (bytes-append (λ d. get_or s.filenumbers d 0)
      (offsets_only s.offsets) (tabulate (write_at j logs t) k) (write_at j logs t k))

  pub start-more : start + w.length ≡ data_start (journal_of state) t (k + 1)
  start-more = unfold data_start lengths_before sum in let e = lands.length in rw add-one (omega arith)

  pub land-more : (before files after bytes : List ℕ) → files ≡ land_files (bytes_set_in state logs t k) before
      → start + w.length ≤ length logs → file_bytes * w.file + w.place + w.length ≤ length files
      → bytes ≡ cut logs start w.length → after ≡ pasted files (file_bytes * w.file + w.place) bytes
      → after ≡ land_files (bytes_set_in state logs t (k + 1)) before
  land-more before files after bytes e in_log in_file i g = let q = file_bytes * w.file + w.place in
      let bs = cut logs start w.length in
      g ∙ ap (pasted files q) i ∙ pasted-sets files q bs (rw (length_cut logs start w.length in_log) in_file)
      ∙ sym (landed-interval bs q files) ∙ ap (land_files (bytes_from q bs)) e ∙ sym (ap (λ (rs : List Setting). land_files rs
      before) set_more ∙ settings-landed-append (bytes_set_in state logs t k) (bytes_from q bs) before)

pub none-landed : (filenumbers offsets journal logs files : List ℕ) (t : ℕ) → files
    ≡ land_files (bytes_set filenumbers offsets journal logs t 0) files
none-landed filenumbers offsets journal logs files t = unfold bytes_set tabulate byte_settings land_files in refl

pub none-started : (journal : List ℕ) (t : ℕ) → log_bytes * t + 0 ≡ data_start journal t 0
none-started journal t = unfold data_start lengths_before sum in omega arith
