-- What is saved of the writes that a commit lands, write record by write record: the bytes that they land on, and their records.
use mathlib.Core.{Bool.true, List.{List, [], ◌∷◌, ◌++◌, map-append}, Path.{◌≡◌, refl, sym, ap, ap₂, ◌∙◌}}
use lib.ListN.{length, get_or, length-append}
use native.Mathlib.{Numerals.add-one, Omega.arith}
use Prim.Native.Nat.{ℕ, ◌+◌, ◌*◌, ◌≤◌, ◌<◌}
use Rattle.limits.specs.Limits.{file_bytes, descriptor_count, transaction_count, record_count}
use Rattle.buffers.{specs.Parts.{pasted, cut, tabulate}, proofs.PartLaws.{length_cut, pasted-none, pasted-append}}
use Rattle.counters.specs.declared.Used.{Used}
use Rattle.standings.specs.declared.Place.TheVariants.{At}
use Rattle.state.specs.{declared.{StoreMeaning.StoreMeaning, journal.WriteRecord.WriteRecord}, StoreMeaning.{with_valid, with_undo}}
use Rattle.state.specs.{Journal.{last_grant, write_record_at, with_record_at}, Layout.{store_of, journal_of, state_length}}
use Rattle.state.specs.Updates.{with_undo_valid_at, with_undo_used_at, with_committed_found}
use Rattle.state.proofs.JournalLaws.{length-with-at, with_none, with-more, read-elsewhere}
use Rattle.state.proofs.LayoutLaws.{length-journal, journal-with-record, store-with-record}
use Rattle.state.proofs.UndoLaws.{length-with-valid, store-with-valid, journal-with-valid, length-with-undo-used}
use Rattle.state.proofs.UndoLaws.{store-with-undo-used, journal-with-undo-used, length-copied, store-with-committed-found}
use Rattle.state.proofs.UndoLaws.{journal-with-committed-found}
use Rattle.spec_undo.{specs.OldBytes.{Landing as InBuffer, landing, land_all, old_bytes}, proofs.OldBytesLaws.{land_last, old-last}}
use Rattle.spec.specs.{Commits.lands_at, Machine.{data_start, file_of, write_at}, Undo.{landing_of, landings_of}}
use Rattle.commit_apply.specs.declared.writes.LandedWrite.{LandedWrite}
use Rattle.commit_apply.specs.Apply.{offsets_only, RecordLands, CanLandIn, LandsAs}
use Rattle.commit_apply.specs.SaveUndo.{old_bytes_in, record_landed, RecordsPreserved, GrantPreserved}

-- ---- the bytes

abbrev landings_in : List ℕ → List ℕ → ℕ → ℕ → List InBuffer
landings_in state logs t n =
    let s = store_of state in landings_of (file_of s) (offsets_only s.offsets) (tabulate (write_at (journal_of state) logs t) n)

-- The files as the first k writes leave those found, and the undo buffer with the bytes that they landed on at its front.
pub record OldSoFar (state logs found files before undo : List ℕ) (t k done : ℕ) : Type 0 where
  pub landed : files ≡ land_all (landings_in state logs t k) found
  pub old : undo ≡ pasted before 0 (old_bytes_in state found logs t k)
  pub count : done ≡ length (old_bytes_in state found logs t k)

pub none_old : (state logs files undo : List ℕ) (t : ℕ) → OldSoFar state logs files files undo undo t 0 0
unfolding tabulate land_all old_bytes
none_old state logs files undo t = record { landed = refl; old = sym (pasted-none undo 0); count = refl }

module _ {state : List ℕ} {t k : ℕ} {w : LandedWrite} (lands : LandsAs state t k w)
    (logs : List ℕ) (start : ℕ) (starts : start ≡ data_start (journal_of state) t k) (in_log : start + w.length ≤ length logs)
    {found files before undo : List ℕ} {done : ℕ} (so : OldSoFar state logs found files before undo t k done)
    (in_file : file_bytes * w.file + w.place + w.length ≤ length files) (room : done + w.length ≤ length before)
  where
    abbrev at : ℕ
    at = file_bytes * w.file + w.place

    abbrev written : List ℕ
    written = cut logs start w.length

    abbrev earlier : List InBuffer
    earlier = landings_in state logs t k

    landings-more : landings_in state logs t (k + 1) ≡ earlier ++ (landing at written ∷ [])
    unfolding tabulate write_at landing_of file_of offsets_only
    landings-more = let s = store_of state in let j = journal_of state in
        rw (add-one, lands.file, lands.place, lands.length, starts) (map-append (landing_of (file_of s)
        (offsets_only s.offsets)) (tabulate (write_at j logs t) k) (write_at j logs t k ∷ []))

    old-is : (old : List ℕ) → old ≡ cut files at w.length → old_bytes_in state found logs t (k + 1) ≡ old_bytes earlier found
        ++ old
    old-is old e = ap (λ (ws : List InBuffer). old_bytes ws found) landings-more ∙ old-last earlier (landing at written)
        found ∙ ap₂ (λ (b : List ℕ) (n : ℕ). old_bytes earlier found ++ cut b at n) (sym so.landed)
        (length_cut logs start w.length in_log) ∙ ap (λ (o : List ℕ). old_bytes earlier found ++ o) (sym e)

    pub old-more : (old after bytes landed : List ℕ) → old ≡ cut files at w.length → after ≡ pasted undo done old
        → bytes ≡ written → landed ≡ pasted files at bytes
        → OldSoFar state logs found landed before after t (k + 1) (done + w.length)
    old-more old after bytes landed o a b l = let all = old_bytes earlier found in
        let size : length old ≡ w.length = ap length o ∙ length_cut files at w.length in_file in
        let both = length-append all old in let count = so.count in let first : 0 + length all ≡ done = omega arith in
        record {
          landed = l ∙ ap₂ (λ (fs bs : List ℕ). pasted fs at bs) so.landed b ∙ sym (land_last earlier
              (landing at written) found) ∙ ap (λ (ws : List InBuffer). land_all ws found) (sym landings-more);
          old = a ∙ ap₂ (λ (u : List ℕ) (n : ℕ). pasted u n old) so.old (sym first)
              ∙ sym (pasted-append before 0 all old (omega arith)) ∙ ap (pasted before 0) (sym (old-is old o));
          count = sym (ap length (old-is old o) ∙ both ∙ (omega arith));
        }

-- ---- the records

-- What the code reads of record k.
module _ {offsets journal : List ℕ} {t k d : ℕ} {w : WriteRecord} (lands : RecordLands offsets journal t k)
    (found : w ≡ write_record_at journal t k) (through : d ≡ w.descriptor)
  where
    abbrev own : WriteRecord
    own = write_record_at journal t k

    descriptor-is : d ≡ own.descriptor
    descriptor-is = through ∙ ap (λ (r : WriteRecord). r.descriptor) found

    pub saved-descriptor-in : d < descriptor_count
    saved-descriptor-in = let e = descriptor-is in omega (arith, lands.descriptor)

    module _ {c p : ℕ} (committed : c ≡ get_or offsets d 0) (place : p ≡ lands_at c w.place) where
      place_is : p ≡ lands_at (get_or offsets own.descriptor 0) own.place
      place_is = place ∙ ap₂ (λ (n : ℕ) (r : WriteRecord). lands_at n r.place) (committed
          ∙ ap (λ (e : ℕ). get_or offsets e 0) descriptor-is) found

      pub place_in : p ≤ file_bytes
      place_in = let e = place_is in omega (arith, lands.place)

      pub landed-is : record { descriptor = w.descriptor; place = At p; length = w.length } ≡ record_landed offsets own
      unfolding record_landed
      landed-is = ap₂ (λ (r : WriteRecord) (q : ℕ). record { descriptor = r.descriptor; place = At q; length = r.length }) found
          place_is

-- Write record k as it is saved.
abbrev noted : List ℕ → ℕ → ℕ → WriteRecord
noted before t k = record_landed (store_of before).offsets (write_record_at (journal_of before) t k)

module _ {before : List ℕ} {t n : ℕ} (can : CanLandIn before t n) where
  pub none-preserved : length before ≡ state_length → RecordsPreserved before before t 0
  none-preserved long =
      record { journal = sym (with_none (journal_of before) last_grant (noted before t)); store = refl; long = long }

  module _ {state : List ℕ} {k : ℕ} (so : RecordsPreserved before state t k) (next : k < n) where
    few : k < record_count
    few = omega (arith, can.records)

    same-record : write_record_at (journal_of state) t k ≡ write_record_at (journal_of before) t k
    same-record = ap (λ (j : List ℕ). write_record_at j t k) so.journal
        ∙ read-elsewhere (journal_of before) last_grant (noted before t) (length-journal before) (omega arith) k t k
        (omega (arith, few)) (omega (arith, can.small)) few (λ q. omega (arith, can.small))

    pub next-lands : (t < transaction_count) × (k < record_count) × RecordLands (store_of state).offsets (journal_of state) t k
    next-lands = let here = can.inside k next in (
      can.small,
      few,
      record { descriptor = rw same-record here.descriptor; place = rw (same-record, so.store) here.place },
    )

    module _ (w : WriteRecord) (e : w ≡ record_landed (store_of state).offsets (write_record_at (journal_of state) t k)) where
      is-noted : w ≡ noted before t k
      is-noted = e ∙ ap₂ (λ (s : StoreMeaning) (r : WriteRecord). record_landed s.offsets r) so.store same-record

      pub next-descriptor : w.descriptor < 65520
      unfolding record_landed
      next-descriptor = let d = ap (λ (r : WriteRecord). r.descriptor) is-noted in omega (arith, (can.inside k next).descriptor)

      pub more-preserved : (after : List ℕ) → after ≡ with_record_at state last_grant k w → RecordsPreserved before after t (k + 1)
      more-preserved after a = record {
        journal = ap journal_of a ∙ journal-with-record state so.long last_grant k w (omega arith) few
            ∙ ap₂ (λ (j : List ℕ) (r : WriteRecord). with_record_at j last_grant k r) so.journal is-noted
            ∙ sym (with-more (journal_of before) last_grant (noted before t) k);
        store = ap store_of a ∙ store-with-record state so.long last_grant k w (omega arith) few ∙ so.store;
        long = ap length a ∙ length-with-at state last_grant k w ∙ so.long;
      }

-- ---- the records, and the offsets and lengths found

pub grant-preserved : (before one two three four : List ℕ) (t : ℕ) (used : Used) → RecordsPreserved before one t used.records
    → two ≡ with_committed_found one → three ≡ with_undo_used_at two used → four ≡ with_undo_valid_at three true
    → GrantPreserved before four t used
grant-preserved before one two three four t used so a b c = let l2 : length two ≡ state_length = ap length a ∙ length-copied
    one _ _ _ ∙ so.long in let l3 : length three ≡ state_length = ap length b ∙ length-with-undo-used two l2 used ∙ l2 in
    let s2 = ap store_of a ∙ store-with-committed-found one so.long ∙ ap found so.store in
    let s3 = ap store_of b ∙ store-with-undo-used two l2 used ∙ ap counted s2 in record {
      journal = ap journal_of c ∙ journal-with-valid three l3 true ∙ ap journal_of b ∙ journal-with-undo-used two l2 used
          ∙ ap journal_of a ∙ journal-with-committed-found one so.long ∙ so.journal;
      store = ap store_of c ∙ store-with-valid three l3 true
          ∙ ap (λ (s : StoreMeaning). with_undo (with_valid true s.undo) s) s3;
      long = ap length c ∙ length-with-valid three l3 true ∙ l3;
    }
  where
    found : StoreMeaning → StoreMeaning
    found s = with_undo (record { valid = s.undo.valid; used = s.undo.used; offsets = s.offsets; lengths = s.lengths }) s

    counted : StoreMeaning → StoreMeaning
    counted s =
        with_undo (record { valid = s.undo.valid; used = used; offsets = s.undo.offsets; lengths = s.undo.lengths }) s
