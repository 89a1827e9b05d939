-- Check 2 on forged states: each breaks one range, beside a state that stands just within it; and the order
-- of the tests that calls share, each on what fails that test and all later ones.
use Rattle.std.specs.Prelude.{Bool, true, false, List, [], ◌≡◌, set, replicate, ℕ, zero, suc}
use Rattle.windows.specs.declared.Window.{Window}
use Rattle.windows.specs.Windows.{window, fresh_window}
use Rattle.standings.specs.declared.Standing.{Standing}
use Rattle.standings.specs.declared.Standing.TheVariants.{Untouched, Placed, Deferred, Moved, Known}
use Rattle.standings.specs.declared.Place.TheVariants.{At, After}
use Rattle.state.specs.declared.Transaction.{Transaction}
use Rattle.state.specs.declared.StoreMeaning.{StoreMeaning}
use Rattle.state.specs.declared.journal.WriteRecord.{WriteRecord}
use Rattle.state.specs.StoreMeaning.{no_descriptor, ended, begun, with_used, with_descriptors, with_begun}
use Rattle.state.specs.StoreMeaning.{with_lengths, with_windows, with_undo, no_undo}
use Rattle.state.specs.Journal.{last_grant, with_records}
use Rattle.admission.specs.Admission.{record_in, landed_in, store_in, sized, sizes_in, shared}
use Rattle.admission.specs.declared.Sizes.{Sizes}
use Rattle.admission.specs.Admission.{admission, admission_of_begin, admission_of_fresh}
use Rattle.admission.specs.Admission.{admission_of_window, admission_of_undo, admission_of_dispatch}

-- A store whose transaction 7 is x, with the file number of descriptor 15 and the offset of descriptor 15.
unfoldable pub forged : ℕ → ℕ → Transaction → StoreMeaning
forged file offset x =
    record {
      filenumbers = set (replicate 16 0) 15 file;
      offsets = set (replicate 16 0) 15 offset;
      lengths = replicate 8 0;
      windows = replicate 8 fresh_window;
      undo = no_undo;
      transactions = set (replicate 8 ended) 7 x;
    }

-- One whose file 7 has this committed length.
unfoldable pub lengthened : ℕ → StoreMeaning
lengthened n = with_lengths (set (replicate 8 0) 7 n) (forged 0 0 ended)

-- One whose file 7 has this window.
unfoldable pub with_forged_window : ℕ → ℕ → StoreMeaning
with_forged_window start end = with_windows (set (replicate 8 fresh_window) 7 (window start end))
    (forged 0 0 ended)

-- An open transaction whose descriptor 15 stands so, with n records and their bytes.
unfoldable pub with_opened : Standing → ℕ → ℕ → Transaction
with_opened z n bytes =
    with_used (record { records = n; bytes = bytes })
    (with_descriptors (set (replicate 16 no_descriptor) 15 (record { standing = z; dirty = false })) begun)

-- A journal whose first n records of transaction 7 are those.
unfoldable pub journal : (ℕ → WriteRecord) → ℕ → List ℕ
journal f n = with_records (replicate 1728 0) 7 f n

-- A store that holds a grant or not, with that many records and bytes; the offset that it found of descriptor
-- 15, the length of file 7.
unfoldable pub granted : Bool → ℕ → ℕ → ℕ → ℕ → StoreMeaning
granted held records bytes offset n =
    with_undo
    (record {
      valid = held;
      used = record { records = records; bytes = bytes };
      offsets = set (replicate 16 0) 15 offset;
      lengths = set (replicate 8 0) 7 n;
    })
    (forged 0 0 ended)

-- A journal whose first n records of the last grant are those.
unfoldable pub grant_journal : (ℕ → WriteRecord) → ℕ → List ℕ
grant_journal f n = with_records (replicate 1728 0) last_grant f n

-- Records of n bytes at place p of descriptor 15's file; one of n bytes before others of 1; records without a
-- place.
unfoldable pub placed : ℕ → ℕ → ℕ → WriteRecord
placed p n k = record { descriptor = 15; place = At p; length = n }

unfoldable pub first_forged : ℕ → ℕ → WriteRecord
first_forged n zero = record { descriptor = 15; place = At 0; length = n }
first_forged n (suc k) = record { descriptor = 15; place = At 0; length = 1 }

unfoldable pub deferred : ℕ → ℕ → ℕ → WriteRecord
deferred d n k = record { descriptor = d; place = After 0; length = n }

-- A record of n bytes at place p behind one of 0 bytes, and in front of one.
unfoldable pub behind : ℕ → ℕ → ℕ → WriteRecord
behind p n zero = placed 0 0 0
behind p n (suc k) = placed p n k

unfoldable pub ahead : ℕ → ℕ → ℕ → WriteRecord
ahead p n zero = placed p n 0
ahead p n (suc k) = placed 0 0 k

-- A store with the file number and the offset of descriptor 0, the length and the window of file 0, and
-- transaction 0.
unfoldable pub in_front : ℕ → ℕ → ℕ → Window → Transaction → StoreMeaning
in_front file offset n w x =
    record {
      filenumbers = set (replicate 16 0) 0 file;
      offsets = set (replicate 16 0) 0 offset;
      lengths = set (replicate 8 0) 0 n;
      windows = set (replicate 8 fresh_window) 0 w;
      undo = no_undo;
      transactions = set (replicate 8 ended) 0 x;
    }

-- An open transaction whose descriptor 0 stands so.
unfoldable pub stands_first : Standing → Transaction
stands_first z = with_descriptors (set (replicate 16 no_descriptor) 0 (record { standing = z; dirty = false }))
    begun

-- One with the offset that a grant found of descriptor 0, and the length that it found of file 0.
unfoldable pub found_in_front : ℕ → ℕ → StoreMeaning
found_in_front offset n =
    with_undo
    (record {
      valid = true;
      used = record { records = 0; bytes = 0 };
      offsets = set (replicate 16 0) 0 offset;
      lengths = set (replicate 8 0) 0 n;
    })
    (forged 0 0 ended)

-- Store buffers of the right lengths; a store within the ranges, in which 7 is open and nothing is held of a
-- grant, and one that holds one.
abbrev pub whole : Sizes
whole = sized 32768 32768 32768 4096

abbrev pub seven_open : StoreMeaning
seven_open = forged 7 0 begun

abbrev pub nothing_open : Bool → StoreMeaning
nothing_open held = granted held 0 0 0 0

pub record Forged : Type 0 where
  -- "files at most 7" [R-16.4]
  pub file : (store_in (forged 7 0 ended) [] ≡ true) × (store_in (forged 8 0 ended) [] ≡ false)
  -- "committed offsets at most 4,096" [R-16.4]
  pub offset : (store_in (forged 0 4096 ended) [] ≡ true) × (store_in (forged 0 4097 ended) [] ≡ false)
  -- 02, F-8: "Check 2 covers lengths, at most 4,096." [R-16.4]
  pub file_length : (store_in (lengthened 4096) [] ≡ true) × (store_in (lengthened 4097) [] ≡ false)
  -- 02, F-11: "start and end minute, 0 to 1,439" [R-11.1]; "Check 2 covers the windows." [R-16.4]
  pub windows :
      (store_in (with_forged_window 1439 1439) [] ≡ true) × (store_in (with_forged_window 1440 0) [] ≡ false)
      × (store_in (with_forged_window 0 1440) [] ≡ false)
  -- "offsets and advances of standings at most 4,096" [R-16.4]
  pub standings :
      (store_in (forged 0 0 (with_opened (Moved 4096 4096) 0 0)) [] ≡ true)
      × (store_in (forged 0 0 (with_opened (Moved 0 4097) 0 0)) [] ≡ false)
      × (store_in (forged 0 0 (with_opened (Moved 4097 0) 0 0)) [] ≡ false)
      × (store_in (forged 0 0 (with_opened (Placed 4097) 0 0)) [] ≡ false)
      × (store_in (forged 0 0 (with_opened (Deferred 4097) 0 0)) [] ≡ false)
      × (store_in (forged 0 0 (with_opened (Known 4097) 0 0)) [] ≡ false)
  -- "records at most 64" [R-16.4]
  pub records :
      (store_in (forged 0 0 (with_opened Untouched 64 0)) (journal (placed 0 0) 64) ≡ true)
      × (store_in (forged 0 0 (with_opened Untouched 65 0)) (journal (placed 0 0) 65) ≡ false)
  -- "their lengths adding to the data used, at most 4,096" [R-16.4]
  pub bytes :
      (store_in (forged 0 0 (with_opened Untouched 2 4096)) (journal (first_forged 4095) 2) ≡ true)
      × (store_in (forged 0 0 (with_opened Untouched 2 4097)) (journal (first_forged 4096) 2) ≡ false)
      × (store_in (forged 0 0 (with_opened Untouched 2 4095)) (journal (first_forged 4095) 2) ≡ false)
  -- "each record's descriptor at most 15 and its place or advance plus length at most 4,096" [R-16.4]
  pub descriptor :
      (store_in (forged 0 0 (with_opened (Deferred 3) 1 3)) (journal (deferred 15 3) 1) ≡ true)
      × (store_in (forged 0 0 (with_opened (Deferred 3) 1 3)) (journal (deferred 16 3) 1) ≡ false)
  pub place :
      (store_in (forged 0 0 (with_opened Untouched 1 4095)) (journal (placed 1 4095) 1) ≡ true)
      × (store_in (forged 0 0 (with_opened Untouched 1 4096)) (journal (placed 1 4096) 1) ≡ false)
  -- "a record without a place only under Deferred or Moved, ending at most at that advance" [R-16.4]
  pub unplaced :
      (store_in (forged 0 0 (with_opened (Moved 3 0) 1 3)) (journal (deferred 15 3) 1) ≡ true)
      × (store_in (forged 0 0 (with_opened (Deferred 2) 1 3)) (journal (deferred 15 3) 1) ≡ false)
      × (store_in (forged 0 0 (with_opened (Moved 2 9) 1 3)) (journal (deferred 15 3) 1) ≡ false)
      × (store_in (forged 0 0 (with_opened (Known 3) 1 3)) (journal (deferred 15 3) 1) ≡ false)
      × (store_in (forged 0 0 (with_opened (Placed 3) 1 3)) (journal (deferred 15 3) 1) ≡ false)
      × (store_in (forged 0 0 (with_opened Untouched 1 3)) (journal (deferred 15 3) 1) ≡ false)
  -- Of one record: its descriptor is "at most 15" [R-16.4], in a log and in what is held of a grant; its
  -- "advance plus length at most 4,096" [R-16.4], whatever the standing.
  pub one_record :
      (record_in begun (record { descriptor = 15; place = At 0; length = 0 }) ≡ true)
      × (record_in begun (record { descriptor = 16; place = At 0; length = 0 }) ≡ false)
      × (landed_in (record { descriptor = 15; place = At 0; length = 0 }) ≡ true)
      × (landed_in (record { descriptor = 16; place = At 0; length = 0 }) ≡ false)
      × (record_in (with_opened (Deferred 4097) 0 0) (deferred 15 4096 0) ≡ true)
      × (record_in (with_opened (Deferred 4097) 0 0) (deferred 15 4097 0) ≡ false)
  -- Not the last alone: descriptor 0, file 0, transaction 0.
  pub in_first :
      (store_in (in_front 7 4096 4096 (window 1439 1439) (stands_first (Moved 4096 4096))) [] ≡ true)
      × (store_in (in_front 8 0 0 fresh_window ended) [] ≡ false)
      × (store_in (in_front 0 4097 0 fresh_window ended) [] ≡ false)
      × (store_in (in_front 0 0 4097 fresh_window ended) [] ≡ false)
      × (store_in (in_front 0 0 0 (window 1440 0) ended) [] ≡ false)
      × (store_in (in_front 0 0 0 fresh_window (stands_first (Placed 4097))) [] ≡ false)
  pub found_in_first :
      (store_in (found_in_front 4096 4096) [] ≡ true) × (store_in (found_in_front 4097 0) [] ≡ false)
      × (store_in (found_in_front 0 4097) [] ≡ false)
  -- Each of the records, the second and the first of two.
  pub in_each :
      (store_in (forged 0 0 (with_opened Untouched 2 4095)) (journal (behind 1 4095) 2) ≡ true)
      × (store_in (forged 0 0 (with_opened Untouched 2 4096)) (journal (behind 1 4096) 2) ≡ false)
      × (store_in (forged 0 0 (with_opened Untouched 2 4096)) (journal (ahead 1 4096) 2) ≡ false)
  pub grant_in_each :
      (store_in (granted true 2 4095 0 0) (grant_journal (behind 1 4095) 2) ≡ true)
      × (store_in (granted true 2 4096 0 0) (grant_journal (behind 1 4096) 2) ≡ false)
      × (store_in (granted true 2 4096 0 0) (grant_journal (ahead 1 4096) 2) ≡ false)
  -- "in each open transaction" [R-16.4]: what lies about in a closed one passes.
  pub closed : store_in (forged 0 0 (with_begun false (with_opened (Known 9999) 200 9999))) [] ≡ true
  -- 02, F-13: "Check 2 covers what the record holds for this as it covers a log's placed records, offsets and
  -- lengths." [R-16.4]
  pub grant_records :
      (store_in (granted true 64 0 0 0) (grant_journal (placed 0 0) 64) ≡ true)
      × (store_in (granted true 65 0 0 0) (grant_journal (placed 0 0) 65) ≡ false)
  pub grant_bytes :
      (store_in (granted true 2 4096 0 0) (grant_journal (first_forged 4095) 2) ≡ true)
      × (store_in (granted true 2 4097 0 0) (grant_journal (first_forged 4096) 2) ≡ false)
      × (store_in (granted true 2 4095 0 0) (grant_journal (first_forged 4095) 2) ≡ false)
  pub grant_place :
      (store_in (granted true 1 4095 0 0) (grant_journal (placed 1 4095) 1) ≡ true)
      × (store_in (granted true 1 4096 0 0) (grant_journal (placed 1 4096) 1) ≡ false)
  -- A record without a place, and one that cannot have one: its descriptor is above 15.
  pub grant_unplaced :
      (store_in (granted true 1 3 0 0) (grant_journal (deferred 15 3) 1) ≡ false)
      × (store_in (granted true 1 3 0 0) (grant_journal (deferred 16 3) 1) ≡ false)
  pub found :
      (store_in (granted true 0 0 4096 4096) [] ≡ true) × (store_in (granted true 0 0 4097 0) [] ≡ false)
      × (store_in (granted true 0 0 0 4097) [] ≡ false)
  -- What lies about while nothing is held passes.
  pub nothing_to_undo : store_in (granted false 200 9999 9999 9999) (grant_journal (deferred 16 9999) 1) ≡ true
  -- 1: "a store buffer .. has another length" [R-16.1], each of the four one byte too short and one too long.
  pub sizes :
      (sizes_in whole ≡ true)
      × (sizes_in (sized 32767 32768 32768 4096) ≡ false) × (sizes_in (sized 32769 32768 32768 4096) ≡ false)
      × (sizes_in (sized 32768 32767 32768 4096) ≡ false) × (sizes_in (sized 32768 32769 32768 4096) ≡ false)
      × (sizes_in (sized 32768 32768 32767 4096) ≡ false) × (sizes_in (sized 32768 32768 32769 4096) ≡ false)
      × (sizes_in (sized 32768 32768 32768 4095) ≡ false) × (sizes_in (sized 32768 32768 32768 4097) ≡ false)
  -- "Checked in this order" [R-16.2]: 1 before 2 before 3; then 4 where the number is not open, at Begin 5
  -- where it is.
  pub order :
      (shared (sized 0 0 0 0) (forged 8 0 ended) [] 8 9 ≡ 1) × (shared whole (forged 8 0 ended) [] 8 9 ≡ 2)
      × (shared whole (forged 7 0 ended) [] 8 9 ≡ 3) × (shared whole (forged 7 0 ended) [] 7 9 ≡ 9)
  pub open_order :
      (admission whole seven_open [] 8 ≡ 3) × (admission whole seven_open [] 6 ≡ 4)
      × (admission whole seven_open [] 7 ≡ 0)
      × (admission_of_begin whole seven_open [] 8 ≡ 3) × (admission_of_begin whole seven_open [] 7 ≡ 5)
      × (admission_of_begin whole seven_open [] 6 ≡ 0)
  -- Of Fresh 1 before 14; its list of 16 numbers one too short and one too long. It has no 2.
  pub fresh_order :
      (admission_of_fresh (sized 32768 32768 32768 4095) (replicate 16 8) ≡ 1)
      × (admission_of_fresh whole (replicate 15 8) ≡ 1)
      × (admission_of_fresh whole (replicate 17 8) ≡ 1) × (admission_of_fresh whole (replicate 15 0) ≡ 1)
      × (admission_of_fresh whole (replicate 17 0) ≡ 1)
      × (admission_of_fresh whole (set (replicate 16 7) 15 8) ≡ 14)
      × (admission_of_fresh whole (set (replicate 16 7) 0 8) ≡ 14)
      × (admission_of_fresh whole (replicate 16 7) ≡ 0)
  -- 02, F-11: 2, then 6, then 22, for the start and for the end.
  pub window_order :
      (admission_of_window whole (forged 8 0 ended) [] 8 1440 1440 ≡ 2)
      × (admission_of_window whole seven_open [] 8 1440 1440 ≡ 6)
      × (admission_of_window whole seven_open [] 7 1440 0 ≡ 22)
      × (admission_of_window whole seven_open [] 7 0 1440 ≡ 22)
      × (admission_of_window whole seven_open [] 7 1439 1439 ≡ 0)
  -- 02, F-13: "23 when any transaction is open, after 2; 24 .., after 23." [R-16.1]
  pub back_order :
      (admission_of_undo (sized 0 0 0 0) (forged 8 0 begun) [] ≡ 1)
      × (admission_of_undo whole (forged 8 0 begun) [] ≡ 2)
      × (admission_of_undo whole seven_open [] ≡ 23)
      × (admission_of_undo whole (in_front 0 0 0 fresh_window begun) [] ≡ 23)
      × (admission_of_undo whole (nothing_open false) [] ≡ 24)
      × (admission_of_undo whole (nothing_open true) [] ≡ 0)
  -- 02, F-10: "19 when a transaction is open at the start, after 2; 20 when .., after 19." [R-16.1]
  pub dispatch_order :
      (admission_of_dispatch (sized 0 0 0 0) (forged 8 0 begun) [] false ≡ 1)
      × (admission_of_dispatch whole (forged 8 0 begun) [] false ≡ 2)
      × (admission_of_dispatch whole seven_open [] false ≡ 19)
      × (admission_of_dispatch whole (in_front 0 0 0 fresh_window begun) [] false ≡ 19)
      × (admission_of_dispatch whole (nothing_open false) [] false ≡ 20)
      × (admission_of_dispatch whole (nothing_open false) [] true ≡ 0)
