-- Check 2 on forged records, and the order of the tests, are computed.
use mathlib.Core.Path.{refl}
use Rattle.windows.specs.Windows.{minute_in}
use Rattle.state.specs.{StoreMeaning.{ended, begun}, Journal.{decoded_as, decoded, write_record_at, with_record_at, with_records}}
use Rattle.admission.specs.FirstRefusal.{below, sum, unless}
use Rattle.admission.specs.Admission.{window_in, standing_in, ends_within, place_in, record_in, lengths_before, journal_in}
use Rattle.admission.specs.Admission.{transaction_in, tables_in, landed_in, grant_passes, undo_in, store_in, sizes_in, first_tests}
use Rattle.admission.specs.Admission.{shared, admission, admission_of_begin, admission_of_fresh, window_refusal}
use Rattle.admission.specs.Admission.{admission_of_window, none_begun, admission_of_undo, admission_of_dispatch}
use Rattle.admission.specs.ForgedStates.{forged, lengthened, with_forged_window, with_opened, journal, granted, grant_journal}
use Rattle.admission.specs.ForgedStates.{placed, first_forged, deferred, Forged, behind, ahead, in_front, stands_first}
use Rattle.admission.specs.ForgedStates.{found_in_front}

pub forged-records : Forged
unfolding ended begun decoded_as decoded write_record_at with_record_at with_records below sum minute_in window_in standing_in
    ends_within place_in record_in lengths_before journal_in transaction_in tables_in landed_in grant_passes undo_in store_in unless
    sizes_in first_tests shared admission admission_of_begin admission_of_fresh window_refusal admission_of_window none_begun
    admission_of_undo admission_of_dispatch forged lengthened with_forged_window with_opened journal granted grant_journal placed
    first_forged deferred behind ahead in_front stands_first found_in_front
forged-records = record {
  file = (refl, refl);
  offset = (refl, refl);
  file_length = (refl, refl);
  windows = (refl, refl, refl);
  standings = (refl, refl, refl, refl, refl, refl);
  records = (refl, refl);
  bytes = (refl, refl, refl);
  descriptor = (refl, refl);
  place = (refl, refl);
  unplaced = (refl, refl, refl, refl, refl, refl);
  one_record = (refl, refl, refl, refl, refl, refl);
  in_first = (refl, refl, refl, refl, refl, refl);
  found_in_first = (refl, refl, refl);
  in_each = (refl, refl, refl);
  grant_in_each = (refl, refl, refl);
  closed = refl;
  grant_records = (refl, refl);
  grant_bytes = (refl, refl, refl);
  grant_place = (refl, refl);
  grant_unplaced = (refl, refl);
  found = (refl, refl, refl);
  nothing_to_undo = refl;
  sizes = (refl, refl, refl, refl, refl, refl, refl, refl, refl);
  order = (refl, refl, refl, refl);
  open_order = (refl, refl, refl, refl, refl, refl);
  fresh_order = (refl, refl, refl, refl, refl, refl, refl, refl);
  window_order = (refl, refl, refl, refl, refl);
  back_order = (refl, refl, refl, refl, refl, refl);
  dispatch_order = (refl, refl, refl, refl, refl, refl);
}
