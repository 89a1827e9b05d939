-- The image of a store, number by number (the numbers and what they say are Loaded.antt's). Nobody has to
-- believe it: the bytes of these numbers are the only ones that are loaded as the young store with the same
-- committed values (`rejuvenates` and `back`, c_images/specs/ImagesHold.antt).
use Rattle.std.specs.Prelude.{cond, List, ltb, get_or, ℕ, ◌-◌}
use Rattle.limits.specs.Limits.{buffer_bytes, record_count}
use Rattle.standings.specs.declared.Place.TheVariants.{At}
use Rattle.standings.specs.Table.{place_number}
use Rattle.state.specs.declared.Undo.{Undo}
use Rattle.state.specs.declared.StoreMeaning.{StoreMeaning}
use Rattle.state.specs.declared.journal.WriteRecord.{WriteRecord}
use Rattle.state.specs.StoreMeaning.{window_at}
use Rattle.state.specs.Updates.{flag_number}
use Rattle.state.specs.Journal.{descriptor_code, last_grant, write_record_at}
use Rattle.spec.specs.Machine.{Machine}
use Rattle.images.specs.Words.{low_first}
unfoldable pub use Rattle.images.specs.Loaded.{record_from, undo_from, store_from, journal_from}
unfoldable pub use Rattle.images.specs.Loaded.{blank_record}
unfoldable pub use Rattle.images.specs.Loaded.{canonical, load_refusal, young_with}

abbrev pub no_record : WriteRecord
no_record = record { descriptor = 0; place = At 0; length = 0 }

-- Write record k of the last grant, of which it has so many.
unfoldable pub grant_record : ℕ → List ℕ → ℕ → WriteRecord
grant_record records journal k = cond (ltb k records) (write_record_at journal last_grant k) no_record

abbrev pub record_code : WriteRecord → ℕ
record_code w = descriptor_code w.descriptor w.place

unfoldable pub record_number : ℕ → List ℕ → ℕ → ℕ
record_number records journal i =
    cond (ltb i 148) (record_code (grant_record records journal (i - 84)))
    (cond (ltb i 212) (place_number (grant_record records journal (i - 148)).place)
    (grant_record records journal (i - 212)).length)

unfoldable pub grant_number : Undo → List ℕ → ℕ → ℕ
grant_number u journal i =
    cond (ltb i 58) (flag_number u.valid)
    (cond (ltb i 59) u.used.records
    (cond (ltb i 60) u.used.bytes
    (cond (ltb i 76) (get_or u.offsets (i - 60) 0)
    (cond (ltb i 84) (get_or u.lengths (i - 76) 0)
    (record_number u.used.records journal i)))))

unfoldable pub table_number : StoreMeaning → ℕ → ℕ
table_number s i =
    cond (ltb i 1) 1
    (cond (ltb i 17) (get_or s.filenumbers (i - 1) 0)
    (cond (ltb i 33) (get_or s.offsets (i - 17) 0)
    (cond (ltb i 41) (get_or s.lengths (i - 33) 0)
    (cond (ltb i 49) (window_at s (i - 41)).start
    (window_at s (i - 49)).end))))

-- Number i of the image of a store.
unfoldable pub number_of : StoreMeaning → List ℕ → ℕ → ℕ
number_of s journal i = cond (ltb i 57) (table_number s i) (grant_number s.undo journal i)

-- The bytes of the numbers of a store's image; the files and the old bytes stand behind them.
unfoldable pub image_numbers : Machine → List ℕ
image_numbers m = low_first (number_of m.store m.journal) 276
