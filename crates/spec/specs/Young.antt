-- The young store with the same committed state as another, made from it number by number. (Used by images,
-- c_images/specs/ImagesHold.antt.)
use Rattle.std.specs.Prelude.{List, replicate, ℕ}
use Rattle.state.specs.StoreMeaning.{with_offsets, with_lengths, with_windows, with_undo}
use Rattle.state.specs.Journal.{journal_length, last_grant, write_record_at, with_records}
use Rattle.spec.specs.Machine.{Machine, with_store, with_journal, with_files}
use Rattle.spec.specs.Calls.{fresh_store, fresh_machine}

-- One made fresh, with other logs, and given the same files, offsets, lengths and windows, and the same grant
-- to undo: its write records, all else that the state holds of it, and the undo buffer.
unfoldable pub rejuvenated : Machine → List ℕ → Machine
rejuvenated m logs =
    let s = m.store in
    with_store
    (with_offsets s.offsets (with_lengths s.lengths
    (with_windows s.windows (with_undo s.undo (fresh_store s.filenumbers)))))
    (with_journal (with_records (replicate journal_length 0) last_grant
    (write_record_at m.journal last_grant) s.undo.used.records)
    (with_files m.files (fresh_machine s.filenumbers logs m.undo)))
