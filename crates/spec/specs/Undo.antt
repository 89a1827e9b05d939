-- Request F-13, "Taking back the last grant" [R-12.1]: what a grant saves, and how it is undone. (Old bytes
-- of writes in a buffer are spec_undo/specs/OldBytes.antt.)
use Rattle.std.specs.Prelude.{true, false, List, map, length, get_or, ℕ, ◌+◌, ◌*◌}
use Rattle.limits.specs.Limits.{file_bytes}
use Rattle.buffers.specs.Parts.{tabulate, pasted}
use Rattle.standings.specs.declared.Place.TheVariants.{At}
use Rattle.standings.specs.Table.{place_number}
use Rattle.state.specs.declared.StoreMeaning.{StoreMeaning}
use Rattle.state.specs.declared.journal.WriteRecord.{WriteRecord}
use Rattle.state.specs.StoreMeaning.{undo_with, with_offsets, with_lengths, with_valid, with_undo}
use Rattle.state.specs.Journal.{last_grant, write_record_at, with_records}
use Rattle.spec_undo.specs.OldBytes.{Landing, landing, Span, old_bytes, restored}
use Rattle.spec.specs.Items.{offset, Values}
use Rattle.spec.specs.Transactions.{Txn, Write}
use Rattle.spec.specs.Steps.{total}
use Rattle.spec.specs.Commits.{lands_at}
use Rattle.spec.specs.Machine.{Machine, with_store, with_journal, with_files, with_old_bytes, file_of, values}
use Rattle.spec.specs.Machine.{no_write}

-- A write as it lands in the files buffer, all of them in order, and the write record of one with the
-- place at which it lands.
unfoldable pub landing_of : (ℕ → ℕ) → Values → Write → Landing
landing_of file_of v w =
    landing (file_bytes * file_of w.descriptor + lands_at (v (offset w.descriptor)) w.place) w.bytes

abbrev pub landings_of : (ℕ → ℕ) → Values → List Write → List Landing
landings_of file_of v ws = map (landing_of file_of v) ws

unfoldable pub landed_record : Values → Write → WriteRecord
landed_record v w =
    record {
      descriptor = w.descriptor;
      place = At (lands_at (v (offset w.descriptor)) w.place);
      length = length w.bytes;
    }

-- "the last grant's old bytes, offsets and lengths are held in a fourth store buffer, of 4,096 bytes and lent
-- as the three are, and in the record. The old bytes .. lie from the buffer's front ..; the rest of it is
-- left" [R-2.1]: the store that holds what a grant of x finds.
unfoldable pub saving_undo : Txn → Machine → Machine
saving_undo x m =
    let s = m.store in
    let v = values s m.files in
    let ws = x.writes in
    with_store
    (with_undo (undo_with true (record { records = length ws; bytes = total ws }) s.offsets s.lengths) s)
    (with_journal (with_records m.journal last_grant (λ k. landed_record v (get_or ws k no_write)) (length ws))
    (with_old_bytes (pasted m.undo 0 (old_bytes (landings_of (file_of s) v ws) m.files)) m))

-- The spans of the files buffer on which the last grant landed, as its records tell.
unfoldable pub span_of_record : StoreMeaning → WriteRecord → Span
span_of_record s w =
    record { at = file_bytes * file_of s w.descriptor + place_number w.place; length = w.length }

unfoldable pub landed_on : StoreMeaning → List ℕ → List Span
landed_on s journal = tabulate (λ k. span_of_record s (write_record_at journal last_grant k))
    s.undo.used.records

-- "taking back leaves files, offsets and lengths exactly as that grant found them, whatever the windows"
-- [R-12.1]: the store after it, which has no grant to undo. Journal, logs, marks and the fourth buffer stay.
unfoldable pub undone : Machine → Machine
undone m =
    let s = m.store in
    with_store (with_offsets s.undo.offsets
    (with_lengths s.undo.lengths (with_undo (with_valid false s.undo) s)))
    (with_files (restored (landed_on s m.journal) m.undo m.files) m)
