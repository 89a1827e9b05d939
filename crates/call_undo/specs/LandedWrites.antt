-- Where a write of the last grant landed, as its record tells: its file, its place there, and how many bytes
-- it has. 02, F-13: "The old bytes, for each write those it landed on" [R-12.2].
use Rattle.standings.specs.Table.{place_number}
use Rattle.state.specs.declared.StoreMeaning.{StoreMeaning}
use Rattle.state.specs.declared.journal.WriteRecord.{WriteRecord}
use Rattle.spec.specs.Machine.{file_of}
use Rattle.commit_apply.specs.declared.writes.LandedWrite.{LandedWrite}

unfoldable pub landed_as : StoreMeaning → WriteRecord → LandedWrite
landed_as s w = record { file = file_of s w.descriptor; place = place_number w.place; length = w.length }
