-- What a Read brings from what supplies its bytes (Fetch.antt says it of the parts).
use Rattle.std.specs.Prelude.{List, ℕ}
use Rattle.read_lookup.specs.declared.Extent.{Extent}
use Rattle.read_lookup.specs.Lookup.{recorded_in}
use Rattle.read_fetch.specs.declared.Sources.{Sources}
use Rattle.read_fetch.specs.Fetch.{bytes_read, marks_after}

-- The bytes of these places.
abbrev pub bytes_of : Sources → Extent → List ℕ
bytes_of s e =
    bytes_read (recorded_in s.records.state.now) s.records.t s.records.used.records s.log.now s.file.now e

-- The marks after those of them that the file supplied are sighted.
abbrev pub marks_with : Sources → Extent → List ℕ → List ℕ
marks_with s e marks =
    marks_after (recorded_in s.records.state.now) s.records.t s.records.used.records s.log.now s.file.now e marks
