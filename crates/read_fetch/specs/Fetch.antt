-- What a Read brings, on the parts that it is handed: the write records, the transaction's log, the file.
use Rattle.std.specs.Prelude.{cond, List, ◌++◌, ◌≡◌, eqb, length, get_or, drop, ℕ, ◌+◌, ◌-◌, ◌*◌, ◌≤◌, ◌<◌}
use Rattle.limits.specs.Limits.{file_count, file_bytes, buffer_bytes, log_bytes}
use Rattle.counters.specs.declared.Used.{Used}
use Rattle.buffers.specs.Parts.{cut, tabulate, file_part}
use Rattle.spec.specs.Items.{Values, byte, offset, file_length, Prog, result, asked}
use Rattle.spec.specs.Reading.{fetch}
use Rattle.spec.specs.Calls.{marked}
use Rattle.spec.specs.Promises.{Lent}
use Rattle.read_lookup.specs.declared.Extent.{Extent}
use Rattle.read_lookup.specs.declared.Run.{Run}
use Rattle.read_lookup.specs.Lookup.{extent, Recorded, recorded_in, write_in}

-- The committed bytes of file f, "the part that starts at place 4,096 × f" [R-2.1]. A Read asks for no other
-- item while it fetches.
unfoldable pub file_values : ℕ → List ℕ → Values
file_values f file (byte q) = get_or file (q - file_bytes * f) 0
file_values f file (offset d) = 0
file_values f file (file_length g) = 0

-- The bytes of these places, as transaction t with so many write records sees them.
unfoldable pub fetching : Recorded → ℕ → ℕ → List ℕ → Extent → Prog (List ℕ)
fetching j t records log e =
    fetch (λ d. get_or j.filenumbers d 0) (tabulate (write_in j.journal log t) records) e.file
    e.place e.length

-- These bytes, and the marks after those of them that the file supplied are sighted.
unfoldable pub bytes_read : Recorded → ℕ → ℕ → List ℕ → List ℕ → Extent → List ℕ
bytes_read j t records log file e = result (file_values e.file file) (fetching j t records log e)

unfoldable pub marks_after : Recorded → ℕ → ℕ → List ℕ → List ℕ → Extent → List ℕ → List ℕ
marks_after j t records log file e marks =
    marked t (asked (file_values e.file file) (fetching j t records log e)) marks

-- "transaction t's part starting at 4,096 × t" [R-2.1]
unfoldable pub log_part : List ℕ → ℕ → List ℕ
log_part logs t = cut logs (log_bytes * t) log_bytes

-- The write records that a fetch visits, where own writes end in the file there: none where that is 0.
abbrev pub visited_by : Used → ℕ → Used
visited_by u own = cond (eqb own 0) (record { records = 0; bytes = 0 }) u

-- Of these places, those of a run at their front.
abbrev pub run_extent : Extent → Run → Extent
run_extent e r = extent e.file e.place r.length

-- The reader's buffer and the marks after, of what a function is lent: the state with the whole of the buffers.
abbrev pub reader_within : Lent → Lent → Lent → ℕ → Used → Extent → Lent → List ℕ
reader_within state files logs t u e reader =
    bytes_read (recorded_in state.entry) t u.records (log_part logs.entry t)
    (file_part files.entry e.file) e
    ++ drop e.length reader.entry

abbrev pub marks_within : Lent → Lent → Lent → Lent → ℕ → Used → Extent → List ℕ
marks_within state files logs marks t u e =
    marks_after (recorded_in state.entry) t u.records (log_part logs.entry t)
    (file_part files.entry e.file) e
    marks.entry

-- What the callers hand over: a whole marks buffer, places of a file.
pub record Handed (marks : List ℕ) (e : Extent) : Type 0 where
  pub marks_length : length marks ≡ buffer_bytes
  pub file_in : e.file < file_count
  pub places : e.place + e.length ≤ file_bytes

-- What the callers hand over with whole buffers.
pub record HandedWhole (files logs marks : List ℕ) (e : Extent) : Type 0 where
  pub files_length : length files ≡ buffer_bytes
  pub logs_length : length logs ≡ buffer_bytes
  pub marks_length : length marks ≡ buffer_bytes
  pub file_in : e.file < file_count
  pub places : e.place + e.length ≤ file_bytes
