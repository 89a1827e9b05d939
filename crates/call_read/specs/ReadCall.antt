-- A Read through a descriptor whose place is known, on the state and the buffers.
use Rattle.std.specs.Prelude.{true, cond, List, ◌++◌, ◌≡◌, ltb, length, get_or, set, drop, ℕ, ◌+◌, ◌-◌, ◌≤◌, ◌<◌, min}
use Rattle.limits.specs.Limits.{file_count, file_bytes, descriptor_count, transaction_count}
use Rattle.buffers.specs.Bits.{with_bit}
use Rattle.buffers.specs.Parts.{file_part}
use Rattle.standings.specs.Table.{after_read, offset_of}
use Rattle.state.specs.declared.Transaction.{Transaction}
use Rattle.state.specs.StoreMeaning.{standing_at, with_descriptors, with_lengthmarks, with_transaction}
use Rattle.state.specs.Layout.{transaction_of, store_of, journal_of, state_length}
use Rattle.admission.specs.Admission.{standing_in}
use Rattle.spec.specs.Promises.{Lent}
use Rattle.read_lookup.specs.declared.Extent.{Extent}
use Rattle.read_lookup.specs.Lookup.{extent, recorded_in, length_seen, CountedRecords}
use Rattle.read_fetch.specs.Fetch.{HandedWhole, bytes_read, marks_after, log_part}

-- "the smaller of n and" [R-6.2] the transaction's length "less the offset" [R-6.2]: these places of the
-- descriptor's file.
abbrev pub places_from : List ℕ → ℕ → ℕ → ℕ → Extent
places_from state t d n =
    let x = transaction_of state t in
    let f = get_or (store_of state).filenumbers d 0 in
    let o = offset_of (standing_at x d) in
    extent f o (min n (length_seen state t x.used.records f - o))

-- The transaction after these places were given: the descriptor has moved on and is dirty, and "a Read that
-- gave fewer bytes than wanted sights the length" [R-7.1].
abbrev pub after_giving : ℕ → ℕ → Extent → Transaction → Transaction
after_giving d n e x =
    with_lengthmarks (cond (ltb e.length n) (with_bit e.file x.lengthmarks) x.lengthmarks)
    (with_descriptors (set x.descriptors d
    (record { standing = after_read e.length (standing_at x d); dirty = true })) x)

-- What is asked before that is put, and the state after it was.
pub record Movable (state : List ℕ) (t d : ℕ) (e : Extent) : Type 0 where
  pub long : length state ≡ state_length
  pub small : t < transaction_count
  pub few : d < descriptor_count
  pub standing : standing_in (standing_at (transaction_of state t) d) ≡ true
  pub file_in : e.file < file_count
  pub places : offset_of (standing_at (transaction_of state t) d) + e.length ≤ file_bytes

pub record MovedOn (t d n : ℕ) (e : Extent) (before after : List ℕ) : Type 0 where
  pub store : store_of after ≡ with_transaction t (after_giving d n e (transaction_of before t)) (store_of before)
  pub journal : journal_of after ≡ journal_of before

-- What a Read is handed once its descriptor has its place.
pub record Readable (state files logs marks : List ℕ) (t d n : ℕ) (reader : List ℕ) : Type 0 where
  pub long : length state ≡ state_length
  pub few : d < descriptor_count
  pub room : n ≤ length reader
  pub standing : standing_in (standing_at (transaction_of state t) d) ≡ true
  pub counted : CountedRecords (journal_of state) t (transaction_of state t).used
  pub handed : HandedWhole files logs marks (places_from state t d n)

-- The marks and the reader's buffer after it gave these places.
pub record Served (t : ℕ) (e : Extent) (state files logs marks reader : List ℕ)
    (marks_then reader_then : List ℕ) : Type 0 where
  pub bytes : reader_then
      ≡ bytes_read (recorded_in state) t (transaction_of state t).used.records (log_part logs t)
      (file_part files e.file) e
      ++ drop e.length reader
  pub marking : marks_then
      ≡ marks_after (recorded_in state) t (transaction_of state t).used.records (log_part logs t)
      (file_part files e.file) e marks

-- What it leaves and answers.
abbrev pub GivesRead : Lent → Lent → Lent → Lent → ℕ → ℕ → ℕ → Lent → ℕ → Type 0
GivesRead state files logs marks t d n reader r =
    let before = state.entry in
    let e = places_from before t d n in
    (r ≡ e.length)
    × MovedOn t d n e before state.exit
    × Served t e before files.entry logs.entry marks.entry reader.entry
    marks.exit
    reader.exit
