-- Which calls touch which buffer and the files of descriptors, and what Fresh, Begin and the end of a
-- transaction leave, on any state and any buffers. It follows from the rules (Calls.antt): nobody has to
-- believe it.
use Rattle.std.specs.Prelude.{false, List, ◌≡◌, replicate, ℕ, ◌+◌, ◌*◌}
use Rattle.limits.specs.Limits.{file_count, buffer_bytes, descriptor_count, log_bytes}
use Rattle.buffers.specs.Marks.{has_mark}
use Rattle.buffers.specs.Parts.{pasted}
use Rattle.windows.specs.Windows.{window}
use Rattle.standings.specs.declared.Standing.TheVariants.{Untouched}
use Rattle.state.specs.declared.outcomes.Refusal.TheVariants.{Stale}
use Rattle.state.specs.declared.Transaction.{Transaction}
use Rattle.state.specs.Outcomes.{number, done_answer, granted, refused}
use Rattle.state.specs.StoreMeaning.{transaction, standing_at, dirty_at, window_at}
use Rattle.spec.specs.Messages.{write, read, Call, begin, on, commit, abort, places, undo_commit}
use Rattle.spec.specs.Machine.{Machine}
use Rattle.spec.specs.Calls.{fresh, call}

-- Transaction t has no mark, and has sighted no length. (False of `marks_three` and `marks_length`:
-- Counterexamples.antt.)
pub record Unmarked (t : ℕ) (m : Machine) : Type 0 where
  pub bytes : (q : ℕ) → has_mark m.marks t q ≡ false
  pub lengths : (transaction m.store t).lengthmarks ≡ 0

-- "an empty log, sixteen Untouched descriptors .., not stale" [R-10.2]; nor is a descriptor dirty. (False of
-- those of `EmptiedTells`: Counterexamples.antt.)
pub record Emptied (x : Transaction) : Type 0 where
  pub records : x.used.records ≡ 0
  pub bytes : x.used.bytes ≡ 0
  pub untouched : (d : ℕ) → standing_at x d ≡ Untouched
  pub clean : (d : ℕ) → dirty_at x d ≡ false
  pub not_stale : x.stale ≡ false

-- Transaction t has nothing in it, and no marks.
abbrev pub Vacant : ℕ → Machine → Type 0
Vacant t m = Unmarked t m × Emptied (transaction m.store t)

-- "Every file byte, mark and offset is 0, nothing is open" [R-1.6]; 02, F-8: a length is "0 when fresh"
-- [R-1.1]; F-11: "Fresh sets all to 0 and 0" [R-11.2]; F-13: there is no grant to undo. (False of
-- `marks_three`: Counterexamples.antt.)
pub record AllZero (m : Machine) : Type 0 where
  pub bytes : m.files ≡ replicate buffer_bytes 0
  pub marks : m.marks ≡ replicate buffer_bytes 0
  pub offsets : m.store.offsets ≡ replicate descriptor_count 0
  pub lengths : m.store.lengths ≡ replicate file_count 0
  pub windows : (f : ℕ) → window_at m.store f ≡ window 0 0
  pub closed : (t : ℕ) → (transaction m.store t).begun ≡ false
  pub nothing_to_undo : m.store.undo.valid ≡ false

pub record Buffers (m : Machine) : Type 0 where
  -- "A Write puts its bytes in its log directly after the data used. No other call touches a log byte."
  -- [R-2.2]
  pub logs : (c : Call) → ((t d : ℕ) (bytes : List ℕ) → c ≡ on t (write d bytes) → ⊥) → (call c m).after.logs
      ≡ m.logs
  -- "directly after the data used" [R-2.2], in the log buffer's part "starting at 4,096 × t" [R-2.1].
  pub written :
      (t d : ℕ) (bytes : List ℕ) → (call (on t (write d bytes)) m).reply.answer ≡ done_answer
      → (call (on t (write d bytes)) m).after.logs
      ≡ pasted m.logs (log_bytes * t + (transaction m.store t).used.bytes) bytes
  -- "Every file byte, mark and offset is 0, nothing is open" [R-1.6], whatever Fresh found.
  pub fresh_zeros : (numbers : List ℕ) → (fresh numbers m).reply.answer ≡ done_answer
      → AllZero (fresh numbers m).after
  -- "the log buffer is left as found" [R-1.6]
  pub fresh_logs : (numbers : List ℕ) → (fresh numbers m).after.logs ≡ m.logs
  -- "Each belongs for good to one file, named at Fresh" [R-1.2]: the file of a descriptor never changes.
  pub file_numbers : (c : Call) → (call c m).after.store.filenumbers ≡ m.store.filenumbers
  pub fresh_numbers : (numbers : List ℕ) → (fresh numbers m).reply.answer ≡ done_answer
      → (fresh numbers m).after.store.filenumbers ≡ numbers
  -- "A write that isn't granted is seen by its own transaction and by nobody else." [R-1.5] File bytes are
  -- touched by Commit and undo alone.
  pub files : (c : Call) → ((t minute : ℕ) → c ≡ commit t minute → ⊥) → (c ≡ undo_commit → ⊥)
      → (call c m).after.files ≡ m.files
  -- 02, F-13: the undo log is touched by Commit alone, "and Fresh leaves all of it" [R-12.3].
  pub undo : (c : Call) → ((t minute : ℕ) → c ≡ commit t minute → ⊥) → (call c m).after.undo ≡ m.undo
  pub fresh_undo : (numbers : List ℕ) → (fresh numbers m).after.undo ≡ m.undo
  -- F-1: "a new call changes only what its request says" [R-1.8]: a list of places changes nothing but the
  -- caller's buffer for it.
  pub listing : (t f : ℕ) (out : List ℕ) → (call (places t f out) m).after ≡ m
  -- Marks are set by Read, and cleared by Begin and by what ends a transaction.
  pub marks :
      (c : Call) → ((t d n : ℕ) (buffer : List ℕ) → c ≡ on t (read d n buffer) → ⊥)
      → ((t : ℕ) → c ≡ begin t → ⊥)
      → ((t minute : ℕ) → c ≡ commit t minute → ⊥) → ((t : ℕ) → c ≡ abort t → ⊥) → (call c m).after.marks
      ≡ m.marks
  -- "Begin gives an empty log, sixteen Untouched descriptors, no marks, not stale." [R-1.7]
  pub begun : (t : ℕ) → (call (begin t) m).reply.answer ≡ done_answer → Vacant t (call (begin t) m).after
  -- "Abort drops log and marks" [R-10.1]; "The transaction ends and its marks are cleared" [R-9.8]; "it ends
  -- as at Abort" [R-9.2]. "However it ends, an ended transaction has an empty log, sixteen Untouched
  -- descriptors and is not stale" [R-10.2].
  pub aborted : (t : ℕ) → (call (abort t) m).reply.answer ≡ done_answer → Vacant t (call (abort t) m).after
  pub committed :
      (t minute n : ℕ) → (call (commit t minute) m).reply.answer ≡ granted n
      → Vacant t (call (commit t minute) m).after
  pub stale :
      (t minute : ℕ) → (call (commit t minute) m).reply.answer ≡ refused (number Stale)
      → Vacant t (call (commit t minute) m).after
