-- What is proved of a call log: every line of a call is read as that call; and what of a call may be left out
-- of its line.
use Rattle.std.specs.Prelude.{List, [], ◌∷◌, ◌≡◌, length, replicate, take, ℕ, ◌≤◌}
use Rattle.text_numerals.specs.Decimal.{past, AllBelow}
use Rattle.text_trace.specs.Grammar.{asks, parsed}
use Rattle.requests.specs.declared.Request.{Request}
use Rattle.requests.specs.Requests.{call_of}
use Rattle.spec.specs.Machine.{Machine}
use Rattle.spec.specs.Calls.{call, fresh as fresh_turn}
use Rattle.spec.specs.Messages.{Call, begin, on, commit, abort, places, set_window, undo_commit, best_order}
use Rattle.spec.specs.Messages.{Op, seek, write, get_file_pointer, read}
use Rattle.text_log.specs.LogLines.{calls, fresh, line_of, fresh_line, call_in, most_numbers, most_written}
use Rattle.text_log.specs.LogLines.{most_files, most_ordered, trace_room}

-- The numbers of a call, with the length of the buffer for its answer; and its bytes, or the octets of an
-- order.
unfoldable pub numbers_of_op : ℕ → Op → List ℕ
numbers_of_op t (seek d v) = t ∷ d ∷ v ∷ []
numbers_of_op t (write d bytes) = t ∷ d ∷ []
numbers_of_op t (get_file_pointer d) = t ∷ d ∷ []
numbers_of_op t (read d n buffer) = t ∷ d ∷ n ∷ length buffer ∷ []

unfoldable pub numbers_of : Call → List ℕ
numbers_of (begin t) = t ∷ []
numbers_of (on t o) = numbers_of_op t o
numbers_of (commit t minute) = t ∷ minute ∷ []
numbers_of (abort t) = t ∷ []
numbers_of (places t f out) = t ∷ f ∷ length out ∷ []
numbers_of (set_window f start end) = f ∷ start ∷ end ∷ []
numbers_of undo_commit = []
numbers_of (best_order ts minute budget) = minute ∷ budget ∷ ts

unfoldable pub bytes_of_op : Op → List ℕ
bytes_of_op (seek d v) = []
bytes_of_op (write d bytes) = bytes
bytes_of_op (get_file_pointer d) = []
bytes_of_op (read d n buffer) = []

unfoldable pub bytes_of_call : Call → List ℕ
bytes_of_call (begin t) = []
bytes_of_call (on t o) = bytes_of_op o
bytes_of_call (commit t minute) = []
bytes_of_call (abort t) = []
bytes_of_call (places t f out) = []
bytes_of_call (set_window f start end) = []
bytes_of_call undo_commit = []
bytes_of_call (best_order ts minute budget) = ts

-- A call that a log can hold: its numbers have 64 bits, its bytes 8, and there are not too many of them.
pub record Loggable (c : Call) : Type 0 where
  pub numbers : AllBelow past (numbers_of c)
  pub few : length (numbers_of c) ≤ most_numbers
  pub bytes : AllBelow 256 (bytes_of_call c)
  pub short : length (bytes_of_call c) ≤ most_written

-- The call with zeros in the buffer for its answer.
unfoldable pub blank_op : Op → Op
blank_op (seek d v) = seek d v
blank_op (write d bytes) = write d bytes
blank_op (get_file_pointer d) = get_file_pointer d
blank_op (read d n buffer) = read d n (replicate (length buffer) 0)

unfoldable pub blank : Call → Call
blank (begin t) = begin t
blank (on t o) = on t (blank_op o)
blank (commit t minute) = commit t minute
blank (abort t) = abort t
blank (places t f out) = places t f (replicate (length out) 0)
blank (set_window f start end) = set_window f start end
blank undo_commit = undo_commit
blank (best_order ts minute budget) = best_order ts minute budget

pub record CallLogHolds : Type 0 where
  -- A call's line is read as that call.
  pub back : (c : Call) → Loggable c → call_in (line_of c) ≡ calls (blank c)
  pub fresh_back : (files : List ℕ) → length files ≤ most_numbers → AllBelow 256 files
      → call_in (fresh_line files) ≡ fresh files
  -- A Write of more bytes than a line holds is refused, and leaves the store, as one of its first 4,097.
  pub clipped : (t d : ℕ) (bytes : List ℕ) (m : Machine) → most_written ≤ length bytes
      → call (on t (write d bytes)) m ≡ call (on t (write d (take most_written bytes))) m
  -- Fresh with more than 17 file numbers, and an order of more than 15 transactions, are refused as with
  -- their first ones.
  pub fresh_cut : (files : List ℕ) (m : Machine) → fresh_turn (take most_files files) m ≡ fresh_turn files m
  pub order_cut :
      (ts : List ℕ) (minute budget : ℕ) (m : Machine)
      → call (best_order (take most_ordered ts) minute budget) m ≡ call (best_order ts minute budget) m
  -- A line of a trace says the same in a call log.
  pub traces :
      (line : List ℕ) (q : Request) (bytes : List ℕ) → parsed line ≡ asks q bytes
      → call_in line ≡ calls (call_of q bytes (replicate trace_room 0))
