-- What a replay does with the lines of a log, and that it does what was recorded.
use Rattle.std.specs.Prelude.{Bool, false, cond, not, List, [], ◌∷◌, ◌++◌, ◌≡◌, eqb, leb, ltb, length, take, drop, ℕ, suc}
use Rattle.text_numerals.specs.Decimal.{past, AllBelow}
use Rattle.text_lines.specs.Programs.{LineProgram, transcript, state_after}
use Rattle.state.specs.Outcomes.{refused}
use Rattle.spec.specs.Machine.{Machine}
use Rattle.spec.specs.Calls.{call, Turn, fresh as fresh_turn}
use Rattle.spec.specs.Messages.{Call, begin, on, commit, abort, places, set_window, undo_commit, best_order}
use Rattle.spec.specs.Messages.{says}
use Rattle.spec.specs.Messages.{Op, seek, write, get_file_pointer, read}
use Rattle.text_log.specs.LogLines.{LogEntry, another, comment, expects, version, fresh, calls, call_in}
use Rattle.text_log.specs.LogLines.{line_of, fresh_line}
use Rattle.text_log.specs.LogLines.{longest, most_written, most_files, most_ordered}
use Rattle.text_log.specs.Answers.{reply_text, expectation, same_bytes}
use Rattle.text_log.specs.Statements.{numbers_of, bytes_of_call}

-- ---- what lines do

-- The replay's state from line to line: the store's state and buffers, the answer that was printed last, how
-- many lines had another form, how many `=` lines differed from the answer before them, and whether another
-- version ended the run.
pub record ReplayState : Type 0 where
  pub machine : Machine
  pub answer : List ℕ
  pub malformed : ℕ
  pub differing : ℕ
  pub ended : Bool

-- A state of these parts.
abbrev pub replay_state : Machine → List ℕ → ℕ → ℕ → Bool → ReplayState
replay_state m answer malformed differing ended =
    record { machine = m; answer = answer; malformed = malformed; differing = differing; ended = ended }

-- One more, as far as 64 bits go.
unfoldable pub one_more : ℕ → ℕ
one_more n = cond (ltb n 18446744073709551615) (suc n) n

-- The text that a line prints, and the replay's state after it.
pub record Printed : Type 0 where
  pub text : List ℕ
  pub after : ReplayState

unfoldable pub silent : ReplayState → Printed
silent k = record { text = []; after = k }

-- A turn of the store: its answer is printed, with the line's end.
unfoldable pub answered : Turn → ReplayState → Printed
answered w k =
    record {
      text = reply_text w.reply ++ (10 ∷ []);
      after = replay_state w.after (reply_text w.reply) k.malformed k.differing k.ended;
    }

-- A line of another form: 17.
unfoldable pub malformed_line : ReplayState → Printed
malformed_line k =
    record {
      text = reply_text (says (refused 17)) ++ (10 ∷ []);
      after =
          replay_state k.machine (reply_text (says (refused 17))) (one_more k.malformed) k.differing
          k.ended;
    }

-- `= ` and a text: it is compared with the answer that was printed last.
unfoldable pub compared : List ℕ → ReplayState → ReplayState
compared text k =
    replay_state k.machine k.answer k.malformed
    (cond (same_bytes text k.answer) k.differing (one_more k.differing)) k.ended

unfoldable pub versioned : ℕ → ReplayState → ReplayState
versioned v k = replay_state k.machine k.answer k.malformed k.differing (not (eqb v 1))

unfoldable pub entry_turn : List ℕ → LogEntry → ReplayState → Printed
entry_turn line another k = malformed_line k
entry_turn line comment k = silent k
entry_turn line expects k = silent (compared (drop 2 line) k)
entry_turn line (version v) k = silent (versioned v k)
entry_turn line (fresh files) k = answered (fresh_turn files k.machine) k
entry_turn line (calls c) k = answered (call c k.machine) k

-- One line. Nothing comes of the lines after another version.
unfoldable pub line_turn : List ℕ → ReplayState → Printed
line_turn line k = cond k.ended (silent k) (entry_turn line (call_in line) k)

-- What a replay does with lines.
abbrev pub replaying : LineProgram ReplayState
replaying =
    record { text = λ line k. (line_turn line k).text; next = λ line k. (line_turn line k).after; most = longest }

-- The replay's state before the first line.
abbrev pub first_state : Machine → ReplayState
first_state m = replay_state m [] 0 0 false

-- ---- what is recorded

-- What a caller does: it makes the store fresh, or calls.
pub data Event : Type 0 where
  starts : List ℕ → Event
  makes : Call → Event

unfoldable pub event_turn : Event → Machine → Turn
event_turn (starts files) m = fresh_turn files m
event_turn (makes c) m = call c m

-- A call with the front of what its line has no room for.
unfoldable pub logged_op : Op → Op
logged_op (seek d v) = seek d v
logged_op (write d bytes) = write d (take most_written bytes)
logged_op (get_file_pointer d) = get_file_pointer d
logged_op (read d n buffer) = read d n buffer

unfoldable pub logged_part : Call → Call
logged_part (begin t) = begin t
logged_part (on t o) = on t (logged_op o)
logged_part (commit t minute) = commit t minute
logged_part (abort t) = abort t
logged_part (places t f out) = places t f out
logged_part (set_window f start end) = set_window f start end
logged_part undo_commit = undo_commit
logged_part (best_order ts minute budget) = best_order (take most_ordered ts) minute budget

-- The line that a recorder puts for it: `put_fresh`, `put_call`, `put_order`.
unfoldable pub event_line : Event → List ℕ
event_line (starts files) = fresh_line (take most_files files)
event_line (makes c) = line_of (logged_part c)

-- The line of the answer that it had, if a line can hold it.
unfoldable pub answer_lines : List ℕ → List (List ℕ)
answer_lines text = cond (leb (length (expectation text)) longest) (expectation text ∷ []) []

unfoldable pub recorded_lines : List Event → Machine → List (List ℕ)
recorded_lines [] m = []
recorded_lines (e ∷ es) m =
    let w = event_turn e m in
    event_line e ∷ (answer_lines (reply_text w.reply) ++ recorded_lines es w.after)

-- The answers that the events had, a line each, and what they left.
unfoldable pub answers_of : List Event → Machine → List ℕ
answers_of [] m = []
answers_of (e ∷ es) m = let w = event_turn e m in (reply_text w.reply ++ (10 ∷ [])) ++ answers_of es w.after

unfoldable pub events_after : List Event → Machine → Machine
events_after [] m = m
events_after (e ∷ es) m = events_after es (event_turn e m).after

-- Numbers of 64 bits, and bytes: what a caller's arguments are.
unfoldable pub Typed : Event → Type 0
Typed (starts files) = AllBelow 256 files
Typed (makes c) = AllBelow past (numbers_of c) × AllBelow 256 (bytes_of_call c)

unfoldable pub AllTyped : List Event → Type 0
AllTyped [] = Unit
AllTyped (e ∷ es) = Typed e × AllTyped es

-- ---- proved in proofs/Replayed.antt

-- The replay of the recorded lines prints the answers that the events had, counts no difference and no line
-- of another form, and leaves the state and buffers that they left.
pub record ReplayedFrom (es : List Event) (k : ReplayState) : Type 0 where
  pub text : transcript replaying (recorded_lines es k.machine) k ≡ answers_of es k.machine
  pub machine : (state_after replaying (recorded_lines es k.machine) k).machine ≡ events_after es k.machine
  pub differing : (state_after replaying (recorded_lines es k.machine) k).differing ≡ k.differing
  pub malformed : (state_after replaying (recorded_lines es k.machine) k).malformed ≡ k.malformed

-- From any state and buffers, freshly made or saved.
abbrev pub Replayed : Type 0
Replayed = (es : List Event) (k : ReplayState) → AllTyped es → k.ended ≡ false → ReplayedFrom es k
