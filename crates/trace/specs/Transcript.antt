-- What a trace prints for lines, one after the other. Paper 02, F-5: "A program reads standard input over a
-- fresh store, descriptor d in file d mod 8" [R-19.1]; "It prints for each line .. , and then the byte 10"
-- [R-19.4]; "17, once for the whole line, .. ; the run goes on." [R-19.5]
use Rattle.std.specs.Prelude.{List, ℕ, ◌%◌}
use Rattle.limits.specs.Limits.{file_count, descriptor_count}
use Rattle.text_trace.specs.Grammar.{Line, another, asks, parsed}
use Rattle.text_lines.specs.Programs.{LineProgram, Under, within}
use Rattle.buffers.specs.Parts.{tabulate}
use Rattle.text_answers.specs.Printed.{printed}
use Rattle.requests.specs.declared.Request.{Request}
use Rattle.requests.specs.declared.Request.TheVariants.{Begin, Seek, Write, GetFilePointer, Read, Places}
use Rattle.requests.specs.declared.Request.TheVariants.{Commit, Abort, SetWindow, UndoCommit}
use Rattle.requests.specs.Requests.{call_of}
use Rattle.spec.specs.Messages.{Call, TurnOf, refuse_turn}
use Rattle.spec.specs.Machine.{Machine}
use Rattle.spec.specs.Calls.{call}

-- "descriptor d in file d mod 8" [R-19.1]
unfoldable pub mod_eight : List ℕ
mod_eight = tabulate (λ d. d % file_count) descriptor_count

-- The reader's buffer after a request whose call left `after` in it: Read and Places answer there, any other
-- leaves it.
unfoldable pub reader_after_line : Request → List ℕ → List ℕ → List ℕ
reader_after_line (Begin t) before after = before
reader_after_line (Seek t d v) before after = before
reader_after_line (Write t d) before after = before
reader_after_line (GetFilePointer t d) before after = before
reader_after_line (Read t d n) before after = after
reader_after_line (Places t f) before after = after
reader_after_line (Commit t minute) before after = before
reader_after_line (Abort t) before after = before
reader_after_line (SetWindow f start end) before after = before
reader_after_line UndoCommit before after = before

-- The trace's state from line to line.
pub record TraceState (S : Type 0) : Type 0 where
  pub machine : S
  pub reader : List ℕ

module _ {S : Type 0} (answer : Call → S → TurnOf S) where
  -- One line: what is replied, and the trace's state after it.
  unfoldable pub trace_line_turn : Line → TraceState S → TurnOf (TraceState S)
  trace_line_turn another k = refuse_turn 17 k.reader k
  trace_line_turn (asks q bytes) k =
      let c = call_of q bytes k.reader in
      let w = answer c k.machine in
      let reader = reader_after_line q k.reader w.reply.buffer in
      record {
        reply = record { answer = w.reply.answer; buffer = reader };
        after = record { machine = w.after; reader = reader };
      }

  -- What a trace does with lines: a line of more than 128 bytes without its end has another form.
  abbrev pub tracing : LineProgram (TraceState S)
  tracing =
      record {
        text = λ line k. printed (trace_line_turn (parsed line) k).reply;
        next = λ line k. (trace_line_turn (parsed line) k).after;
        most = 128;
      }

-- ---- what the functions promise

-- The trace that the program runs, on state and buffers.
abbrev pub store_trace : LineProgram (TraceState Machine)
store_trace = tracing call

-- In the middle of a piece of input, as the program has it.
abbrev pub under : Machine → List ℕ → List ℕ → List ℕ → Under (TraceState Machine)
under m reader pending rest = within (record { machine = m; reader = reader }) pending rest
