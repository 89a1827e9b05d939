-- A line that was answered as `answer` promises was answered by its turn, and its text is the turn's. Assumes nothing.
use mathlib.Core.{List.{List, [], ◌∷◌, ◌++◌, append-nil}, Path.{◌≡◌, sym, ap, ap₂, ◌∙◌}}
use lib.ListN.{length, take}
use Prim.Native.Nat.{ℕ, ◌≤◌}
use Rattle.requests.specs.{Performing.Unanswered, declared.Request.Request}
use Rattle.requests.specs.declared.Request.TheVariants.{Begin, Seek, Write, GetFilePointer, Read, Places, Commit, Abort}
use Rattle.requests.specs.{declared.Request.TheVariants.{SetWindow, UndoCommit}, Requests.call_of}
use Rattle.text_trace.specs.Grammar.{Line, another, asks, parsed}
use Rattle.text_numerals.{specs.Put.Put, proofs.PutLaws.put-text}
use Rattle.text_answers.specs.Printed.{printed}
use Rattle.state.specs.{Outcomes.{Said, said}, Outcomes.Outcome}
use Rattle.spec.specs.{Messages.{Reply, TurnOf, refuse_turn, buffer_of, buffer_of_call}, Machine.Machine, Calls.call}
use Rattle.trace.specs.{Answers.{AnswersTo, Answers}, Transcript.{reader_after_line, TraceState, trace_line_turn, store_trace}}
use Rattle.text_lines.specs.Programs.{transcript, state_after, Answered}

record Same (t : TurnOf (TraceState Machine)) (o : Outcome) (m' : Machine) (reader' : List ℕ) : Type 0 where
  after : ◌≡◌ {A = TraceState Machine} (record { machine = m'; reader = reader' }) t.after
  reply : ◌≡◌ {A = Reply} (record { answer = said o; buffer = reader' }) t.reply

abbrev pub trace_state_in : Machine → List ℕ → TraceState Machine
trace_state_in m reader = record { machine = m; reader = reader }

abbrev reply_in : Said → List ℕ → Reply
reply_in a buffer = record { answer = a; buffer = buffer }

read_left : (q : Request) (bytes reader reader' w : List ℕ) → Unanswered q reader reader'
    → buffer_of_call (call_of q bytes reader') ≡ w → reader' ≡ reader_after_line q reader w
unfolding Unanswered call_of buffer_of_call buffer_of reader_after_line
read_left (Begin t) bytes reader reader' w l e = l
read_left (Seek t d v) bytes reader reader' w l e = l
read_left (Write t d) bytes reader reader' w l e = l
read_left (GetFilePointer t d) bytes reader reader' w l e = l
read_left (Read t d n) bytes reader reader' w l e = e
read_left (Places t f) bytes reader reader' w l e = e
read_left (Commit t minute) bytes reader reader' w l e = l
read_left (Abort t) bytes reader reader' w l e = l
read_left (SetWindow f start end) bytes reader reader' w l e = l
read_left UndoCommit bytes reader reader' w l e = l

same_turn : (l : Line) (m : Machine) (reader : List ℕ) (o : Outcome) (m' : Machine) (reader' : List ℕ)
    → AnswersTo l reader m o m' reader' → Same (trace_line_turn call l (trace_state_in m reader)) o m' reader'
unfolding AnswersTo trace_line_turn refuse_turn
same_turn another m reader o m' reader' h =
    record { after = ap₂ trace_state_in h.1.0 h.1.1; reply = ap₂ reply_in h.0 h.1.1 }
same_turn (asks q bytes) m reader o m' reader' h =
    let e = read_left q bytes reader reader' _ h.unanswered h.meets.reader in
    record { after = ap₂ trace_state_in h.meets.machine e; reply = ap₂ reply_in h.meets.outcome e }

pub answer-line : (line reader : List ℕ) (m : Machine) (o : Outcome) (m' : Machine) (reader' : List ℕ)
    → (before : List ℕ) (at : ℕ) (after : List ℕ) (next : ℕ) → Answers line reader m o m' reader'
    → Put before at (printed (record { answer = said o; buffer = reader' })) after next → at ≤ length before
    → Answered store_trace (line ∷ []) (trace_state_in m reader) (take at before) (trace_state_in m' reader') (take next after)
unfolding transcript state_after
answer-line line reader m o m' reader' before at after next a p h = let s = same_turn (parsed line) m reader o m' reader'
    a in let t = trace_line_turn call (parsed line) (trace_state_in m reader) in record {
      says = put-text before at (printed (reply_in (said o) reader')) after next h p ∙ ap (λ (r : Reply). take at before
          ++ printed r) s.reply ∙ ap (λ (x : List ℕ). take at before ++ x) (sym (append-nil (printed t.reply)));
      keeps = s.after;
    }
