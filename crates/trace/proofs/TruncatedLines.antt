-- A truncated line is answered as the whole line. Assumes nothing.
use mathlib.Core.{Bool.{Bool, true, false, cond}, List.List, Path.{◌≡◌, refl, sym, ap, ◌∙◌}}
use lib.{Dec.leb, ListN.{length, take}, Seq.{take_all, length-take-le}}
use borrow.Author.Tests.{leb-true, leb-false, lt-leb}
use native.Mathlib.Omega.{arith}
use Prim.Native.Nat.{ℕ, ◌<◌}
use Rattle.text_trace.specs.Grammar.{Line, another, parsed, form}
use Rattle.text_lines.specs.{Lines.truncated, Programs.TruncatedIsEnough}
use Rattle.spec.specs.Messages.{Call, TurnOf}
use Rattle.text_answers.specs.Printed.{printed}
use Rattle.trace.specs.{Answers.TruncatedLine, Transcript.{trace_line_turn, tracing}}

too_long : (line : List ℕ) → 128 < length line → parsed line ≡ another
too_long line h = unfold parsed in ap (λ (t : Bool). cond t (form line) another) (lt-leb (length line) 128 h)

pub truncated-line : TruncatedLine
unfolding truncated
truncated-line line = pick (leb (length line) 128) refl
  where
    pick : (t : Bool) → leb (length line) 128 ≡ t → parsed (take 129 line) ≡ parsed line
    pick true e = let h = leb-true (length line) 128 e in ap parsed (take_all 129 line (omega arith))
    pick false e = let h = leb-false (length line) 128 e in let l = length-take-le 129 line (omega arith) in
        too_long (take 129 line) (omega arith) ∙ sym (too_long line h)

pub trace-truncated-is-enough : {S : Type 0} (a : Call → S → TurnOf S) → TruncatedIsEnough (tracing a)
trace-truncated-is-enough a = record {
  text = λ line k. ap (λ (l : Line). printed (trace_line_turn a l k).reply) (truncated-line line);
  next = λ line k. ap (λ (l : Line). (trace_line_turn a l k).after) (truncated-line line);
}
