-- A truncated line does what the whole line does, and nothing comes of the lines after another version.
use mathlib.Core.{Bool.{Bool, true, false, cond}, List.{List, [], ◌∷◌, ◌++◌}, Path.{◌≡◌, refl, sym, ap, ◌∙◌}}
use lib.{Dec.leb, ListN.{length, take}, Seq.{take_all, length-take-le}}
use borrow.Author.Tests.{leb-true, leb-false, lt-leb}
use native.Mathlib.Omega.{arith}
use Prim.Native.Nat.{ℕ, ◌<◌}
use Rattle.text_lines.specs.{Lines.truncated, Programs.{TruncatedIsEnough, Answered, transcript, state_after}}
use Rattle.text_log.specs.LogLines.{LogEntry, another, entry_in, call_in, longest}
use Rattle.text_log.specs.Replay.{ReplayState, Printed, silent, malformed_line, entry_turn, line_turn, replaying}

too_long : (line : List ℕ) → longest < length line → call_in line ≡ another
too_long line h = unfold call_in in ap (λ (t : Bool). cond t (entry_in line) another) (lt-leb (length line) longest h)

-- a line that is too long has another form, whatever its bytes
long-turn : (line : List ℕ) (k : ReplayState) → longest < length line → line_turn line k
    ≡ cond k.ended (silent k) (malformed_line k)
unfolding line_turn entry_turn
long-turn line k h = ap (λ (e : LogEntry). cond k.ended (silent k) (entry_turn line e k)) (too_long line h)

truncated-turn : (line : List ℕ) (k : ReplayState) → line_turn (truncated longest line) k ≡ line_turn line k
unfolding truncated
truncated-turn line k = pick (leb (length line) longest) refl
  where
    pick : (t : Bool) → leb (length line) longest ≡ t → line_turn (take 8238 line) k ≡ line_turn line k
    pick true e = let h = leb-true (length line) longest e in
        ap (λ (l : List ℕ). line_turn l k) (take_all 8238 line (omega arith))
    pick false e = let h = leb-false (length line) longest e in let l = length-take-le 8238 line (omega arith) in
        long-turn (take 8238 line) k (omega arith) ∙ sym (long-turn line k h)

pub log-truncated-is-enough : TruncatedIsEnough replaying
log-truncated-is-enough = record {
  text = λ line k. ap (λ (w : Printed). w.text) (truncated-turn line k);
  next = λ line k. ap (λ (w : Printed). w.after) (truncated-turn line k);
}

-- ---- after another version

ended-turn : (line : List ℕ) (k : ReplayState) → k.ended ≡ true → line_turn line k ≡ silent k
ended-turn line k e = unfold line_turn in ap (λ (b : Bool). cond b (silent k) (entry_turn line (call_in line) k)) e

ended-text : (ls : List (List ℕ)) (k : ReplayState) → k.ended ≡ true → transcript replaying ls k ≡ []
unfolding transcript silent
ended-text [] k e = refl
ended-text (l ∷ ls) k e =
    ap (λ (w : Printed). w.text ++ transcript replaying ls w.after) (ended-turn l k e) ∙ ended-text ls k e

ended-preserved : (ls : List (List ℕ)) (k : ReplayState) → k.ended ≡ true → state_after replaying ls k ≡ k
unfolding state_after silent
ended-preserved [] k e = refl
ended-preserved (l ∷ ls) k e = ap (λ (w : Printed). state_after replaying ls w.after) (ended-turn l k e)
    ∙ ended-preserved ls k e

pub ended-answered : (ls : List (List ℕ)) (k : ReplayState) → k.ended ≡ true → Answered replaying ls k [] k []
ended-answered ls k e = record { says = sym (ended-text ls k e); keeps = sym (ended-preserved ls k e) }
