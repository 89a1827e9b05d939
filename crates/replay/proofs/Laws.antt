-- Laws for this crate's proofs. Assumes nothing.
use mathlib.Core.{Bool.{Bool, true, false, ◌&&◌, false≢true}, List.{List, []}, Path.{◌≡◌, refl, ap₂, ◌∙◌}}
use native.Mathlib.Omega.{arith}
use Prim.Native.Nat.{ℕ, ◌-◌, ◌≤◌}
use Rattle.std.specs.Prelude.{is_some}
use Rattle.buffers.specs.Parts.{cut}
use Rattle.spec.specs.Machine.{Machine}
use Rattle.text_log.{specs.Replay.{ReplayState, replaying}, proofs.TruncatedLines.ended-answered}
use Rattle.text_lines.{specs.{Lines.last_line, Programs.{Answered, Under, within, at_end}}, proofs.Passing.end_of}
use Rattle.text_replay.specs.{Bounds.AnswerIn, Turns.replay_state_in, declared.answering.ReplayProgress.ReplayProgress}
use Rattle.text_replay_pieces.specs.Bounds.{PiecesResting}
use Rattle.replay.specs.{Bounds.Flushed, WholeRun.RunEnds}

pub both : (a b : Bool) → (a && b) ≡ true → (a ≡ true) × (b ≡ true)
both true b e = (refl, e)
both false b e = absurd (false≢true e)

-- what is written leaves the state
pub preserved-flushed : (p r : ReplayProgress) (m : Machine) (out : List ℕ) → Flushed p r → replay_state_in r m out
    ≡ replay_state_in p m out
preserved-flushed p r m out f = ap₂ (λ (x : List ℕ) (y : ℕ). keeping x y r.differing.count (is_some r.ended))
    (ap₂ (λ (i k : ℕ). cut out i (k - i)) f.starts f.ends) f.malformed ∙ ap₂
    (λ (x : ℕ) (y : Bool). keeping (cut out p.from (p.end - p.from)) p.malformed.count x y) f.differing f.ended
  where
    keeping : List ℕ → ℕ → ℕ → Bool → ReplayState
    keeping answer malformed differing ended =
        record { machine = m; answer = answer; malformed = malformed; differing = differing; ended = ended }

pub answered-flushed : (ls : List (List ℕ)) (k : ReplayState) (q p : ReplayProgress) (m : Machine) (out text : List ℕ)
    → Flushed q p
    → Answered replaying ls k [] (replay_state_in q m out) text → Answered replaying ls k [] (replay_state_in p m out) text
answered-flushed ls k q p m out text f a = record { says = a.says; keeps = preserved-flushed q p m out f ∙ a.keeps }

pub rests : (q p : ReplayProgress) → Flushed q p → q.pending ≤ 8238 → AnswerIn q → PiecesResting p
rests q p f h a = record {
  pending = omega (arith, f.pending, h);
  waiting = f.waiting;
  answer = record { starts = omega (arith, f.starts, f.ends, a.starts); ends = omega (arith, f.ends, a.ends) };
}

-- ---- the end of a run

-- at the end of the input
pub input-ends : (k : ReplayState) (pending rest text : List ℕ) (k' : ReplayState) → rest ≡ []
    → Answered replaying (last_line pending) k [] k' text → RunEnds (within k pending rest) k'
input-ends k pending rest text k' e a = record { text = text; answered = rw (end_of replaying k pending rest e) a }

-- after another version
pub version-ends : (u : Under ReplayState) (k : ReplayState) (pending : List ℕ) → at_end replaying u ≡ within k pending []
    → k.ended ≡ true → RunEnds u k
version-ends u k pending e go = record { text = []; answered = rw e (ended-answered (last_line pending) k go) }
