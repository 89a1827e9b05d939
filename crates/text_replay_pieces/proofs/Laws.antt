-- Laws for this crate's proofs. Assumes nothing.
use mathlib.Core.{List.{List, [], ◌∷◌, ◌++◌, append-nil}, Path.{sym, ap, ◌∙◌}}
use Prim.Native.Nat.{ℕ}
use Rattle.text_log.specs.Replay.{ReplayState, line_turn, replaying}
use Rattle.text_lines.specs.Programs.{transcript, state_after, Answered}
use Rattle.text_replay.specs.Turns.{Took}

-- a line that was taken was answered
pub took-line : (line : List ℕ) (k : ReplayState) (waiting : List ℕ) (k' : ReplayState) (waiting' : List ℕ)
    → Took (line_turn line k) waiting k' waiting' → Answered replaying (line ∷ []) k waiting k' waiting'
unfolding transcript state_after
took-line line k waiting k' waiting' t = record
    { says = t.says ∙ ap (λ (x : List ℕ). waiting ++ x) (sym (append-nil (line_turn line k).text)); keeps = t.keeps }
