-- That the program does with a line what the definition of a replay says (`line_turn` of
-- text_log/specs/Replay.antt).
use Rattle.std.specs.Prelude.{List, ◌++◌, ◌≡◌, ℕ, ◌-◌, is_some}
use Rattle.buffers.specs.Parts.{cut}
use Rattle.spec.specs.Machine.{Machine}
use Rattle.text_log.specs.Replay.{ReplayState, Printed, compared, versioned, one_more}
use Rattle.text_replay.specs.declared.answering.ReplayProgress.{ReplayProgress}

-- What the definition keeps from line to line, as the program has it: record and buffers m, and the answer
-- that was printed last in the
-- output buffer.
abbrev pub replay_state_in : ReplayProgress → Machine → List ℕ → ReplayState
replay_state_in p m out =
    record {
      machine = m;
      answer = cut out p.from (p.end - p.from);
      malformed = p.malformed.count;
      differing = p.differing.count;
      ended = is_some p.ended;
    }

-- What the definition says came of a line: its text was added to the output that waits, and k is kept.
pub record Took (w : Printed) (waiting : List ℕ) (k : ReplayState) (waiting' : List ℕ) : Type 0 where
  pub says : waiting' ≡ waiting ++ w.text
  pub keeps : k ≡ w.after

-- An answer of the log was compared with the one in the output buffer.
pub record Compared (p r : ReplayProgress) (text out : List ℕ) : Type 0 where
  pub waiting : r.waiting ≡ p.waiting
  pub keeps : (m : Machine) → replay_state_in r m out ≡ compared text (replay_state_in p m out)

-- A version was met.
pub record Versioned (p r : ReplayProgress) (v : ℕ) : Type 0 where
  pub waiting : r.waiting ≡ p.waiting
  pub keeps : (m : Machine) (out : List ℕ) → replay_state_in r m out ≡ versioned v (replay_state_in p m out)

-- A line of another form was counted.
pub record Noted (p r : ReplayProgress) : Type 0 where
  pub waiting : r.waiting ≡ p.waiting
  pub malformed : r.malformed.count ≡ one_more p.malformed.count
  pub differing : r.differing.count ≡ p.differing.count
  pub ended : is_some r.ended ≡ is_some p.ended
