-- The lines that a host records (docs/CALLLOG.md): of calls, and of their answers.
use Rattle.std.specs.Prelude.{cond, List, [], ◌∷◌, ◌++◌, ltb, ℕ, ◌-◌}
use Rattle.text_numerals.specs.Put.{Put}
use Rattle.state.specs.Outcomes.{Said, refused}
use Rattle.spec.specs.Promises.{Lent}
use Rattle.text_answers.specs.Printed.{spelled}
use Rattle.text_log.specs.Answers.{answer_text, expectation}
use Rattle.text_log.specs.Replay.{Event, event_line}

-- The line of what a caller does stands at the buffer's front, with its end; r bytes in all.
abbrev pub PutsLine : Event → Lent → ℕ → Type 0
PutsLine e out r = Put out.entry 0 (event_line e ++ (10 ∷ [])) out.exit r

-- What a call said, by the 16 bits of the number that it answered, which is below 0 for a refusal: that
-- one, or what `result` makes of the number.
unfoldable pub said_by : (ℕ → Said) → ℕ → Said
said_by result r = cond (ltb r 32768) (result r) (refused (65536 - r))

-- `= `, the answer and the line's end.
unfoldable pub answer_line : Said → List ℕ → List ℕ
answer_line said buffer = expectation (answer_text said buffer) ++ (10 ∷ [])

-- The line of an answer stands there, likewise.
abbrev pub PutsAnswer : Said → List ℕ → Lent → ℕ → Type 0
PutsAnswer said buffer out r = Put out.entry 0 (answer_line said buffer) out.exit r

-- The same of an answer that F-5 prints.
unfoldable pub spelled_line : Said → List ℕ → List ℕ
spelled_line said buffer = expectation (spelled said buffer) ++ (10 ∷ [])
