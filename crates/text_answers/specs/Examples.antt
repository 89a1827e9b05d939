-- Replies and their lines: the request's, and edge cases.
use Rattle.std.specs.Prelude.{[], ◌∷◌, ◌≡◌}
use Rattle.text_answers.specs.Printed.{printed}
use Rattle.state.specs.Outcomes.{done_answer, pointer, given, granted, refused}
use Rattle.spec.specs.Messages.{says}

pub record AnswerExamples : Type 0 where
  -- 02, F-5: "`B0`, `W0 0 hi`, `P0 0`, `C0` give `ok`, `ok`, `ok 2`, `ok 0`" [E-19.1]
  pub asked :
      (printed (says done_answer) ≡ 111 ∷ 107 ∷ 10 ∷ [])
      × (printed (says (pointer 2)) ≡ 111 ∷ 107 ∷ 32 ∷ 50 ∷ 10 ∷ [])
      × (printed (says (granted 0)) ≡ 111 ∷ 107 ∷ 32 ∷ 48 ∷ 10 ∷ [])
  -- Four digits, with a zero among them; five; a refusal's one and two.
  pub numbers :
      (printed (says (pointer 4096)) ≡ 111 ∷ 107 ∷ 32 ∷ 52 ∷ 48 ∷ 57 ∷ 54 ∷ 10 ∷ [])
      × (printed (says (pointer 65535)) ≡ 111 ∷ 107 ∷ 32 ∷ 54 ∷ 53 ∷ 53 ∷ 51 ∷ 53 ∷ 10 ∷ [])
      × (printed (says (refused 3)) ≡ 51 ∷ 10 ∷ []) × (printed (says (refused 17)) ≡ 49 ∷ 55 ∷ 10 ∷ [])
  -- Two bytes of a buffer of three, in lower case and with a zero in front; "an empty Read prints ok alone"
  -- [R-19.4].
  pub bytes :
      (printed (record { answer = given 2; buffer = 10 ∷ 255 ∷ 7 ∷ [] }) ≡ 111 ∷ 107 ∷ 32 ∷ 48 ∷ 97 ∷ 102
      ∷ 102 ∷ 10 ∷ [])
      × (printed (record { answer = given 0; buffer = 10 ∷ 255 ∷ 7 ∷ [] }) ≡ 111 ∷ 107 ∷ 10 ∷ [])
