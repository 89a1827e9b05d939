-- The line of an answer in a log: F-5's, and forms of the same kind for Places and for the best order.
use Rattle.std.specs.Prelude.{Bool, true, false, ◌&&◌, List, [], ◌∷◌, ◌++◌, eqb, take, ℕ, ◌+◌, ◌*◌}
use Prim.Native.Char.{code}
use Rattle.text_numerals.specs.Decimal.{spaced_texts}
use Rattle.text_answers.specs.Printed.{ok, spelled}
use Rattle.state.specs.Outcomes.{Said, done_answer, pointer, given, granted, pairs, ordered, refused}
use Rattle.spec.specs.Messages.{Reply}

-- F-1: "each 16 bits, high byte first" [R-15.2].
unfoldable pub words_of : List ℕ → List ℕ
words_of [] = []
words_of (a ∷ []) = []
words_of (a ∷ b ∷ bytes) = (a * 256 + b) ∷ words_of bytes

-- What is said, without the line's end: of Places each offset and length, of an order its grants, the gap,
-- how many were tried, and its transactions; anything else as F-5 prints it.
unfoldable pub answer_text : Said → List ℕ → List ℕ
answer_text done_answer buffer = spelled done_answer buffer
answer_text (pointer n) buffer = spelled (pointer n) buffer
answer_text (given n) buffer = spelled (given n) buffer
answer_text (granted n) buffer = spelled (granted n) buffer
answer_text (pairs n) buffer = ok ++ spaced_texts (words_of (take (4 * n) buffer))
answer_text (ordered grants gap tried) buffer = ok ++ spaced_texts (grants ∷ gap ∷ tried ∷ buffer)
answer_text (refused n) buffer = spelled (refused n) buffer

abbrev pub reply_text : Reply → List ℕ
reply_text r = answer_text r.answer r.buffer

-- `= ` and the answer.
unfoldable pub expectation : List ℕ → List ℕ
expectation text = code "=" ∷ code " " ∷ text

unfoldable pub same_bytes : List ℕ → List ℕ → Bool
same_bytes [] [] = true
same_bytes [] (b ∷ m) = false
same_bytes (a ∷ l) [] = false
same_bytes (a ∷ l) (b ∷ m) = eqb a b && same_bytes l m
