-- What a call answers in C: one signed number.
use Rattle.std.specs.Prelude.{List, [], ◌∷◌, ◌++◌, ◌≡◌, cond, ltb, ℕ, ◌-◌, length, replicate, ℤ, pos, neg_ℤ}
use Rattle.limits.specs.Limits.{transaction_count}
use Rattle.state.specs.Outcomes.{Said, done_answer, pointer, given, granted, pairs, ordered, refused}
use Rattle.state.specs.declared.Transaction.{Transaction}
use Rattle.spec.specs.Machine.{Machine}
use Rattle.spec.specs.Calls.{Turn}
use Rattle.spec.specs.Promises.{Lent, handed, handed_back}

abbrev pub negated : ℕ → ℤ
negated n = neg_ℤ (pos n)

-- A result is its number, a plain one 0; a refusal is its number in the paper, negated. Of an order it is the
-- grants.
unfoldable pub code_of : Said → ℤ
code_of done_answer = pos 0
code_of (pointer o) = pos o
code_of (given n) = pos n
code_of (granted octet) = pos octet
code_of (pairs n) = pos n
code_of (ordered grants gap tried) = pos grants
code_of (refused n) = negated n

-- The promise of a call: on what it is handed it answers the code of the rule's answer, and leaves state,
-- buffers and reader's buffer as the rule says; and where that is a refusal other than 13, every number of
-- the state as it was.
pub record AnswersAsCode (rule : Machine → Turn) (state files logs marks undo : Lent) (r : ℤ)
    (reader : List ℕ)
    : Type 0 where
  pub answer : r ≡ code_of (rule (handed state files logs marks undo)).reply.answer
  pub machine : handed_back state files logs marks undo ≡ (rule (handed state files logs marks undo)).after
  pub buffer : reader ≡ (rule (handed state files logs marks undo)).reply.buffer
  pub left :
      (n : ℕ) → (rule (handed state files logs marks undo)).reply.answer ≡ refused n → (n ≡ 13 → ⊥)
      → state.exit ≡ state.entry

-- Of an order's answer the gap and the number of orders tried; 0 of any other.
unfoldable pub gap_in : Said → ℕ
gap_in done_answer = 0
gap_in (pointer o) = 0
gap_in (given n) = 0
gap_in (granted octet) = 0
gap_in (pairs n) = 0
gap_in (ordered grants gap tried) = gap
gap_in (refused n) = 0

unfoldable pub tried_in : Said → ℕ
tried_in done_answer = 0
tried_in (pointer o) = 0
tried_in (given n) = 0
tried_in (granted octet) = 0
tried_in (pairs n) = 0
tried_in (ordered grants gap tried) = tried
tried_in (refused n) = 0

-- The promise of the best order: its grants as the code, the order with zeros after it, gap and orders tried.
pub record Orders (rule : Machine → Turn) (state files logs marks undo : Lent) (r : ℤ)
    (order numbers : List ℕ)
    : Type 0 where
  pub answers :
      AnswersAsCode rule state files logs marks undo r
      (rule (handed state files logs marks undo)).reply.buffer
  pub padded :
      let found = (rule (handed state files logs marks undo)).reply.buffer in
      order ≡ found ++ replicate (transaction_count - length found) 0
  pub numbered :
      let answer = (rule (handed state files logs marks undo)).reply.answer in
      numbers ≡ gap_in answer ∷ tried_in answer ∷ []

-- A number of what is committed, looked up under i: the refusal n where i is not below the limit.
unfoldable pub looked : ℕ → ℕ → ℕ → ℕ → Said
looked limit i n value = cond (ltb i limit) (pointer value) (refused n)

-- A transaction is closed, open, or open and stale.
unfoldable pub state_of : Transaction → ℕ
state_of x = cond x.begun (cond x.stale 2 1) 0
