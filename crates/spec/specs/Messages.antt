-- Calls and replies as data. Serializability speaks of lists of them.
use Rattle.std.specs.Prelude.{List, [], ◌∷◌, ℕ, ◌+◌}
use Rattle.std.proofs.Math.Option.{Option, none, some}
use Rattle.state.specs.Outcomes.{Said, done_answer, pointer, given, granted, pairs, ordered, refused}

-- The calls of one transaction, with their arguments: a Write's bytes, a Read's count and the reader's
-- buffer.
pub data Op : Type 0 where
  seek : ℕ → ℕ → Op
  write : ℕ → List ℕ → Op
  get_file_pointer : ℕ → Op
  read : ℕ → ℕ → List ℕ → Op

-- "Begin, Seek, Write, GetFilePointer, Read, Commit and Abort calls" [R-1.8], each with its transaction
-- number; and F-1's, with a file and the buffer for the list. 02, F-11: "Commit takes the minute" [R-9.1],
-- and "A call sets a window" [R-11.2]: a file, its start and its end. F-13, "every list of demand 3, which
-- may from now on hold this call" [R-18.3]: the last grant is undone. F-14: "up to 8 different open
-- transactions, a minute and a budget" [R-14.1].
pub data Call : Type 0 where
  begin : ℕ → Call
  on : ℕ → Op → Call
  commit : ℕ → ℕ → Call
  abort : ℕ → Call
  places : ℕ → ℕ → List ℕ → Call
  set_window : ℕ → ℕ → ℕ → Call
  undo_commit : Call
  best_order : List ℕ → ℕ → ℕ → Call

-- The reader's buffer of a call, or that for its list; empty where it has none.
unfoldable pub buffer_of : Op → List ℕ
buffer_of (seek d v) = []
buffer_of (write d bytes) = []
buffer_of (get_file_pointer d) = []
buffer_of (read d n buffer) = buffer

unfoldable pub buffer_of_call : Call → List ℕ
buffer_of_call (begin t) = []
buffer_of_call (on t o) = buffer_of o
buffer_of_call (commit t minute) = []
buffer_of_call (abort t) = []
buffer_of_call (places t f out) = out
buffer_of_call (set_window f start end) = []
buffer_of_call undo_commit = []
buffer_of_call (best_order ts minute budget) = []

-- What a call gives: its answer, and the reader's buffer after it (empty where it has none); F-14's answer
-- has its order there.
pub record Reply : Type 0 where
  pub answer : Said
  pub buffer : List ℕ

-- A reply with no reader's buffer.
abbrev pub says : Said → Reply
says a = record { answer = a; buffer = [] }

-- The number of a refusal, if an answer is one.
unfoldable pub refusal_of : Said → Option ℕ
refusal_of done_answer = none
refusal_of (pointer o) = none
refusal_of (given n) = none
refusal_of (granted n) = none
refusal_of (pairs n) = none
refusal_of (ordered grants gap tried) = none
refusal_of (refused n) = some n

-- What a call comes to, S being what the one that answers it holds: its reply, and what is held after it.
-- The store answers calls so, and so does the reference model.
pub record TurnOf (S : Type 0) : Type 0 where
  pub reply : Reply
  pub after : S

module _ {S : Type 0} where
  unfoldable pub answer_with : Said → S → TurnOf S
  answer_with a s = record { reply = says a; after = s }

  -- A refusal leaves "everything" [R-16.1], the reader's buffer too.
  unfoldable pub refuse_turn : ℕ → List ℕ → S → TurnOf S
  refuse_turn n buffer s = record { reply = record { answer = refused n; buffer = buffer }; after = s }

-- A list of calls: the replies, and what is held after it.
module _ {S : Type 0} (call : Call → S → TurnOf S) where
  unfoldable pub replies_to : List Call → S → List Reply
  replies_to [] s = []
  replies_to (c ∷ cs) s = (call c s).reply ∷ replies_to cs (call c s).after

  unfoldable pub after_all : List Call → S → S
  after_all [] s = s
  after_all (c ∷ cs) s = after_all cs (call c s).after

-- How many of these replies are grants.
unfoldable pub is_grant : Said → ℕ
is_grant done_answer = 0
is_grant (pointer o) = 0
is_grant (given n) = 0
is_grant (granted n) = 1
is_grant (pairs n) = 0
is_grant (ordered grants gap tried) = 0
is_grant (refused n) = 0

unfoldable pub grants_among : List Reply → ℕ
grants_among [] = 0
grants_among (r ∷ rs) = is_grant r.answer + grants_among rs
