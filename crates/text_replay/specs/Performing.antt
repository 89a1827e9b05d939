-- What performing a line promises.
use Rattle.std.specs.declared.result.Result.TheVariants.{Ok, Err}
use Rattle.std.specs.Prelude.{cond, List, ◌≡◌, leb, ℕ, min}
use Rattle.state.specs.Outcomes.{refused, said}
use Rattle.state.specs.Outcomes.{Outcome}
use Rattle.state.specs.declared.outcomes.Answer.TheVariants.{Done, Offset, Given}
use Rattle.state.specs.declared.outcomes.Answer.TheVariants.{Granted, Pairs, Ordered}
use Rattle.requests.specs.declared.Request.{Request}
use Rattle.requests.specs.declared.Request.TheVariants.{Begin, Seek, Write, GetFilePointer, Read}
use Rattle.requests.specs.declared.Request.TheVariants.{Places, Commit, Abort, SetWindow, UndoCommit}
use Rattle.spec.specs.Machine.{Machine}
use Rattle.spec.specs.Messages.{says}
use Rattle.spec.specs.Calls.{Turn, call, fresh as fresh_turn}
use Rattle.text_log.specs.Answers.{answer_text, reply_text}
use Rattle.text_log.specs.LogLines.{LogEntry, another, comment, expects, version, fresh, calls}

-- A Read that its own buffer of that length has room for, in one of 4,097 bytes.
unfoldable pub clipped_to : ℕ → Request → Request
clipped_to room (Begin t) = Begin t
clipped_to room (Seek t d v) = Seek t d v
clipped_to room (Write t d) = Write t d
clipped_to room (GetFilePointer t d) = GetFilePointer t d
clipped_to room (Read t d n) = Read t d (cond (leb n room) (min n 4097) n)
clipped_to room (Places t f) = Places t f
clipped_to room (Commit t minute) = Commit t minute
clipped_to room (Abort t) = Abort t
clipped_to room (SetWindow f start end) = SetWindow f start end
clipped_to room UndoCommit = UndoCommit

-- Read and Places answer in the reader's buffer.
unfoldable pub answer_size : Request → ℕ → ℕ
answer_size (Begin t) n = 0
answer_size (Seek t d v) n = 0
answer_size (Write t d) n = 0
answer_size (GetFilePointer t d) n = 0
answer_size (Read t d k) n = n
answer_size (Places t f) n = n
answer_size (Commit t minute) n = 0
answer_size (Abort t) n = 0
answer_size (SetWindow f start end) n = 0
answer_size UndoCommit n = 0

-- An order is answered there too.
unfoldable pub order_size : Outcome → ℕ → ℕ
order_size (Ok Done) n = 0
order_size (Ok (Offset o)) n = 0
order_size (Ok (Given k)) n = 0
order_size (Ok (Granted k)) n = 0
order_size (Ok (Pairs k)) n = 0
order_size (Ok (Ordered grants gap tried)) n = min n 8
order_size (Err r) n = 0

-- The turn of the store for what a line says; 17 where that is no call.
unfoldable pub turn_of : LogEntry → Machine → Turn
turn_of another m = record { reply = says (refused 17); after = m }
turn_of comment m = record { reply = says (refused 17); after = m }
turn_of expects m = record { reply = says (refused 17); after = m }
turn_of (version v) m = record { reply = says (refused 17); after = m }
turn_of (fresh files) m = fresh_turn files m
turn_of (calls c) m = call c m

-- The outcome is a turn's answer, with those bytes of the reader's buffer it reads as the turn's reply, and
-- record and buffers are those that the turn leaves.
pub record Replies (w : Turn) (o : Outcome) (m : Machine) (buffer : List ℕ) : Type 0 where
  pub answer : said o ≡ w.reply.answer
  pub text : answer_text (said o) buffer ≡ reply_text w.reply
  pub machine : m ≡ w.after
