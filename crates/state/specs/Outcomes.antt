-- What the calls answer, in the numbers and values of paper 01.
use Rattle.std.specs.Prelude.{ℕ}
use Rattle.state.specs.declared.outcomes.Refusal.{Refusal}
use Rattle.state.specs.declared.outcomes.Refusal.TheVariants.{BufferLength, RecordRange}
use Rattle.state.specs.declared.outcomes.Refusal.TheVariants.{NoSuchTransaction, NotOpen, AlreadyOpen}
use Rattle.state.specs.declared.outcomes.Refusal.TheVariants.{NoSuchTarget, ReaderTooShort}
use Rattle.state.specs.declared.outcomes.Refusal.TheVariants.{SeekPastEnd, WritePastEnd}
use Rattle.state.specs.declared.outcomes.Refusal.TheVariants.{RecordsFull, LogFull, AppendPastEnd}
use Rattle.state.specs.declared.outcomes.Refusal.TheVariants.{Stale, NoSuchFile}
use Rattle.state.specs.declared.outcomes.Refusal.TheVariants.{NoPlaceYet, ListTooLong, BadLine}
use Rattle.state.specs.declared.outcomes.Refusal.TheVariants.{StaleReader, NotAtRest, ScriptRange}
use Rattle.state.specs.declared.outcomes.Refusal.TheVariants.{FileClosed, NoSuchMinute, StillOpen}
use Rattle.state.specs.declared.outcomes.Refusal.TheVariants.{NoGrant, NotReady}
use Rattle.state.specs.declared.outcomes.Refusal.TheVariants.{BadList, BadBudget}
use Rattle.state.specs.declared.outcomes.Answer.{Answer}
use Rattle.state.specs.declared.outcomes.Answer.TheVariants.{Done, Offset, Given, Granted, Pairs}
use Rattle.state.specs.declared.outcomes.Answer.TheVariants.{Ordered}
use Rattle.std.specs.declared.result.Result.{Result}
use Rattle.std.specs.declared.result.Result.TheVariants.{Ok, Err}

-- "What a turned-down call brings" [R-16.1]: the column Returned. From 15 on paper 02: "a new refusal number
-- joins demand 1's fourteen and 01's table" [R-16.1].
abbrev pub number : Refusal → ℕ
number BufferLength = 1
number RecordRange = 2
number NoSuchTransaction = 3
number NotOpen = 4
number AlreadyOpen = 5
number NoSuchTarget = 6
number ReaderTooShort = 7
number SeekPastEnd = 8
number WritePastEnd = 9
number RecordsFull = 10
number LogFull = 11
number AppendPastEnd = 12
number Stale = 13
number NoSuchFile = 14
number NoPlaceYet = 15
number ListTooLong = 16
number BadLine = 17
number StaleReader = 18
number NotAtRest = 19
number ScriptRange = 20
number FileClosed = 21
number NoSuchMinute = 22
number StillOpen = 23
number NoGrant = 24
number NotReady = 25
number BadList = 26
number BadBudget = 27

-- The numbers go from 1 to this.
abbrev pub refusals : ℕ
refusals = 27

-- "Read answers the count of bytes given; Fresh, Begin, Seek, Write and Abort answer plainly" [R-1.9];
-- "GetFilePointer answers the offset" [R-3.3]; F-1: "The answer is the count of pairs" [R-15.2]; F-4: "Commit
-- answers that octet" [R-9.9]; F-14: beside an order "how many grants Commit would give in it, and a gap"
-- [R-14.1], and "The number of orders tried" [R-14.1]; or the number of a refusal.
pub data Said : Type 0 where
  done_answer : Said
  pointer : ℕ → Said
  given : ℕ → Said
  granted : ℕ → Said
  pairs : ℕ → Said
  ordered : ℕ → ℕ → ℕ → Said
  refused : ℕ → Said

-- What a call returns, as the code has it: an answer, or a refusal.
abbrev pub Outcome : Type 0
Outcome = Result Answer Refusal

-- Each case of it in those terms.
unfoldable pub said : Outcome → Said
said (Ok Done) = done_answer
said (Ok (Offset o)) = pointer o
said (Ok (Given n)) = given n
said (Ok (Granted n)) = granted n
said (Ok (Pairs n)) = pairs n
said (Ok (Ordered grants gap tried)) = ordered grants gap tried
said (Err r) = refused (number r)
