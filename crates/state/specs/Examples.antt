-- What each outcome says, computed.
use Rattle.std.specs.declared.result.Result.TheVariants.{Ok, Err}
use Rattle.std.specs.Prelude.{◌≡◌}
use Rattle.state.specs.declared.outcomes.Refusal.TheVariants.{BufferLength, BadBudget}
use Rattle.state.specs.declared.outcomes.Answer.TheVariants.{Done, Offset, Given, Granted, Pairs}
use Rattle.state.specs.declared.outcomes.Answer.TheVariants.{Ordered}
use Rattle.state.specs.Outcomes.{done_answer, pointer, given, granted, pairs, ordered, refused, said}

pub record SaysEach : Type 0 where
  -- 01: "Read answers the count of bytes given; Fresh, Begin, Seek, Write and Abort answer plainly." [R-1.9]
  pub bytes : (said (Ok (Given 5)) ≡ given 5) × (said (Ok Done) ≡ done_answer)
  -- "GetFilePointer answers the offset." [R-3.3]
  pub offset : said (Ok (Offset 5)) ≡ pointer 5
  -- 02, F-4: "Commit answers that octet." [R-9.9]
  pub octet : said (Ok (Granted 5)) ≡ granted 5
  -- F-1: "The answer is the count of pairs" [R-15.2]
  pub count : said (Ok (Pairs 5)) ≡ pairs 5
  -- F-14: "how many grants Commit would give in it, and a gap" [R-14.1]; "The number of orders tried is in
  -- the result" [R-14.1].
  pub order : said (Ok (Ordered 5 6 7)) ≡ ordered 5 6 7
  -- "a new refusal number joins demand 1's fourteen" [R-16.1]: from 1 to 27.
  pub number : (said (Err BufferLength) ≡ refused 1) × (said (Err BadBudget) ≡ refused 27)
