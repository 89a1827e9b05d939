-- A call log can be run again, with the same effect: what a call shows of the buffer for its answer, and what
-- its line may leave out.
use Rattle.std.specs.Prelude.{List, [], map, ◌≡◌, length, take, ℕ, ◌*◌, ◌≤◌, ◌<◌, min}
use Rattle.state.specs.Outcomes.{Said, done_answer, pointer, given, granted, pairs, ordered, refused}
use Rattle.requests.specs.declared.Request.{Request}
use Rattle.requests.specs.Requests.{call_of}
use Rattle.text_numerals.specs.Decimal.{past, AllBelow}
use Rattle.spec.specs.Machine.{Machine}
use Rattle.spec.specs.Calls.{call, Turn, calls_after, calls_replies}
use Rattle.spec.specs.SerializabilityOfStore.{FreshlyMade}
use Rattle.spec.specs.Messages.{Call, Reply, on, read}
use Rattle.text_log.specs.LogLines.{call_in, calls}
use Rattle.text_log.specs.Recorded.{request_line}
use Rattle.text_log.specs.Statements.{blank, numbers_of}

-- What an answer shows of its buffer: the bytes given, the pairs listed, the order.
unfoldable pub shown : Said → List ℕ → List ℕ
shown done_answer buffer = []
shown (pointer o) buffer = []
shown (given n) buffer = take n buffer
shown (granted n) buffer = []
shown (pairs n) buffer = take (4 * n) buffer
shown (ordered grants gap tried) buffer = buffer
shown (refused n) buffer = []

abbrev pub shown_by : Reply → List ℕ
shown_by r = shown r.answer r.buffer

-- Two turns leave the same store, answer the same and show the same.
pub record SameTurn (x y : Turn) : Type 0 where
  pub after : x.after ≡ y.after
  pub answer : x.reply.answer ≡ y.reply.answer
  pub shows : shown_by x.reply ≡ shown_by y.reply

pub record Replays : Type 0 where
  -- A call with zeros in its buffer, and a list of such calls.
  pub blanked : (c : Call) (m : Machine) → SameTurn (call (blank c) m) (call c m)
  pub blanked_all :
      (cs : List Call) (m : Machine)
      → (calls_after (map blank cs) m ≡ calls_after cs m)
      × (map (λ r. r.answer) (calls_replies (map blank cs) m) ≡ map (λ r. r.answer) (calls_replies cs m))
      × (map shown_by (calls_replies (map blank cs) m) ≡ map shown_by (calls_replies cs m))
  -- The line that is put for a request that is performed with these bytes and this buffer says a call that
  -- comes to the same.
  pub recorded :
      (q : Request) (bytes reader : List ℕ) → AllBelow past (numbers_of (call_of q bytes reader))
      → AllBelow 256 bytes
      → (c : Call) × (call_in (request_line q bytes (length reader)) ≡ calls c)
      × ((m : Machine) → SameTurn (call c m) (call (call_of q bytes reader) m))
  -- A buffer of 4,097 bytes serves for every Read of a store that was made by Fresh: one of more bytes gives
  -- and sights the same, and one of more than its buffer holds is refused in any that is no longer.
  pub roomy :
      (numbers : List ℕ) (m : Machine) → FreshlyMade numbers m
      → (cs : List Call) (t d n : ℕ) (buffer other : List ℕ) → n ≤ length buffer
      → length other ≡ 4097
      → SameTurn (call (on t (read d (min n 4097) other)) (calls_after cs m))
      (call (on t (read d n buffer)) (calls_after cs m))
  pub roomless :
      (numbers : List ℕ) (m : Machine) → FreshlyMade numbers m
      → (cs : List Call) (t d n : ℕ) (buffer other : List ℕ) → length buffer < n
      → length other ≤ length buffer
      → SameTurn (call (on t (read d n other)) (calls_after cs m))
      (call (on t (read d n buffer)) (calls_after cs m))
