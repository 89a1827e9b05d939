-- Request F-10, "Rounds until each script is done" [R-13.1]: what the dispatcher does, made of calls alone.
use Rattle.std.specs.Prelude.{Bool, true, false, cond, ◌&&◌, List, [], ◌∷◌, ◌++◌, leb, ltb, eqb, ℕ, zero, suc, ◌+◌}
use Rattle.std.proofs.Math.Option.{get_or}
use Rattle.limits.specs.Limits.{script_count, script_calls}
use Rattle.buffers.specs.Parts.{cut}
use Rattle.state.specs.declared.outcomes.Refusal.TheVariants.{Stale}
use Rattle.state.specs.Outcomes.{number, Said}
use Rattle.admission.specs.FirstRefusal.{below}
use Rattle.spec.specs.Messages.{Op, seek, write, get_file_pointer, read, Call, begin, on, commit, abort, Reply}
use Rattle.spec.specs.Messages.{refusal_of}
use Rattle.spec.specs.Transactions.{put}

-- ---- scripts

-- "each a Seek, Write, GetFilePointer or Read" [R-13.1]; "A Write's bytes are a part of one lent data buffer"
-- [R-13.2]: its start and length there.
pub data ScriptCall : Type 0 where
  seeks : ℕ → ℕ → ScriptCall
  writes : ℕ → ℕ → ℕ → ScriptCall
  asks : ℕ → ScriptCall
  reads : ℕ → ℕ → ScriptCall

-- "up to 8 scripts of up to 16 calls" [R-13.1]: a count beside the calls, and a count beside the scripts.
-- What stands beyond a count is never read.
pub record Script : Type 0 where
  pub count : ℕ
  pub call : ℕ → ScriptCall

pub record Scripts : Type 0 where
  pub count : ℕ
  pub script : ℕ → Script

-- "20 when there are more than 8 scripts, one is over 16 calls, or a Write's part runs past the data buffer"
-- [R-16.1], which has n bytes.
unfoldable pub part_in : ℕ → ScriptCall → Bool
part_in n (seeks d v) = true
part_in n (writes d start size) = leb (start + size) n
part_in n (asks d) = true
part_in n (reads d m) = true

unfoldable pub script_in : ℕ → Script → Bool
script_in n s = leb s.count script_calls && below (λ i. part_in n (s.call i)) s.count

unfoldable pub scripts_in : ℕ → Scripts → Bool
scripts_in n x = leb x.count script_count && below (λ k. script_in n (x.script k)) x.count

-- ---- the dispatcher's progress

-- How a script stands: "that it was granted or which refusal ended it" [R-13.6], or neither yet.
pub data End : Type 0 where
  unfinished : End
  passed : End
  failed : ℕ → End

unfoldable pub goes_on : End → Bool
goes_on unfinished = true
goes_on passed = false
goes_on (failed n) = false

-- The work so far: each script's end, the reader's buffer, "the number of Commit calls made" [R-13.6],
-- whatever they answered, and all calls made.
pub record Work : Type 0 where
  pub ends : ℕ → End
  pub reader : List ℕ
  pub commits : ℕ
  pub made : List Call

abbrev pub nothing_done : List ℕ → Work
nothing_done reader = record { ends = λ k. unfinished; reader = reader; commits = 0; made = [] }

abbrev pub with_end : ℕ → End → Work → Work
with_end k e w = record { ends = put k e w.ends; reader = w.reader; commits = w.commits; made = w.made }

abbrev pub with_reader : List ℕ → Work → Work
with_reader buffer w = record { ends = w.ends; reader = buffer; commits = w.commits; made = w.made }

abbrev pub with_commit : Work → Work
with_commit w = record { ends = w.ends; reader = w.reader; commits = w.commits + 1; made = w.made }

-- One call more.
abbrev pub with_call : Call → Work → Work
with_call c w = record { ends = w.ends; reader = w.reader; commits = w.commits; made = w.made ++ (c ∷ []) }

-- The refusal of a reply; 0 stands for none.
unfoldable pub refusal_in : Said → ℕ
refusal_in a = get_or (refusal_of a) 0

-- "A refusal other than 13 ends a script as failed, aborting it if still open" [R-13.4]: at once, and it is
-- open.
unfoldable pub failing : ℕ → ℕ → Work → Work
failing k n w = with_call (abort k) (with_end k (failed n) w)

-- After a call of script k; n is its refusal.
unfoldable pub or_failing : ℕ → ℕ → Work → Work
or_failing k zero w = w
or_failing k (suc n) w = failing k (suc n) w

-- After its Commit: "13 leaves it for the next round" [R-13.4].
unfoldable pub decided : ℕ → ℕ → Work → Work
decided k zero w = with_end k passed w
decided k (suc n) w = cond (eqb (suc n) (number Stale)) w (failing k (suc n) w)

-- The call that a line of a script makes, with the reader's buffer as it then is; and that buffer after it:
-- "Bytes read go to the front of one reader's buffer, later ones over earlier ones." [R-13.2]
unfoldable pub op_of : List ℕ → List ℕ → ScriptCall → Op
op_of bytes reader (seeks d v) = seek d v
op_of bytes reader (writes d start n) = write d (cut bytes start n)
op_of bytes reader (asks d) = get_file_pointer d
op_of bytes reader (reads d n) = read d n reader

unfoldable pub reader_after : ScriptCall → Reply → List ℕ → List ℕ
reader_after (seeks d v) r reader = reader
reader_after (writes d start n) r reader = reader
reader_after (asks d) r reader = reader
reader_after (reads d n) r reader = r.buffer

-- ---- the rounds

-- What is replied to a call, after the calls made so far, decides which call comes next.
module _ (reply_to : Call → List Call → Reply) (bytes : List ℕ) (minute : ℕ) (x : Scripts) where
  -- "A round begins every unfinished script" [R-13.3]: those below k. "script k, from 0, runs as transaction
  -- k" [R-13.1].
  unfoldable pub begins : ℕ → Work → Work
  begins zero w = w
  begins (suc k) w = let v = begins k w in cond (goes_on (v.ends k)) (with_call (begin k) v) v

  -- A call of script k.
  unfoldable pub perform : ℕ → ScriptCall → Work → Work
  perform k l w =
      let c = on k (op_of bytes w.reader l) in
      let r = reply_to c w.made in
      or_failing k (refusal_in r.answer) (with_reader (reader_after l r w.reader) (with_call c w))

  -- "gives each one call in turn, in script order" [R-13.3]: call i of script k, where it has one and goes
  -- on; of those below k; calls below i.
  unfoldable pub turn : ℕ → ℕ → Work → Work
  turn i k w = cond (goes_on (w.ends k) && ltb i (x.script k).count) (perform k ((x.script k).call i) w) w

  unfoldable pub turns : ℕ → ℕ → Work → Work
  turns i zero w = w
  turns i (suc k) w = turn i k (turns i k w)

  unfoldable pub passes : ℕ → Work → Work
  passes zero w = w
  passes (suc i) w = turns i x.count (passes i w)

  -- "then commits them in that order" [R-13.3]: script k; those below k.
  unfoldable pub commit_one : ℕ → Work → Work
  commit_one k w =
      let c = commit k minute in
      cond (goes_on (w.ends k))
      (decided k (refusal_in (reply_to c w.made).answer) (with_commit (with_call c w))) w

  unfoldable pub commit_all : ℕ → Work → Work
  commit_all zero w = w
  commit_all (suc k) w = commit_one k (commit_all k w)

  -- "until none has a call left" [R-13.3]: none has more than 16.
  unfoldable pub round : Work → Work
  round w = commit_all x.count (passes script_calls (begins x.count w))

  -- Rounds below j. One in which every script is over makes no call.
  unfoldable pub rounds : ℕ → Work → Work
  rounds zero w = w
  rounds (suc j) w = round (rounds j w)

  -- "Every script is over within as many rounds as there are scripts" [R-13.5]: so many are run. Where all
  -- are over before, the rest change nothing.
  unfoldable pub dispatched : List ℕ → Work
  dispatched reader = rounds x.count (nothing_done reader)
