-- Edge cases of F-10's text on the reference model, from Fresh: what the dispatcher gives.
use Rattle.std.specs.Prelude.{List, [], ◌∷◌, ◌++◌, ◌≡◌, length, get_or, replicate, ℕ, ◌*◌}
use Rattle.buffers.specs.Parts.{tabulate}
use Rattle.state.specs.Outcomes.{done_answer}
use Rattle.spec.specs.Messages.{Call, begin, set_window, undo_commit, says}
use Rattle.spec.specs.Plain.{plain_call, plain_after}
use Rattle.spec.specs.Setup.{fresh_numbered, beginning, A, B, C, dot}
use Rattle.spec_dispatch.specs.Rounds.{ScriptCall, seeks, writes, asks, reads, Script, Scripts, End}
use Rattle.spec_dispatch.specs.Rounds.{unfinished, passed, failed}
use Rattle.spec_dispatch.specs.Dispatch.{plain_dispatch}

-- Scripts from lists of calls.
unfoldable pub script_of : List ScriptCall → Script
script_of cs = record { count = length cs; call = λ i. get_or cs i (asks 0) }

unfoldable pub script_list : List (List ScriptCall) → Scripts
script_list xs = record { count = length xs; script = λ k. script_of (get_or xs k []) }

-- What it gives: the refusal, the scripts' ends, the number of Commit calls, the reader's buffer.
pub record GivesEnds : Type 0 where
  pub refusal : ℕ
  pub ends : List End
  pub commits : ℕ
  pub reader : List ℕ

abbrev pub gives_ends : ℕ → List End → ℕ → List ℕ → GivesEnds
gives_ends n es c reader = record { refusal = n; ends = es; commits = c; reader = reader }

-- After these calls, with the bytes A, B, C and a reader's buffer of three dots, at a minute.
unfoldable pub bytes : List ℕ
bytes = A ∷ B ∷ C ∷ []

unfoldable pub reader : List ℕ
reader = dot ∷ dot ∷ dot ∷ []

unfoldable pub expected : List Call → ℕ → List (List ScriptCall) → GivesEnds
expected cs minute xs =
    let r = plain_dispatch bytes minute (script_list xs) (plain_after cs fresh_numbered) reader in
    let ends = tabulate r.ends (length xs) in
    record { refusal = r.refusal; ends = ends; commits = r.commits; reader = r.reader }

-- The first n bytes of file 0 after it.
unfoldable pub bytes_left : List (List ScriptCall) → ℕ → List ℕ
bytes_left xs n = beginning (plain_dispatch bytes 0 (script_list xs) fresh_numbered
    reader).after.committed.value 0 n

-- Asks for the pointer of descriptor 0, and writes byte i of the three there.
unfoldable pub appends : ℕ → List ScriptCall
appends i = asks 0 ∷ writes 0 i 1 ∷ []

-- Writes a byte of the file through descriptor 0, as it lies.
unfoldable pub adds : List ScriptCall
adds = writes 0 0 1 ∷ []

-- Writes byte i of the three at the front of the file of descriptor i, and reads it.
unfoldable pub reads_own : ℕ → List ScriptCall
reads_own i = seeks i 0 ∷ writes i i 1 ∷ seeks i 0 ∷ reads i 1 ∷ []

pub record DispatchEdgeCases : Type 0 where
  -- "Every script is over within as many rounds as there are scripts" [R-13.5]: n scripts that all read what
  -- each sets take n rounds.
  pub one : expected [] 0 (appends 0 ∷ []) ≡ gives_ends 0 (passed ∷ []) 1 reader
  pub two : expected [] 0 (appends 0 ∷ appends 1 ∷ []) ≡ gives_ends 0 (passed ∷ passed ∷ []) 3 reader
  pub three : expected [] 0 (appends 0 ∷ appends 1 ∷ appends 2 ∷ [])
      ≡ gives_ends 0 (passed ∷ passed ∷ passed ∷ []) 6 reader
  -- "so at most 36 commits for eight" [R-13.5]: as many, where they are eight such.
  pub most_commits : expected [] 0 (replicate 8 (appends 0)) ≡ gives_ends 0 (replicate 8 passed) 36 reader
  -- "in grant order" [R-13.7]
  pub in_order : bytes_left (appends 0 ∷ appends 1 ∷ appends 2 ∷ []) 4 ≡ A ∷ B ∷ C ∷ 0 ∷ []
  -- No scripts: no round. A script without calls commits.
  pub no_script : expected [] 0 [] ≡ gives_ends 0 [] 0 reader
  pub no_call : expected [] 0 ([] ∷ []) ≡ gives_ends 0 (passed ∷ []) 1 reader
  -- "A refusal other than 13 ends a script as failed" [R-13.4]: 6, 8 and 7 of a call; the others go on.
  pub failing :
      expected [] 0 ((asks 16 ∷ []) ∷ (seeks 0 4097 ∷ []) ∷ (reads 0 4 ∷ []) ∷ appends 0 ∷ [])
      ≡ gives_ends 0 (failed 6 ∷ failed 8 ∷ failed 7 ∷ passed ∷ []) 1 reader
  -- .. "aborting it if still open" [R-13.4]: its write does not land.
  pub aborted : bytes_left ((writes 0 1 1 ∷ asks 16 ∷ []) ∷ appends 0 ∷ []) 2 ≡ A ∷ 0 ∷ []
  -- "aborting it if still open" [R-13.4]: after a script that fails nothing is open, and the last grant can
  -- be undone.
  pub nothing_open :
      let x = script_list ((asks 16 ∷ []) ∷ appends 0 ∷ []) in
      let p = (plain_dispatch bytes 0 x fresh_numbered reader).after in
      (plain_call undo_commit p).reply ≡ says done_answer
  -- At Commit: 12, by the offset that the first one set.
  pub at_commit : expected [] 0 ((seeks 0 4096 ∷ []) ∷ adds ∷ [])
      ≡ gives_ends 0 (passed ∷ failed 12 ∷ []) 2 reader
  -- F-11: 21 for a closed file; "22 when a minute is above 1,439, .. also in each of the dispatcher's"
  -- [R-16.1].
  pub closed : expected (set_window 0 10 20 ∷ []) 0 (adds ∷ [] ∷ [])
      ≡ gives_ends 0 (failed 21 ∷ passed ∷ []) 2 reader
  pub bad_minute : expected [] 1440 (adds ∷ [] ∷ []) ≡ gives_ends 0 (failed 22 ∷ failed 22 ∷ []) 2 reader
  -- One that fails in the second round: it has no place for its byte any more.
  pub second_round : expected [] 0 ((seeks 0 4096 ∷ []) ∷ appends 0 ∷ [])
      ≡ gives_ends 0 (passed ∷ failed 9 ∷ []) 2 reader
  -- "Bytes read go to the front of one reader's buffer, later ones over earlier ones" [R-13.2]; a refused
  -- Read leaves it.
  pub later :
      expected [] 0 ((writes 0 0 3 ∷ seeks 0 0 ∷ reads 0 2 ∷ seeks 0 2 ∷ reads 0 1 ∷ reads 0 4 ∷ []) ∷ [])
      ≡ gives_ends 0 (failed 7 ∷ []) 0 (C ∷ B ∷ dot ∷ [])
  -- "gives each one call in turn, in script order" [R-13.3]: of two Reads in one turn the second script's
  -- comes later; and one in a later turn comes later, though its script comes first.
  pub same_turn : expected [] 0 (reads_own 0 ∷ reads_own 1 ∷ [])
      ≡ gives_ends 0 (passed ∷ passed ∷ []) 2 (B ∷ dot ∷ dot ∷ [])
  pub later_turn : expected [] 0 ((seeks 0 9 ∷ reads_own 0) ∷ reads_own 1 ∷ [])
      ≡ gives_ends 0 (passed ∷ passed ∷ []) 2 (A ∷ dot ∷ dot ∷ [])
  -- "19 when a transaction is open at the start" [R-16.1], before 20.
  pub opened : expected (begin 7 ∷ []) 0 ((writes 0 4 0 ∷ []) ∷ []) ≡ gives_ends 19 (unfinished ∷ []) 0 reader
  -- "20 when there are more than 8 scripts" [R-16.1]: eight pass, nine do not, whatever stands in them.
  pub eight : expected [] 0 (replicate 8 []) ≡ gives_ends 0 (replicate 8 passed) 8 reader
  pub nine : expected [] 0 (replicate 9 []) ≡ gives_ends 20 (replicate 9 unfinished) 0 reader
  -- "one is over 16 calls" [R-16.1]: sixteen pass, and the sixteenth is given.
  pub sixteen : expected [] 0 ((replicate 15 (seeks 0 0) ++ (asks 16 ∷ [])) ∷ [])
      ≡ gives_ends 0 (failed 6 ∷ []) 0 reader
  pub seventeen : expected [] 0 ([] ∷ replicate 17 (seeks 0 0) ∷ [])
      ≡ gives_ends 20 (unfinished ∷ unfinished ∷ []) 0 reader
  -- "or a Write's part runs past the data buffer" [R-16.1], of 0 bytes too, in a call that would never be
  -- reached.
  pub part : expected [] 0 ((writes 0 1 2 ∷ writes 0 3 0 ∷ []) ∷ []) ≡ gives_ends 0 (passed ∷ []) 1 reader
  pub past : expected [] 0 ((writes 0 2 2 ∷ []) ∷ []) ≡ gives_ends 20 (unfinished ∷ []) 0 reader
  pub past_empty : expected [] 0 ((asks 16 ∷ writes 0 4 0 ∷ []) ∷ []) ≡ gives_ends 20 (unfinished ∷ []) 0 reader
  -- Neither a call beyond a script's count nor a script beyond the number of scripts is read: here calls that
  -- would not pass 20, in scripts that would not either.
  pub beyond :
      let s : ℕ → Script = λ k. record { count = 17 * k; call = λ i. writes 0 4 0 } in
      let x : Scripts = record { count = 1; script = s } in
      let r = plain_dispatch bytes 0 x fresh_numbered reader in
      (r.refusal ≡ 0) × (r.ends 0 ≡ passed) × (r.commits ≡ 1)
  -- F-13: the grant that is undone is its last one.
  pub undoes_last :
      let p = (plain_dispatch bytes 0 (script_list (appends 0 ∷ appends 1 ∷ [])) fresh_numbered reader).after in
      ((plain_call undo_commit p).reply ≡ says done_answer)
      × (beginning (plain_call undo_commit p).after.committed.value 0 2 ≡ A ∷ 0 ∷ [])
