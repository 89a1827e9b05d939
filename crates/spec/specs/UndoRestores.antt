-- Request F-13: "In every list of demand 3 .. taking back leaves files, offsets and lengths exactly as that
-- grant found them, whatever the windows" [R-12.1].
use Rattle.std.specs.Prelude.{List, [], ◌∷◌, ◌≡◌, ℕ, ◌+◌}
use Rattle.state.specs.Outcomes.{done_answer, granted}
use Rattle.spec.specs.Messages.{Call, commit, undo_commit, grants_among}
use Rattle.spec.specs.Machine.{Machine}
use Rattle.spec.specs.Calls.{call, calls_after, calls_replies}
use Rattle.spec.specs.Recovery.{recovered, ProgramRun, runs_after, Reached}

-- The files, offsets and lengths of the second store are those of the first.
pub record SameCommitted (m n : Machine) : Type 0 where
  pub files : n.files ≡ m.files
  pub offsets : n.store.offsets ≡ m.store.offsets
  pub lengths : n.store.lengths ≡ m.store.lengths

-- How many Commits are granted in runs.
unfoldable pub grants_in_runs : List ProgramRun → Machine → ℕ
grants_in_runs [] m = 0
grants_in_runs (r ∷ rs) m =
    grants_among (calls_replies r.calls m)
    + grants_in_runs rs (recovered r.logs r.marks (calls_after r.calls m))

-- After any calls a Commit is granted; further calls ys, among which no Commit is granted, lead to an
-- accepted undo. The program may go down meanwhile: runs rs without a grant stand before ys.
abbrev pub UndoRestores : Type 0
UndoRestores =
    (before : Machine) → Reached before → (rs : List ProgramRun) (ys : List Call) (t minute n : ℕ)
    → let found = runs_after rs (call (commit t minute) before).after in
    let m = calls_after ys found in
    (call (commit t minute) before).reply.answer ≡ granted n
    → grants_in_runs rs (call (commit t minute) before).after ≡ 0
    → grants_among (calls_replies ys found) ≡ 0
    → (call undo_commit m).reply.answer ≡ done_answer
    → SameCommitted before (call undo_commit m).after
