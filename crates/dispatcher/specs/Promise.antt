-- The promise of the dispatcher.
use Rattle.std.specs.Prelude.{List, ◌≡◌, ℕ, zero, suc, ◌+◌, ◌*◌, ◌≤◌, ◌<◌}
use Rattle.limits.specs.Limits.{script_count}
use Rattle.state.specs.Outcomes.{Said, done_answer, refused, said}
use Rattle.spec.specs.Machine.{Machine}
use Rattle.spec.specs.Promises.{Lent, handed, handed_back, LeftAsFound}
use Rattle.spec_dispatch.specs.Rounds.{Scripts}
use Rattle.spec_dispatch.specs.Dispatch.{Dispatched as Given, dispatch}
use Rattle.dispatcher.specs.declared.ends.Dispatched.{Dispatched}
use Rattle.dispatcher.specs.Types.{end_at}

-- Its outcome: done, or a refusal.
unfoldable pub said_of : ℕ → Said
said_of zero = done_answer
said_of (suc n) = refused (suc n)

-- The answer, the machine and the reader's buffer at exit are those of d; "counted commits in the
-- dispatcher's result equal the rounds' definition and stay at most n(n+1)/2" [R-13.5], for n scripts.
pub record GivesDispatch (d : Given Machine) (n : ℕ) (a : Dispatched) (m : Machine) (buffer : List ℕ) : Type
    0 where
  pub outcome : said a.outcome ≡ said_of d.refusal
  pub ends : (k : ℕ) → k < script_count → end_at a.ends k ≡ d.ends k
  pub commits : a.commits ≡ d.commits
  pub few : 2 * a.commits ≤ n * (n + 1)
  pub machine : m ≡ d.after
  pub reader : buffer ≡ d.reader

-- The promise of the dispatcher, with these bytes, at this minute; and a refusal leaves the state number by
-- number.
abbrev pub RunsScripts : List ℕ → ℕ → Scripts → Lent → Lent → Lent → Lent → Lent → Dispatched → Lent → Type 0
RunsScripts bytes minute x state files logs marks undo a reader =
    GivesDispatch (dispatch bytes minute x (handed state files logs marks undo) reader.entry)
    x.count a
    (handed_back state files logs marks undo) reader.exit
    × LeftAsFound a.outcome state.entry state.exit
