-- Request F-11: "No grant puts a byte into a file that is closed at its minute." [R-11.4]
use Rattle.std.specs.Prelude.{true, false, List, ◌∷◌, ◌≡◌, get_or, ℕ, ◌/◌}
use Rattle.limits.specs.Limits.{file_bytes}
use Rattle.windows.specs.Windows.{is_closed_at}
use Rattle.state.specs.StoreMeaning.{window_at}
use Rattle.state.specs.Outcomes.{granted}
use Rattle.spec.specs.Items.{byte}
use Rattle.spec.specs.Messages.{commit}
use Rattle.spec.specs.Commits.{Setting}
use Rattle.spec.specs.Machine.{Machine}
use Rattle.spec.specs.Calls.{settings_of, call}

-- A setting is among those of a list.
pub data Among (x : Setting) : List Setting → Type 0 where
  first : (ss : List Setting) → Among x (x ∷ ss)
  later : (s : Setting) (ss : List Setting) → Among x ss → Among x (s ∷ ss)

-- Of a granted Commit of t at the minute, on store m: it sets no byte of a closed file (nor to the value that
-- it has already), and the bytes of that file and its length are as before.
pub record Spared (m : Machine) (t minute : ℕ) : Type 0 where
  pub bytes :
      (s : Setting) (q : ℕ) → Among s (settings_of m t) → s.item ≡ byte q
      → is_closed_at (window_at m.store) minute (q / file_bytes) ≡ false
  pub unchanged :
      (q : ℕ) → is_closed_at (window_at m.store) minute (q / file_bytes) ≡ true
      → get_or (call (commit t minute) m).after.files q 0 ≡ get_or m.files q 0
  pub length :
      (f : ℕ) → is_closed_at (window_at m.store) minute f ≡ true
      → get_or (call (commit t minute) m).after.store.lengths f 0 ≡ get_or m.store.lengths f 0

-- Of any state and any buffers: a grant has passed 1 and 2.
abbrev pub ClosedSpared : Type 0
ClosedSpared = (m : Machine) (t minute n : ℕ) → (call (commit t minute) m).reply.answer ≡ granted n
    → Spared m t minute
