-- What is proved of a store that was loaded from an image beyond what it answers: its lengths (F-8) and its
-- undo (F-13). That no grant puts a byte into a closed file (F-11) is proved of any store at all:
-- `ClosedSpared`.
use Rattle.std.specs.Prelude.{List, ◌≡◌, length, ℕ, ◌≤◌}
use Rattle.limits.specs.Limits.{file_bytes, buffer_bytes}
use Rattle.state.specs.Outcomes.{done_answer, granted}
use Rattle.spec.specs.Items.{file_length}
use Rattle.spec.specs.Messages.{Call, commit, undo_commit, grants_among}
use Rattle.spec.specs.Machine.{Machine}
use Rattle.spec.specs.Calls.{call, calls_after, calls_replies}
use Rattle.spec.specs.SerializabilityOfStore.{FreshlyMade}
use Rattle.spec.specs.Age.{rejuvenated}
use Rattle.spec.specs.Lengths.{ZeroBeyond, committed_in}
use Rattle.c_images.specs.ImagesHold.{Life, lives_after}

pub record LoadedStoresHold : Type 0 where
  -- "Bytes between an old end and a write come from the file, and are 0 in every store reached from Fresh",
  -- "Each file gets a committed length, 0 to 4,096" [R-1.1]: after any further calls on a store
  -- that was saved and loaded any number of times.
  pub lengths :
      (numbers : List ℕ) (m₀ : Machine) → FreshlyMade numbers m₀ → (ls : List Life) (cs : List Call)
      → let n = calls_after cs (lives_after ls m₀) in
      ZeroBeyond (committed_in n) × ((f : ℕ) → committed_in n (file_length f) ≤ file_bytes)
  -- "taking back leaves files, offsets and lengths exactly as that grant found them" [R-12.1]: a Commit is
  -- granted, further calls zs lead to the moment of the image; after the loading calls ys lead to an accepted
  -- undo. No Commit is granted among zs and ys.
  pub undo :
      (numbers : List ℕ) (m₀ : Machine) → FreshlyMade numbers m₀
      → (ls : List Life) (xs zs ys : List Call) (t minute n : ℕ) (logs : List ℕ)
      → length logs ≡ buffer_bytes
      → let before = calls_after xs (lives_after ls m₀) in
      let after = (call (commit t minute) before).after in
      let young = rejuvenated (calls_after zs after) logs in
      let m = calls_after ys young in
      (call (commit t minute) before).reply.answer ≡ granted n
      → grants_among (calls_replies zs after) ≡ 0
      → grants_among (calls_replies ys young) ≡ 0
      → (call undo_commit m).reply.answer ≡ done_answer
      → committed_in (call undo_commit m).after ≡ committed_in before
