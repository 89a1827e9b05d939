-- What is proved of images.
use Rattle.std.specs.Prelude.{true, List, [], ◌∷◌, ◌++◌, ◌≡◌, get_or, length, ℕ, ◌<◌}
use Rattle.limits.specs.Limits.{buffer_bytes}
use Rattle.admission.specs.Admission.{store_in}
use Rattle.spec.specs.Messages.{Call}
use Rattle.spec.specs.Machine.{Machine}
use Rattle.spec.specs.Calls.{calls_after}
use Rattle.spec.specs.Promises.{machine_of}
use Rattle.spec.specs.SerializabilityOfStore.{FreshlyMade}
use Rattle.spec.specs.Recovery.{ProgramRun, recovered, abort_all}
use Rattle.spec.specs.Age.{rejuvenated, Alike}
use Rattle.images.specs.Words.{word_at}
use Rattle.images.specs.Images.{load_refusal, image_numbers, young_with}
use Rattle.c_images.specs.ImageCalls.{load_rule}

-- A life of a store: its calls up to the moment at which it was saved, whatever was open, and how the next
-- life begins. Either the state was saved with every transaction ended, or an image, which is loaded into
-- another store; that may hold anything.
pub data Life : Type 0 where
  by_state : ProgramRun → Life
  by_image : (cs : List Call) (into : Machine) → length into.logs ≡ buffer_bytes → Life

-- The store with which the next life begins.
unfoldable pub after_life : Life → Machine → Machine
after_life (by_state r) m = recovered r.logs r.marks (calls_after r.calls m)
after_life (by_image cs into size) m =
    let k = calls_after cs m in (load_rule (image_numbers k) k.files k.undo into).after

unfoldable pub lives_after : List Life → Machine → Machine
lives_after [] m = m
lives_after (l ∷ ls) m = lives_after ls (after_life l m)

-- The calls of one that never goes down: at the end of each life every transaction is aborted.
unfoldable pub calls_of_life : Life → List Call
calls_of_life (by_state r) = r.calls
calls_of_life (by_image cs into size) = cs

unfoldable pub calls_of_lives : List Life → List Call
calls_of_lives [] = []
calls_of_lives (l ∷ ls) = calls_of_life l ++ (abort_all ++ calls_of_lives ls)

pub record ImagesHold : Type 0 where
  -- The image of a store that passes check 2 is not refused, and what is loaded from it is the young store
  -- with the same committed values and the same grant to undo.
  pub rejuvenates :
      (state files logs marks undo new_logs : List ℕ)
      → let m = machine_of state files logs marks undo in store_in m.store m.journal ≡ true
      → (load_refusal (word_at (image_numbers m)) ≡ 0)
      × (young_with (word_at (image_numbers m)) files undo new_logs ≡ rejuvenated m new_logs)
  -- The numbers of the image of what was loaded are those that were loaded.
  pub back :
      (numbers files undo logs : List ℕ) → length numbers ≡ 552 → ((i : ℕ) → get_or numbers i 0 < 256)
      → load_refusal (word_at numbers) ≡ 0
      → image_numbers (young_with (word_at numbers) files undo logs) ≡ numbers
  -- However often a store is saved and loaded, it passes check 2 at every moment, so that saving it again is
  -- not refused.
  pub saves :
      (numbers : List ℕ) (m₀ : Machine) → FreshlyMade numbers m₀ → (ls : List Life) (cs : List Call)
      → let m = calls_after cs (lives_after ls m₀) in store_in m.store m.journal ≡ true
  -- However often it was saved, at any moment, whatever was open, and loaded, it answers every further list
  -- of calls as one that never went down, on which every transaction was aborted at each such moment instead.
  pub goes_on :
      (numbers : List ℕ) (m₀ : Machine) → FreshlyMade numbers m₀ → (ls : List Life) (cs : List Call)
      → Alike cs (calls_after (calls_of_lives ls) m₀) (lives_after ls m₀)
