-- What the calls on images do, as rules of the store: check 2 alone, loading, and what saving writes.
use Rattle.std.specs.Prelude.{cond, List, [], ◌≡◌, ℤ, pos, ℕ}
use Rattle.state.specs.Outcomes.{done_answer}
use Rattle.admission.specs.FirstRefusal.{unless}
use Rattle.admission.specs.Admission.{store_in}
use Rattle.spec.specs.Machine.{Machine}
use Rattle.spec.specs.Calls.{Turn, answer_with, passing}
use Rattle.spec.specs.Promises.{Lent}
use Rattle.images.specs.Words.{word_at}
use Rattle.images.specs.Images.{load_refusal, young_with, image_numbers}

-- Refusal 2 where check 2 fails, and nothing else.
unfoldable pub check_rule : Machine → Turn
check_rule m = passing (unless (store_in m.store m.journal) 2 0) [] m (answer_with done_answer m)

-- The young store of an image, with the logs that lie there; or its refusal.
unfoldable pub load_rule : List ℕ → List ℕ → List ℕ → Machine → Turn
load_rule numbers files undo m =
    passing (load_refusal (word_at numbers)) [] m (answer_with done_answer (young_with (word_at numbers) files undo
    m.logs))

-- The image of a store that passes check 2; where it does not, the image is left.
pub record SavedImage (m : Machine) (numbers files undo : Lent) : Type 0 where
  pub numbers_put : numbers.exit ≡ cond (store_in m.store m.journal) (image_numbers m) numbers.entry
  pub files_put : files.exit ≡ cond (store_in m.store m.journal) m.files files.entry
  pub undo_put : undo.exit ≡ cond (store_in m.store m.journal) m.undo undo.entry

-- The number of the state's layout (LayoutNumber.antt), which `luzhanem_layout` answers.
abbrev pub layout_number : ℤ
layout_number = pos 2
