-- What an image says. Its numbers, counted from 0 (docs/IMAGE.md):
--     0      the format: 1
--     1      the file of each of the sixteen descriptors
--     17     their committed offsets
--     33     the committed lengths of the eight files
--     41     the starts of their windows
--     49     the ends of their windows
--     57     whether the last grant can be undone (1 or 0), its write records, its bytes
--     60     the offsets that it found
--     76     the lengths that it found
--     84     the descriptors of its 64 write records, with 16 added where one has no place
--     148    their places
--     212    their lengths; all three are 0 past the records that it has
use Rattle.std.specs.Prelude.{Bool, ◌&&◌, ◌||◌, List, ltb, leb, eqb, replicate, ℕ, ◌+◌}
use Rattle.buffers.specs.Parts.{tabulate}
use Rattle.buffers.specs.Below.{below}
use Rattle.windows.specs.Windows.{window}
use Rattle.state.specs.declared.Undo.{Undo}
use Rattle.state.specs.declared.StoreMeaning.{StoreMeaning}
use Rattle.state.specs.declared.journal.WriteRecord.{WriteRecord}
use Rattle.state.specs.StoreMeaning.{ended}
use Rattle.state.specs.Layout.{is_set}
use Rattle.state.specs.Journal.{decoded, last_grant, with_records}
use Rattle.admission.specs.FirstRefusal.{unless}
use Rattle.admission.specs.Admission.{store_in}
use Rattle.spec.specs.Machine.{Machine, lent}

-- ---- loaded: what the numbers w 0, w 1, .. say

unfoldable pub record_from : (ℕ → ℕ) → ℕ → WriteRecord
record_from w k = decoded (w (84 + k)) (w (148 + k)) (w (212 + k))

unfoldable pub undo_from : (ℕ → ℕ) → Undo
undo_from w =
    record {
      valid = is_set (w 57);
      used = record { records = w 58; bytes = w 59 };
      offsets = tabulate (λ d. w (60 + d)) 16;
      lengths = tabulate (λ f. w (76 + f)) 8;
    }

-- Every transaction has ended.
unfoldable pub store_from : (ℕ → ℕ) → StoreMeaning
store_from w =
    record {
      filenumbers = tabulate (λ d. w (1 + d)) 16;
      offsets = tabulate (λ d. w (17 + d)) 16;
      lengths = tabulate (λ f. w (33 + f)) 8;
      windows = tabulate (λ f. window (w (41 + f)) (w (49 + f))) 8;
      undo = undo_from w;
      transactions = replicate 8 ended;
    }

unfoldable pub journal_from : (ℕ → ℕ) → List ℕ
journal_from w = with_records (replicate 1728 0) last_grant (record_from w) (w 58)

-- ---- ranges

-- No number of record k says anything.
unfoldable pub blank_record : (ℕ → ℕ) → ℕ → Bool
blank_record w k = eqb (w (84 + k)) 0 && (eqb (w (148 + k)) 0 && eqb (w (212 + k)) 0)

-- The flag is 0 or 1, and past the records that the grant has nothing is said: then no two images say the
-- same.
unfoldable pub canonical : (ℕ → ℕ) → Bool
canonical w = leb (w 57) 1 && below (λ k. ltb k (w 58) || blank_record w k) 64

-- The refusal of an image: 1 another format, 2 out of its ranges, 0 none.
unfoldable pub load_refusal : (ℕ → ℕ) → ℕ
load_refusal w =
    unless (eqb (w 0) 1) 1 (unless (canonical w) 2 (unless (store_in (store_from w) (journal_from w)) 2 0))

-- ---- whole

-- The young store with what numbers w, files and old bytes of an image say, and with these logs: no mark is
-- set.
unfoldable pub young_with : (ℕ → ℕ) → List ℕ → List ℕ → List ℕ → Machine
young_with w files undo logs = lent (store_from w) (journal_from w) files logs (replicate 32768 0) undo
