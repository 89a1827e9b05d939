-- Old bytes of writes that overlap: theorems that the checker computes.
use Rattle.std.specs.Prelude.{List, [], ◌∷◌, map, ◌≡◌}
use Rattle.spec_undo.specs.OldBytes.{Landing, landing, span_of, land_all, old_bytes, restored, Inside}

-- AB at 0, then C at 1, over zeros; and one byte written as 1, then as 4, as in the figure of document 004.
unfoldable pub overlapping : List Landing
overlapping = landing 0 (65 ∷ 66 ∷ []) ∷ landing 1 (67 ∷ []) ∷ []

unfoldable pub twice : List Landing
twice = landing 0 (1 ∷ []) ∷ landing 0 (4 ∷ []) ∷ []

pub record UndoExamples : Type 0 where
  -- They lie inside a buffer of 3 bytes or of 2, not of 1.
  pub inside : Inside 3 (map span_of overlapping) × Inside 2 (map span_of overlapping)
      × (Inside 1 (map span_of overlapping) → ⊥)
  pub files : land_all overlapping (0 ∷ 0 ∷ 0 ∷ []) ≡ 65 ∷ 67 ∷ 0 ∷ []
  pub old : old_bytes overlapping (0 ∷ 0 ∷ 0 ∷ []) ≡ 0 ∷ 0 ∷ 66 ∷ []
  pub back : restored (map span_of overlapping) (0 ∷ 0 ∷ 66 ∷ 9 ∷ []) (65 ∷ 67 ∷ 0 ∷ []) ≡ 0 ∷ 0 ∷ 0 ∷ []
  pub values : old_bytes twice (0 ∷ []) ≡ 0 ∷ 1 ∷ []
