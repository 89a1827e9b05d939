-- Inputs and their lines; 65 to 67 are letters.
use Rattle.std.specs.Prelude.{[], ◌∷◌, ◌≡◌}
use Rattle.text_lines.specs.Lines.{lines_of, from_pieces}

pub record LineExamples : Type 0 where
  -- No input, no line; a byte 10 alone ends an empty line; the last line without a byte 10, and with one.
  pub ends :
      (lines_of [] ≡ []) × (lines_of (10 ∷ []) ≡ [] ∷ [])
      × (lines_of (65 ∷ 10 ∷ 66 ∷ []) ≡ (65 ∷ []) ∷ (66 ∷ []) ∷ [])
      × (lines_of (65 ∷ 10 ∷ 66 ∷ 10 ∷ []) ≡ (65 ∷ []) ∷ (66 ∷ []) ∷ [])
  -- A line end inside a piece, and a line over two pieces.
  pub pieces : from_pieces 128 [] ((65 ∷ 10 ∷ 66 ∷ []) ∷ (67 ∷ 10 ∷ []) ∷ []) ≡ (65 ∷ []) ∷ (66 ∷ 67 ∷ []) ∷ []
