-- The lines of a trace. Paper 02, F-5: "A line ends at the byte 10, the last one also at the end of the
-- input, where an empty rest is no line." [R-19.3]
use Rattle.std.specs.Prelude.{◌≡◌, cond, List, [], ◌∷◌, ◌++◌, map, eqb, take, ℕ, suc}

-- The line that a byte of the input ends, if it does, and what is pending of the current line after the byte.
unfoldable pub ended_line : ℕ → List ℕ → List (List ℕ)
ended_line x pending = cond (eqb x 10) (pending ∷ []) []

unfoldable pub grown : ℕ → List ℕ → List ℕ
grown x pending = cond (eqb x 10) [] (pending ++ (x ∷ []))

-- "the last one also at the end of the input, where an empty rest is no line" [R-19.3]
unfoldable pub last_line : List ℕ → List (List ℕ)
last_line [] = []
last_line (x ∷ xs) = (x ∷ xs) ∷ []

unfoldable pub lines_from : List ℕ → List ℕ → List (List ℕ)
lines_from pending [] = last_line pending
lines_from pending (x ∷ xs) = ended_line x pending ++ lines_from (grown x pending) xs

-- The lines of the whole input.
unfoldable pub lines_of : List ℕ → List (List ℕ)
lines_of input = lines_from [] input

-- ---- input that comes in pieces

-- A line that may have `most` bytes, truncated: one byte more, which shows that it is "longer .. without its
-- line end" [R-19.5].
unfoldable pub truncated : ℕ → List ℕ → List ℕ
truncated most line = take (suc most) line

-- The lines that end in a piece, and what is pending after it, where `pending` is what came before of the
-- current line.
unfoldable pub completed_in : ℕ → List ℕ → List ℕ → List (List ℕ)
completed_in most pending [] = []
completed_in most pending (x ∷ xs) = ended_line x pending ++ completed_in most
    (truncated most (grown x pending)) xs

unfoldable pub pending_after : ℕ → List ℕ → List ℕ → List ℕ
pending_after most pending [] = pending
pending_after most pending (x ∷ xs) = pending_after most (truncated most (grown x pending)) xs

-- The lines of all pieces.
unfoldable pub from_pieces : ℕ → List ℕ → List (List ℕ) → List (List ℕ)
from_pieces most pending [] = last_line pending
from_pieces most pending (piece ∷ pieces) = completed_in most pending piece
    ++ from_pieces most (pending_after most pending piece) pieces

unfoldable pub joined_pieces : List (List ℕ) → List ℕ
joined_pieces [] = []
joined_pieces (piece ∷ pieces) = piece ++ joined_pieces pieces

-- Proved in proofs/Pieces.antt: wherever the input is cut, the lines are those of the whole.
abbrev pub PiecesAreTheWhole : Type 0
PiecesAreTheWhole = (most : ℕ) (pieces : List (List ℕ)) → from_pieces most [] pieces
    ≡ map (truncated most) (lines_of (joined_pieces pieces))
