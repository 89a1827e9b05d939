-- Request F-13, "Taking back the last grant" [R-12.1]: the bytes that writes overwrite in a buffer, and how
-- they are restored.
use Rattle.std.specs.Prelude.{List, [], ◌∷◌, ◌++◌, map, ◌≡◌, length, take, drop, ℕ, ◌+◌, ◌≤◌}
use Rattle.buffers.specs.Parts.{cut, pasted}

-- A write as it lands in a buffer: at which place, and its bytes.
pub record Landing : Type 0 where
  pub at : ℕ
  pub bytes : List ℕ

abbrev pub landing : ℕ → List ℕ → Landing
landing at bytes = record { at = at; bytes = bytes }

-- The span of the buffer on which it lands: where that starts, and how many bytes it has.
pub record Span : Type 0 where
  pub at : ℕ
  pub length : ℕ

abbrev pub span_of : Landing → Span
span_of w = record { at = w.at; length = length w.bytes }

-- The buffer after the writes have landed, one after the other.
unfoldable pub land_all : List Landing → List ℕ → List ℕ
land_all [] buffer = buffer
land_all (w ∷ ws) buffer = land_all ws (pasted buffer w.at w.bytes)

-- "The old bytes, for each write those it landed on, lie from the buffer's front in the order in which the
-- writes landed" [R-12.2]: of a write that lies over an earlier one of the same grant they are that one's
-- bytes.
unfoldable pub old_bytes : List Landing → List ℕ → List ℕ
old_bytes [] buffer = []
old_bytes (w ∷ ws) buffer =
    cut buffer w.at (length w.bytes) ++ old_bytes ws (pasted buffer w.at w.bytes)

-- "and go back from the last write to the first" [R-12.2]: the old bytes of the first stand in front, and go
-- back after all others.
unfoldable pub restored : List Span → List ℕ → List ℕ → List ℕ
restored [] old buffer = buffer
restored (s ∷ ss) old buffer =
    pasted (restored ss (drop s.length old) buffer) s.at (take s.length old)

-- Every span lies inside a buffer of n bytes.
abbrev pub Inside : ℕ → List Span → Type 0
Inside n [] = Unit {0}
Inside n (s ∷ ss) = (s.at + s.length ≤ n) × Inside n ss

-- "taking back leaves files .. exactly as that grant found them" [R-12.1], whatever stands behind the old
-- bytes.
abbrev pub RestoresBytes : Type 0
RestoresBytes =
    (ws : List Landing) (buffer rest : List ℕ) → Inside (length buffer) (map span_of ws)
    → restored (map span_of ws) (old_bytes ws buffer ++ rest) (land_all ws buffer) ≡ buffer
