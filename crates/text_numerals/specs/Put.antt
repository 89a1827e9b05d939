-- A text in a lent buffer.
use Rattle.std.specs.Prelude.{List, ◌≡◌, length, ℕ, ◌+◌}
use Rattle.buffers.specs.Parts.{pasted}

-- The text was put into a buffer at a place, the rest of the buffer left, and next is the place after it.
pub record Put (before : List ℕ) (at : ℕ) (text after : List ℕ) (next : ℕ) : Type 0 where
  pub bytes : after ≡ pasted before at text
  pub end : next ≡ at + length text
