-- What the code promises of a scan for the next line end.
use Rattle.std.specs.Prelude.{Bool, true, false, List, [], ◌∷◌, ◌≡◌, ℕ, suc, ◌≤◌, ◌<◌}
use Rattle.text_lines.specs.declared.Scan.{Scan}
use Rattle.text_lines.specs.Lines.{completed_in, pending_after}

-- What a scan for the next line end finds in a piece: the line that ends first, and the rest of the piece; or
-- that no line ends in it, and what is pending then.
unfoldable pub NextLine : ℕ → Bool → List ℕ → List ℕ → List ℕ → List ℕ → Type 0
NextLine most true pending piece line rest =
    (completed_in most pending piece ≡ line ∷ completed_in most [] rest)
    × (pending_after most pending piece ≡ pending_after most [] rest)
NextLine most false pending piece line rest = (completed_in most pending piece ≡ [])
    × (pending_after most pending piece ≡ line)

-- Where a scan from `from` on ends in a piece of that size: past the line end that it found, or at the end of
-- the piece. At most one byte more is pending than a line may have.
pub record Went (most : ℕ) (r : Scan) (from size : ℕ) : Type 0 where
  pub within : r.pending ≤ suc most
  pub onward : from ≤ r.at
  pub inside : r.at ≤ size
  pub past : r.complete ≡ true → from < r.at
  pub whole : r.complete ≡ false → r.at ≡ size
