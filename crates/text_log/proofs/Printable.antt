-- Laws of printable bytes.
use Rattle.std.proofs.Common.{Bool, true, false, List, [], ◌∷◌, ◌≡◌, refl, sym, ℕ, zero, suc, ◌≤◌, ◌<◌, length, get_or, arith}
use borrow.Author.Tests.{le-leb, leb-true}
use Rattle.admission.proofs.Laws.{and_left, and_right}
use Rattle.text_log.specs.LogLines.{printable}

-- Each byte lies between a space and a tilde.
abbrev Shown : List ℕ → Type 0
Shown l = (k : ℕ) → k < length l → (32 ≤ get_or l k 0) × (get_or l k 0 ≤ 126)

printable-all : (l : List ℕ) → Shown l → printable l ≡ true
unfolding printable
printable-all [] h = refl
printable-all (b ∷ l) h = let z = h 0 (omega arith) in
    rw (le-leb 32 b z.0, le-leb b 126 z.1) (printable-all l (λ k m. h (suc k) (omega arith)))

shown : (l : List ℕ) → printable l ≡ true → Shown l
unfolding printable
shown [] e k h = absurd (omega arith)
shown (b ∷ l) e zero h = (leb-true 32 b (and_left _ _ (and_left _ _ e)), leb-true b 126 (and_right _ _ (and_left _ _ e)))
shown (b ∷ l) e (suc k) h = shown l (and_right _ _ e) k (omega arith)

pub printable-is : (r : Bool) (l : List ℕ) → (r ≡ true → Shown l) → (Shown l → r ≡ true) → r ≡ printable l
printable-is true l f g = sym (printable-all l (f refl))
printable-is false l f g = pick (printable l) (shown l)
  where
    pick : (t : Bool) → (t ≡ true → Shown l) → false ≡ t
    pick false h = refl
    pick true h = g (h refl)
