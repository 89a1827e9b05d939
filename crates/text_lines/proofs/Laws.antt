-- Laws of one scan for a line end. Assumes nothing.
use mathlib.Core.{Path.{◌≡◌, refl, sym, ap, ◌∙◌}, Bool.{Bool, true, false, cond}, List.{List, [], ◌∷◌, ◌++◌}}
use lib.{Dec.{eqb, ltb}, ListN.{length, take, drop, get_or, set, length-append}}
use lib.Seq.{take_all, take-append-le, take-suc-set, drop-cons, length-take-le}
use native.Mathlib.{Numerals.add-one, Omega.arith}
use borrow.Author.Tests.{eq-eqb, ne_eqb, lt-ltb}
use Prim.Native.Nat.{ℕ, suc, ◌+◌, ◌≤◌, ◌<◌}
use Rattle.text_lines.specs.{Lines.{ended_line, grown, last_line, truncated, completed_in, pending_after}, Scans.NextLine}

-- the same lines are found, and the same is pending, from two places on
abbrev pub Same : ℕ → List ℕ → List ℕ → List ℕ → List ℕ → Type 0
Same m pending piece pending' piece' = (completed_in m pending piece ≡ completed_in m pending' piece')
    × (pending_after m pending piece ≡ pending_after m pending' piece')

-- a piece from i on has the byte there and then the rest
from_byte : (p : List ℕ) (i : ℕ) → i < length p → drop i p ≡ get_or p i 0 ∷ drop (i + 1) p
from_byte p i h = drop-cons p i 0 h ∙ ap (λ (k : ℕ). get_or p i 0 ∷ drop k p) (sym (add-one i))

-- what a byte does, by whether it ends a line
step : (m : ℕ) (t : Bool) (pending p : List ℕ) (i : ℕ) → i < length p → eqb (get_or p i 0) 10 ≡ t
    → (completed_in m pending (drop i p) ≡ cond t (pending ∷ []) [] ++ completed_in m
    (truncated m (cond t [] (pending ++ (get_or p i 0 ∷ [])))) (drop (i + 1) p)) × (pending_after m pending
    (drop i p) ≡ pending_after m (truncated m (cond t [] (pending ++ (get_or p i 0 ∷ [])))) (drop (i + 1) p))
unfolding completed_in pending_after ended_line grown
step m t pending p i h e = let x = get_or p i 0 in let xs = drop (i + 1) p in (
  ap (completed_in m pending) (from_byte p i h)
      ∙ ap (λ (u : Bool). cond u (pending ∷ []) [] ++ completed_in m (truncated m (cond u [] (pending ++ (x ∷ [])))) xs) e,
  ap (pending_after m pending) (from_byte p i h)
      ∙ ap (λ (u : Bool). pending_after m (truncated m (cond u [] (pending ++ (x ∷ [])))) xs) e,
)

pub scan-passed : (m : ℕ) (pending p : List ℕ) (i : ℕ) → i < length p → (get_or p i 0 ≡ 10 → ⊥)
    → Same m pending (drop i p) (truncated m (pending ++ (get_or p i 0 ∷ []))) (drop (i + 1) p)
scan-passed m pending p i h other = step m false pending p i h (ne_eqb (get_or p i 0) 10 other)

pub scan-stopped : (m : ℕ) (pending p : List ℕ) (i : ℕ) → i < length p → get_or p i 0 ≡ 10
    → NextLine m true pending (drop i p) pending (drop (i + 1) p)
scan-stopped m pending p i h same = unfold NextLine truncated in step m true pending p i h (eq-eqb (get_or p i 0) 10 same)

-- a byte joins what is pending, or is let go
module _ (line : List ℕ) (n x : ℕ) (m : ℕ) (l : length line ≡ suc m) where
  pub joins : n < length line → truncated m (take n line ++ (x ∷ [])) ≡ take (n + 1) (set line n x)
  unfolding truncated
  joins h = let e = length-take-le n line (omega arith) in let k = length-append (take n line) (x ∷ []) in
      take_all (suc m) (take n line ++ (x ∷ [])) (omega arith)
      ∙ sym (ap (λ (k : ℕ). take k (set line n x)) (add-one n) ∙ take-suc-set line n x (omega arith))

  pub let_go : n ≤ length line → length line ≤ n → truncated m (take n line ++ (x ∷ [])) ≡ take n line
  let_go h g = unfold truncated in let k = length-take-le n line (omega arith) in
      take-append-le (suc m) (take n line) (x ∷ []) (omega arith) ∙ take_all (suc m) (take n line) (omega arith)

-- the rest at the end of the input
pub last-is : (l : List ℕ) → last_line l ≡ cond (ltb 0 (length l)) (l ∷ []) []
unfolding last_line
last-is [] = refl
last-is (x ∷ l) = rw (lt-ltb 0 (length (x ∷ l)) (omega arith))
