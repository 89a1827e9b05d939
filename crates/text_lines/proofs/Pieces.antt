-- Wherever the input is cut, the lines are those of the whole. Assumes nothing.
use mathlib.Core.{Path.{◌≡◌, refl, sym, ap, ap₂, ◌∙◌}, Bool.{Bool, true, false, cond}}
use mathlib.Core.List.{List, [], ◌∷◌, ◌++◌, map, append_assoc}
use lib.{Dec.eqb, ListN.take}
use Prim.Native.Nat.{ℕ, zero, suc}
use Rattle.text_lines.specs.Lines.{ended_line, grown, last_line, lines_from, lines_of, truncated, completed_in, pending_after}
use Rattle.text_lines.specs.Lines.{from_pieces, joined_pieces, PiecesAreTheWhole}

-- ---- two pieces, one after the other

ended-append : (m : ℕ) (pending p q : List ℕ) → completed_in m pending (p ++ q) ≡ completed_in m pending p
    ++ completed_in m (pending_after m pending p) q
unfolding completed_in pending_after
ended-append m pending [] q = refl
ended-append m pending (x ∷ p) q = let next = truncated m (grown x pending) in
    ap (λ (l : List (List ℕ)). ended_line x pending ++ l) (ended-append m next p q)
    ∙ sym (append_assoc (ended_line x pending) (completed_in m next p) (completed_in m (pending_after m next p) q))

pending-append : (m : ℕ) (pending p q : List ℕ) → pending_after m pending (p ++ q) ≡ pending_after m (pending_after m pending p) q
unfolding pending_after
pending-append m pending [] q = refl
pending-append m pending (x ∷ p) q = pending-append m (truncated m (grown x pending)) p q

-- all lines of an input in one piece
lines : ℕ → List ℕ → List ℕ → List (List ℕ)
lines m pending input = completed_in m pending input ++ last_line (pending_after m pending input)

pieces-lines : (m : ℕ) (pending : List ℕ) (pieces : List (List ℕ))
    → from_pieces m pending pieces ≡ lines m pending (joined_pieces pieces)
unfolding from_pieces joined_pieces lines completed_in pending_after
pieces-lines m pending [] = refl
pieces-lines m pending (p ∷ ps) = let next = pending_after m pending p in
    ap (λ (l : List (List ℕ)). completed_in m pending p ++ l) (pieces-lines m next ps)
    ∙ sym (append_assoc (completed_in m pending p) (completed_in m next (joined_pieces ps))
    (last_line (pending_after m next (joined_pieces ps)))) ∙ sym (ap₂ (λ (a : List (List ℕ)) (b : List ℕ). a ++ last_line b)
    (ended-append m pending p (joined_pieces ps)) (pending-append m pending p (joined_pieces ps)))

-- ---- truncated lines

take_again : (n : ℕ) (h s : List ℕ) → take n (take n h ++ s) ≡ take n (h ++ s)
take_again zero h s = refl
take_again (suc n) [] s = refl
take_again (suc n) (x ∷ h) s = ap (λ (l : List ℕ). x ∷ l) (take_again n h s)

preserved-grown : (m : ℕ) (x : ℕ) (h : List ℕ) → truncated m (grown x (truncated m h)) ≡ truncated m (grown x h)
unfolding truncated grown
preserved-grown m x h = pick (eqb x 10)
  where
    pick : (t : Bool) → take (suc m) (cond t [] (take (suc m) h ++ (x ∷ []))) ≡ take (suc m) (cond t [] (h ++ (x ∷ [])))
    pick true = refl
    pick false = take_again (suc m) h (x ∷ [])

preserved-last : (m : ℕ) (h : List ℕ) → last_line (truncated m h) ≡ map (truncated m) (last_line h)
unfolding truncated last_line
preserved-last m [] = refl
preserved-last m (x ∷ h) = refl

preserved-ended : (m : ℕ) (x : ℕ) (h : List ℕ) → ended_line x (truncated m h) ≡ map (truncated m) (ended_line x h)
unfolding ended_line
preserved-ended m x h = pick (eqb x 10)
  where
    pick : (t : Bool) → ◌≡◌ {A = List (List ℕ)} (cond t (truncated m h ∷ []) []) (map (truncated m) (cond t (h ∷ []) []))
    pick true = refl
    pick false = refl

map-append : (f : List ℕ → List ℕ) (a b : List (List ℕ)) → map f (a ++ b) ≡ map f a ++ map f b
map-append f [] b = refl
map-append f (x ∷ a) b = ap (λ (l : List (List ℕ)). f x ∷ l) (map-append f a b)

whole : (m : ℕ) (h input : List ℕ) → lines m (truncated m h) input ≡ map (truncated m) (lines_from h input)
unfolding lines lines_from completed_in pending_after
whole m h [] = preserved-last m h
whole m h (x ∷ xs) = append_assoc (ended_line x (truncated m h)) (completed_in m (truncated m (grown x (truncated m h))) xs)
    (last_line (pending_after m (truncated m (grown x (truncated m h))) xs))
    ∙ ap₂ (λ (a : List (List ℕ)) (b : List ℕ). a ++ (completed_in m b xs ++ last_line (pending_after m b xs)))
    (preserved-ended m x h) (preserved-grown m x h) ∙ ap (λ (l : List (List ℕ)). map (truncated m) (ended_line x h) ++ l)
    (whole m (grown x h) xs) ∙ sym (map-append (truncated m) (ended_line x h) (lines_from (grown x h) xs))

pub pieces-are-the-whole : PiecesAreTheWhole
unfolding lines_of truncated
pieces-are-the-whole m pieces = pieces-lines m [] pieces ∙ whole m [] (joined_pieces pieces)
