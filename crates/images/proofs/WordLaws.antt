-- Numbers as bytes, put one after the other, and read again.
use mathlib.Core.{List.{List, [], ◌∷◌, ◌++◌, append_assoc}, Path.{◌≡◌, refl, sym, ap, ◌∙◌}}
use lib.{ListN.{length, get_or, set, drop, length-append}, Seq.{drop-cons, set_at}}
use native.Mathlib.{Numerals.add-one, Omega.arith}
use Prim.Native.Nat.{ℕ, zero, suc, ◌+◌, ◌*◌, ◌/◌, ◌%◌, ◌≤◌}
use Rattle.images.specs.Words.{low_first, with_word_at}

module _ (f : ℕ → ℕ) where
  pub length-low-first : (n : ℕ) → length (low_first f n) ≡ 2 * n
  unfolding low_first
  length-low-first zero = refl
  length-low-first (suc n) = let e = length-low-first n in simp length-append (omega arith)

  -- The bytes with the first n numbers put.
  module _ (bytes : List ℕ) where
    abbrev pub started : ℕ → List ℕ
    started n = low_first f n ++ drop (2 * n) bytes

    pub started_none : bytes ≡ started 0
    started_none = unfold low_first in refl

    two-more : (n : ℕ) → 2 * n + 2 ≤ length bytes
        → drop (2 * n) bytes ≡ get_or bytes (2 * n) 0 ∷ (get_or bytes (2 * n + 1) 0 ∷ drop (2 * n + 2) bytes)
    two-more n h = let e : suc (2 * n) ≡ 2 * n + 1 = omega arith in let g : suc (2 * n + 1) ≡ 2 * n + 2 = omega arith in
        drop-cons bytes (2 * n) 0 (omega arith) ∙ ap (λ (l : List ℕ). get_or bytes (2 * n) 0 ∷ l) (ap (λ (k : ℕ). drop k
        bytes) e ∙ drop-cons bytes (2 * n + 1) 0 (omega arith) ∙ ap (λ (k : ℕ). get_or bytes (2 * n + 1) 0 ∷ drop k bytes) g)

    pub started-more : (n : ℕ) → 2 * n + 2 ≤ length bytes → with_word_at (started n) n (f n) ≡ started (n + 1)
    started-more n h = unfold low_first with_word_at in let xs = low_first f n in let low = f n % 256 in let high = f n / 256 in
        let a = get_or bytes (2 * n) 0 in let b = get_or bytes (2 * n + 1) 0 in let rest = drop (2 * n + 2) bytes in
        let l = length-low-first n in let m : length (xs ++ (low ∷ [])) ≡ 2 * n + 1 = simp length-append (omega arith) in
        let e : 2 * (n + 1) ≡ 2 * n + 2 = omega arith in
        let one_more : xs ++ (low ∷ (high ∷ [])) ≡ low_first f (n + 1) = rw add-one in
        ap (λ (t : List ℕ). set (set (xs ++ t) (2 * n) low) (2 * n + 1) high) (two-more n h) ∙ ap (λ (t : List ℕ). set t
        (2 * n + 1) high) (set_at xs a (b ∷ rest) low (2 * n) l ∙ sym (append_assoc xs (low ∷ []) (b ∷ rest)))
        ∙ set_at (xs ++ (low ∷ [])) b rest high (2 * n + 1) m ∙ append_assoc xs (low ∷ []) (high ∷ rest)
        ∙ sym (append_assoc xs (low ∷ (high ∷ [])) rest) ∙ ap (λ (k : ℕ). (xs ++ (low ∷ (high ∷ []))) ++ drop k bytes)
        (sym e) ∙ ap (λ (t : List ℕ). t ++ drop (2 * (n + 1)) bytes) one_more

-- A loop that puts the numbers one after the other.
pub ruleset starts = (started_none, started-more)
