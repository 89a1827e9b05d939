-- Laws of `Put` and of the texts that are put.
use mathlib.Core.{Path.{◌≡◌, refl, sym, ap, ap₂, ◌∙◌}, Bool.{Bool, true, false, cond}, List.{List, [], ◌∷◌, ◌++◌, append_assoc}}
use Prim.Native.Nat.{ℕ, zero, suc, ◌+◌, ◌-◌, ◌*◌, ◌/◌, ◌%◌, ◌^◌, ◌≤◌, ◌<◌, min}
use native.Mathlib.{Numerals.add-one, Omega.arith}
use lib.{Dec.ltb, ListN.{length, take, drop, get_or, set, length-append, length-drop}}
use lib.Seq.{take-suc, take_all, take-append_seam, length-take-le, append_snoc}
use borrow.Author.Tests.{lt-ltb, le-ltb, ltb-true, ltb-false}
use Rattle.buffers.{specs.Parts.pasted, proofs.PartLaws.{pasted-append, pasted-none, pasted-more, length-pasted}}
use Rattle.text_numerals.specs.{Decimal.{glyph, decimal_below, past, number_text, spaced_texts, joined_texts}, Pairs.hex_pairs}
use Rattle.text_numerals.specs.Put.{Put}

-- ---- a text that is put

-- one text, and the next directly after it
pub then : {b m a : List ℕ} {at e f : ℕ} (s t : List ℕ) → at + length s + length t ≤ length b → Put b at s m e → Put m e t a f
    → Put b at (s ++ t) a f
then {b} {m} {a} {at} {e} {f} s t fits p q = let l = length-append s t in record {
  bytes = q.bytes ∙ ap₂ (λ (x : List ℕ) (k : ℕ). pasted x k t) p.bytes p.end
      ∙ sym (pasted-append b at s t (omega arith));
  end = omega (arith, q.end, p.end);
}

pub put-preserved : {b a : List ℕ} {at e : ℕ} (s : List ℕ) → at + length s ≤ length b → Put b at s a e → length a ≡ length b
put-preserved {b} {a} {at} s fits p = ap length p.bytes ∙ length-pasted b at s fits

pub nothing : (b : List ℕ) (at : ℕ) → Put b at [] b at
nothing b at = record { bytes = sym (pasted-none b at); end = omega arith }

pub one : (b : List ℕ) (at v : ℕ) → at < length b → Put b at (v ∷ []) (set b at v) (at + 1)
one b at v h = record { bytes = stored; end = omega arith }
  where
    stored : set b at v ≡ pasted b at (v ∷ [])
    stored = let z : at + 0 ≡ at = omega arith in
        ap₂ (λ (x : List ℕ) (k : ℕ). set x k v) (sym (pasted-none b at)) (sym z)
        ∙ pasted-more b at [] (omega arith) v (omega arith)

-- what stands in front of the end of a text that was put
pub put-text : (before : List ℕ) (at : ℕ) (text after : List ℕ) (next : ℕ) → at ≤ length before → Put before at text after next
    → take next after ≡ take at before ++ text
put-text before at text after next h p = unfold pasted in let front = take at before ++ text in
    let n = length-append (take at before) text in let l = length-take-le at before h in
    let e : next ≡ length front = omega (arith, p.end) in
    ap₂ take e (p.bytes ∙ sym (append_assoc (take at before) text (drop (at + length text) before)))
    ∙ take-append_seam front (drop (at + length text) before)

-- ---- decimal

-- room for more digits changes nothing
pub below-agree : (k m n : ℕ) → k ≤ m → n < 10 ^ suc k → decimal_below (suc k) n ≡ decimal_below (suc m) n
unfolding decimal_below
below-agree zero m n l h = rw (lt-ltb n 10 (omega arith))
below-agree (suc k) zero n l h = absurd (omega arith)
below-agree (suc k) (suc m) n l h = ap (λ (l : List ℕ). cond (ltb n 10) (glyph n ∷ []) (l ++ (glyph (n % 10) ∷ [])))
    (below-agree k m (n / 10) (omega arith) (omega arith))

pub number-digit : (n : ℕ) → n < 10 → number_text n ≡ glyph n ∷ []
number-digit n h = unfold number_text decimal_below in rw (lt-ltb n 10 h)

pub number_more : (n : ℕ) → 10 ≤ n → n < past → number_text n ≡ number_text (n / 10) ++ (glyph (n % 10) ∷ [])
unfolding number_text decimal_below
number_more n g h =
    rw (le-ltb n 10 g) (ap (λ (l : List ℕ). l ++ (glyph (n % 10) ∷ [])) (below-agree 18 19 (n / 10) (omega arith) (omega arith)))

pub length-below : (k n : ℕ) → length (decimal_below k n) ≤ k
unfolding decimal_below
length-below zero n = omega arith
length-below (suc k) n = pick (ltb n 10) (length-below k (n / 10))
  where
    pick : (t : Bool) → length (decimal_below k (n / 10)) ≤ k
        → length (cond t (glyph n ∷ []) (decimal_below k (n / 10) ++ (glyph (n % 10) ∷ []))) ≤ suc k
    pick true h = omega arith
    pick false h = simp length-append (omega arith)

pub length-number : (n : ℕ) → length (number_text n) ≤ 20
length-number n = unfold number_text in length-below 20 n

-- ---- hexadecimal pairs

pub length_pairs : (bs : List ℕ) → length (hex_pairs bs) ≡ 2 * length bs
unfolding hex_pairs
length_pairs [] = refl
length_pairs (b ∷ bs) = omega (arith, length_pairs bs)

pairs-append : (xs ys : List ℕ) → hex_pairs (xs ++ ys) ≡ hex_pairs xs ++ hex_pairs ys
unfolding hex_pairs
pairs-append [] ys = refl
pairs-append (x ∷ xs) ys = ap (λ (l : List ℕ). glyph (x / 16) ∷ glyph (x % 16) ∷ l) (pairs-append xs ys)

-- one byte more
pub pairs-more : (bs : List ℕ) (i : ℕ) → i < length bs
    → hex_pairs (take (i + 1) bs) ≡ (hex_pairs (take i bs) ++ (glyph (get_or bs i 0 / 16) ∷ [])) ++ (glyph (get_or bs i 0 % 16) ∷ [])
pairs-more bs i h = unfold hex_pairs in let b = get_or bs i 0 in
    ap (λ (k : ℕ). hex_pairs (take k bs)) (add-one i) ∙ ap hex_pairs (take-suc bs i 0 h) ∙ pairs-append (take i bs) (b ∷ [])
    ∙ sym (append_snoc (hex_pairs (take i bs)) (glyph (b / 16)) (glyph (b % 16) ∷ []))

-- The front of a list, at most all of it.
pub take_within : (n : ℕ) (l : List ℕ) → take (min n (length l)) l ≡ take n l
take_within n l = pick (ltb n (length l)) refl
  where
    pick : (t : Bool) → ltb n (length l) ≡ t → take (min n (length l)) l ≡ take n l
    pick true e = let h = ltb-true n (length l) e in let m : min n (length l) ≡ n = omega arith in
        ap (λ (k : ℕ). take k l) m
    pick false e = let h = ltb-false n (length l) e in let m : min n (length l) ≡ length l = omega arith in
        ap (λ (k : ℕ). take k l) m ∙ take_all (length l) l (omega arith) ∙ sym (take_all n l h)

-- ---- numbers behind spaces

pub append-none : (xs : List ℕ) → xs ++ [] ≡ xs
append-none [] = refl
append-none (x ∷ xs) = ap (λ (l : List ℕ). x ∷ l) (append-none xs)

pub texts-snoc : (ns : List ℕ) (m : ℕ) → spaced_texts (ns ++ (m ∷ [])) ≡ spaced_texts ns ++ (32 ∷ number_text m)
unfolding spaced_texts
texts-snoc [] m = ap (λ (l : List ℕ). 32 ∷ l) (append-none (number_text m))
texts-snoc (n ∷ ns) m = ap (λ (l : List ℕ). 32 ∷ (number_text n ++ l)) (texts-snoc ns m)
    ∙ ap (λ (l : List ℕ). 32 ∷ l) (sym (append_assoc (number_text n) (spaced_texts ns) (32 ∷ number_text m)))

pub length-texts : (ns : List ℕ) → length (spaced_texts ns) ≤ 21 * length ns
unfolding spaced_texts
length-texts [] = omega arith
length-texts (n ∷ ns) = omega (arith, length-append (number_text n) (spaced_texts ns), length-number n, length-texts ns)

-- one number more
pub texts-more : (ns : List ℕ) (i : ℕ) → i < length ns → spaced_texts (take (i + 1) ns) ≡ spaced_texts (take i ns)
    ++ (32 ∷ number_text (get_or ns i 0))
texts-more ns i h = ap (λ (k : ℕ). spaced_texts (take k ns)) (add-one i) ∙ ap spaced_texts (take-suc ns i 0 h)
    ∙ texts-snoc (take i ns) (get_or ns i 0)

-- ---- numbers with one space between

pub put-none : (b l : List ℕ) (at : ℕ) → length l ≡ 0 → Put b at (joined_texts l) b at
unfolding joined_texts
put-none b [] at h = nothing b at
put-none b (n ∷ l) at h = absurd (omega arith)

pub some-length : (l : List ℕ) → (length l ≡ 0 → ⊥) → 1 ≤ length l
some-length [] h = absurd (h refl)
some-length (n ∷ l) h = omega arith

pub joined-first : (l : List ℕ) → (length l ≡ 0 → ⊥) → joined_texts l ≡ number_text (get_or l 0 0) ++ spaced_texts (drop 1 l)
unfolding joined_texts
joined-first [] h = absurd (h refl)
joined-first (n ∷ l) h = refl

pub put-joined : {b m a : List ℕ} {at e f : ℕ} (l : List ℕ) (x : ℕ) → (length l ≡ 0 → ⊥) → at + 21 * length l ≤ length b → x
    ≡ get_or l 0 0
    → Put b at (number_text x) m e → Put m e (spaced_texts (take (length l - 1) (drop 1 l))) a f → Put b at (joined_texts l) a f
put-joined {b} {m} {a} {at} {e} {f} l x some fits is p q = let n = length-drop 1 l in let s = length-number x in
    let t = length-texts (drop 1 l) in
    let full : take (length l - 1) (drop 1 l) ≡ drop 1 l = take_all (length l - 1) (drop 1 l) (omega arith) in
    let k = some-length l some in
    rw (joined-first l some, ← is) (then (number_text x) (spaced_texts (drop 1 l)) (omega arith) p (rw full at q))

pub length-joined-texts : (ns : List ℕ) → length (joined_texts ns) ≤ 21 * length ns
unfolding joined_texts
length-joined-texts [] = omega arith
length-joined-texts (n ∷ ns) = omega (arith, length-append (number_text n) (spaced_texts ns), length-number n, length-texts ns)
