-- The laws of `cut` and `pasted`. Assumes nothing.
use mathlib.Core.{Path.{◌≡◌, refl, sym, ap, ap₂, ◌∙◌}, Bool.{Bool, true, false}, List.{List, [], ◌∷◌, ◌++◌, append_assoc}}
use mathlib.Core.Logic.{◌⊎◌, inl, inr}
use Prim.Native.Nat.{ℕ, zero, suc, ◌+◌, ◌-◌, ◌*◌, ◌≤◌, ◌<◌, min}
use native.Mathlib.{Nat.{add_assoc, suc-sub-suc, add-zero, zero-sub, sub-zero}, Omega.arith}
use lib.Dec.{leb}
use lib.ListN.{length, take, drop, replicate, get_or, set, length-append, length-take, length-drop, take-append-drop, get_or-append}
use lib.Seq.{length-take-le, take-nil, drop-cons, set_at, take_at, drop_at, take-take, drop-drop, take-add, drop-append-le}
use lib.Seq.{drop-append-add, get_or-append-add, get_or-take, get_or-drop, ext_get_or, append_snoc, sets, sets-eq, paste}
use Rattle.std.proofs.lemmas.{List.length-replicate, Slice.put_mid-paste}
use borrow.{Rule.Slice.PartMut.{mid_of, put_mid, Post-is}, Author.Tests.{leb-true, leb-false}}
use Rattle.limits.specs.Limits.{file_count, file_bytes, buffer_bytes}
use Rattle.buffers.specs.Parts.{pasted, cut, file_part}

pub le-or-lt : (a b : ℕ) → (a ≤ b) ⊎ (b < a)
le-or-lt a b = pick (leb a b) refl
  where
    pick : (t : Bool) → leb a b ≡ t → (a ≤ b) ⊎ (b < a)
    pick true e = inl (leb-true a b e)
    pick false e = inr (leb-false a b e)

-- ---- a part that is cut

drop-take : (p n : ℕ) (l : List ℕ) → drop p (take n l) ≡ take (n - p) (drop p l)
drop-take zero n l = rw sub-zero
drop-take (suc p) zero l = rw zero-sub
drop-take (suc p) (suc n) [] = sym (take-nil (suc n - suc p))
drop-take (suc p) (suc n) (x ∷ l) = rw suc-sub-suc (drop-take p n l)

module _ (b : List ℕ) (at n : ℕ) where
  lengths : length (cut b at n) ≡ min n (length b - at)
  lengths = unfold cut in simp (length-take, length-drop)

  pub length_cut : at + n ≤ length b → length (cut b at n) ≡ n
  length_cut h = rw lengths (omega arith)

  pub get_d-cut : (i z : ℕ) → i < n → get_or (cut b at n) i z ≡ get_or b (at + i) z
  get_d-cut i z h = unfold cut in get_or-take n (drop at b) i z h ∙ get_or-drop at b i z

  -- the part as a range of the code, `&b[at..at + n]`
  pub cut_range : take (at + n - at) (drop at b) ≡ cut b at n
  cut_range = unfold cut in let e : at + n - at ≡ n = omega arith in rw e

  -- a part of a part
  pub cut-cut : (p m : ℕ) → p + m ≤ n → cut (cut b at n) p m ≡ cut b (at + p) m
  unfolding cut
  cut-cut p m h = ap (take m) (drop-take p n (drop at b)) ∙ take-take m (n - p) (drop p (drop at b)) (omega arith)
      ∙ ap (take m) (drop-drop p at b)

-- ---- a part that is pasted over

-- pasting nothing
pub pasted-none : (d : List ℕ) (at : ℕ) → pasted d at [] ≡ d
pasted-none d at = unfold pasted in rw add-zero (take-append-drop at d)

module _ (d : List ℕ) (at : ℕ) (s : List ℕ) (fits : at + length s ≤ length d) where
  length-head : length (take at d) ≡ at
  length-head = length-take-le at d (omega arith)

  pub length-pasted : length (pasted d at s) ≡ length d
  length-pasted = unfold pasted in simp (length-append, length-drop, length-head) (omega arith)

  pub pasted-before : (i z : ℕ) → i < at → get_or (pasted d at s) i z ≡ get_or d i z
  pasted-before i z h = unfold pasted in
      get_or-append (take at d) (s ++ drop (at + length s) d) z i (rw length-head h) ∙ get_or-take at d i z h

  from_at : (i z : ℕ) → get_or (pasted d at s) (at + i) z ≡ get_or (s ++ drop (at + length s) d) i z
  unfolding pasted
  from_at i z = ap (λ (k : ℕ). get_or (take at d ++ (s ++ drop (at + length s) d)) (k + i) z) (sym length-head)
      ∙ get_or-append-add (take at d) (s ++ drop (at + length s) d) i z

  pub pasted-in : (i z : ℕ) → i < length s → get_or (pasted d at s) (at + i) z ≡ get_or s i z
  pasted-in i z h = from_at i z ∙ get_or-append s (drop (at + length s) d) z i h

  pub pasted-after : (i z : ℕ) → at + length s ≤ i → get_or (pasted d at s) i z ≡ get_or d i z
  pasted-after i z h = ap (λ (k : ℕ). get_or (pasted d at s) k z) e ∙ from_at (length s + (i - (at + length s))) z
      ∙ get_or-append-add s (drop (at + length s) d) (i - (at + length s)) z
      ∙ get_or-drop (at + length s) d (i - (at + length s)) z ∙ ap (λ (k : ℕ). get_or d k z) e'
    where
      e : i ≡ at + (length s + (i - (at + length s)))
      e = omega arith

      e' : at + length s + (i - (at + length s)) ≡ i
      e' = omega arith

  -- one octet more
  pub pasted-more : (v : ℕ) → at + length s < length d → set (pasted d at s) (at + length s) v ≡ pasted d at (s ++ (v ∷ []))
  unfolding pasted
  pasted-more v h = let e : suc (at + length s) ≡ at + length (s ++ (v ∷ [])) = simp length-append (omega arith) in
      let rest = drop (suc (at + length s)) d in
      ap (λ (l : List ℕ). set (take at d ++ (s ++ l)) (at + length s) v) (drop-cons d (at + length s) 0 h)
      ∙ ap (λ (l : List ℕ). set l (at + length s) v) (sym (append_assoc (take at d) s (get_or d (at + length s) 0 ∷ rest)))
      ∙ set_at (take at d ++ s) (get_or d (at + length s) 0) rest v (at + length s) (length-append (take at d) s
      ∙ ap (λ (k : ℕ). k + length s) length-head) ∙ append_assoc (take at d) s (v ∷ rest) ∙ ap (λ (l : List ℕ). take at
      d ++ l) (sym (append_snoc s v rest)) ∙ ap (λ (k : ℕ). take at d ++ ((s ++ (v ∷ [])) ++ drop k d)) e

-- ---- parts of a buffer after a paste

-- two buffers of one length that agree on a range have the same part there
pub cut-same : (x y : List ℕ) (p n : ℕ) → length x ≡ length y → ((i : ℕ) → p ≤ i → i < p + n → get_or x i 0 ≡ get_or y i 0)
    → cut x p n ≡ cut y p n
cut-same x y p n e same = ext_get_or 0 (cut x p n) (cut y p n) (lengths x p n ∙ ap (λ (k : ℕ). min n (k - p)) e
    ∙ sym (lengths y p n)) (λ i h. let k : i < n = below i (rw (lengths x p n) at h) in get_d-cut x p n i 0 k
    ∙ same (p + i) (omega arith) (omega arith) ∙ sym (get_d-cut y p n i 0 k))
  where
    below : (i : ℕ) → i < min n (length x - p) → i < n
    below i h = omega arith

module _ (d : List ℕ) (at : ℕ) (s : List ℕ) (fits : at + length s ≤ length d) where
  pub cut-pasted : cut (pasted d at s) at (length s) ≡ s
  unfolding cut pasted
  cut-pasted = ap (take (length s)) (drop_at (take at d) (s ++ drop (at + length s) d) at (length-head d at s fits))
      ∙ take_at s (drop (at + length s) d) (length s) refl

  pub cut-pasted-before : (p n : ℕ) → p + n ≤ at → cut (pasted d at s) p n ≡ cut d p n
  cut-pasted-before p n h =
      cut-same (pasted d at s) d p n (length-pasted d at s fits) (λ i g k. pasted-before d at s fits i 0 (omega arith))

  pub cut-pasted-after : (p n : ℕ) → at + length s ≤ p → cut (pasted d at s) p n ≡ cut d p n
  cut-pasted-after p n h =
      cut-same (pasted d at s) d p n (length-pasted d at s fits) (λ i g k. pasted-after d at s fits i 0 (omega arith))

  -- what lies before the end of the paste, and what lies after it
  length_front : length (take at d ++ s) ≡ at + length s
  length_front = length-append (take at d) s ∙ ap (λ (k : ℕ). k + length s) (length-head d at s fits)

  front : take (at + length s) (pasted d at s) ≡ take at d ++ s
  unfolding pasted
  front = ap (take (at + length s)) (sym (append_assoc (take at d) s (drop (at + length s) d)))
      ∙ take_at (take at d ++ s) (drop (at + length s) d) (at + length s) length_front

  rest : (k : ℕ) → drop (at + length s + k) (pasted d at s) ≡ drop (at + length s + k) d
  unfolding pasted
  rest k = ap (drop (at + length s + k)) (sym (append_assoc (take at d) s (drop (at + length s) d)))
      ∙ ap (λ (j : ℕ). drop (j + k) ((take at d ++ s) ++ drop (at + length s) d)) (sym length_front)
      ∙ drop-append-add (take at d ++ s) (drop (at + length s) d) k ∙ drop-drop k (at + length s) d

  -- the octets stored one after the other
  pub pasted-sets : pasted d at s ≡ sets d at s
  pasted-sets = unfold pasted in sym (sets-eq s d at fits ∙ append_assoc (take at d) s (drop (at + length s) d))

-- one paste, and the paste directly after it
pub pasted-append : (d : List ℕ) (at : ℕ) (s t : List ℕ) → at + length (s ++ t) ≤ length d
    → pasted d at (s ++ t) ≡ pasted (pasted d at s) (at + length s) t
unfolding pasted
pasted-append d at s t h = let l = length-append s t in let fits : at + length s ≤ length d = omega arith in
    let e : at + length (s ++ t) ≡ at + length s + length t = omega arith in
    joined (take at d) e
    ∙ ap₂ (λ (x y : List ℕ). x ++ (t ++ y)) (sym (front d at s fits)) (sym (rest d at s fits (length t)))
  where
    joined : {m n : ℕ} (x : List ℕ) → m ≡ n → x ++ ((s ++ t) ++ drop m d) ≡ (x ++ s) ++ (t ++ drop n d)
    joined {m} {n} x e = ap (λ (k : ℕ). x ++ ((s ++ t) ++ drop k d)) e
        ∙ ap (λ (l : List ℕ). x ++ l) (append_assoc s t (drop n d)) ∙ sym (append_assoc x s (t ++ drop n d))

-- a list from k on, in two pieces
drop-split : (k n : ℕ) (l : List ℕ) → k ≤ n → n ≤ length l → drop k (take n l) ++ drop n l ≡ drop k l
drop-split k n l h g =
    sym (drop-append-le k (take n l) (drop n l) (rw (length-take-le n l g) h)) ∙ ap (drop k) (take-append-drop n l)

-- a paste inside a part keeps the part's length
length-inner : (d : List ℕ) (a n at : ℕ) (s : List ℕ) → a + n ≤ length d → at + length s ≤ n → length (pasted (cut d a n) at s)
    ≡ n
length-inner d a n at s h g = length-pasted (cut d a n) at s (rw (length_cut d a n h) g) ∙ length_cut d a n h

-- and is a paste in the whole
pasted-part : (d : List ℕ) (a n at : ℕ) (s : List ℕ) → a + n ≤ length d → at + length s ≤ n
    → pasted d a (pasted (cut d a n) at s) ≡ pasted d (a + at) s
pasted-part d a n at s h g = unfold pasted cut in let x = drop a d in
    let lx : n ≤ length x = simp length-drop (omega arith) in let y = pasted (cut d a n) at s in
    ap (λ (m : ℕ). take a d ++ (y ++ drop (a + m) d)) (length-inner d a n at s h g)
    ∙ ap (λ (l : List ℕ). take a d ++ (y ++ l)) (sym (drop-drop n a d)) ∙ ap (λ (l : List ℕ). take a d ++ l)
    (append_assoc (take at (take n x)) (s ++ drop (at + length s) (take n x)) (drop n x) ∙ ap₂ (λ (p q : List ℕ). p ++ q)
    (take-take at n x (omega arith)) (append_assoc s (drop (at + length s) (take n x)) (drop n x)
    ∙ ap (λ (l : List ℕ). s ++ l) (drop-split (at + length s) n x g lx ∙ drop-drop (at + length s) a d)))
    ∙ sym (append_assoc (take a d) (take at x) (s ++ drop (a + (at + length s)) d))
    ∙ ap₂ (λ (p : List ℕ) (m : ℕ). p ++ (s ++ drop m d)) (sym (take-add a at d)) (sym (add_assoc a at (length s)))

-- a part that was lent as `&mut d[a..a + n]` and pasted into, when it is back
pub pasted_lent : (d : List ℕ) (a n at : ℕ) (s y : List ℕ) → a + n ≤ length d → at + length s ≤ n
    → y ≡ pasted (mid_of a (a + n - a) d) at s → put_mid a (a + n - a) d y ≡ pasted d (a + at) s
pasted_lent d a n at s y h g e = unfold pasted in let y' = pasted (cut d a n) at s in
    ap₂ (λ (p q : List ℕ). take a d ++ (p ++ q)) (e ∙ ap (λ (l : List ℕ). pasted l at s) (cut_range d a n))
    (Post-is a (a + n) d (omega arith))
    ∙ ap (λ (m : ℕ). take a d ++ (y' ++ drop (a + m) d)) (sym (length-inner d a n at s h g)) ∙ pasted-part d a n at s h g

-- ---- a part that is filled

-- what `d[at..at + n].fill(v)` leaves; ys is what the part holds after it
pub filled : (d : List ℕ) (at n v : ℕ) (ys : List ℕ) → at + n ≤ length d
    → ys ≡ replicate (length (take (at + n - at) (drop at d))) v → put_mid at (at + n - at) d ys ≡ paste d at (replicate n v) n
filled d at n v ys h e = let size : length (take (at + n - at) (drop at d)) ≡ n = simp (length-take, length-drop) (omega arith) in
    put_mid-paste at (at + n - at) d ys (replicate n v) n (e ∙ ap (λ (k : ℕ). replicate k v) size) (omega arith)
    (sym (length-replicate n v))

-- ---- the files of the store buffer

module _ (files : List ℕ) (f : ℕ) (size : length files ≡ buffer_bytes) (there : f < file_count) where
  pub length-file : length (file_part files f) ≡ file_bytes
  length-file = unfold file_part in length_cut files (file_bytes * f) file_bytes (omega arith)
