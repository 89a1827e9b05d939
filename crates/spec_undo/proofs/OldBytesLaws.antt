-- Old bytes put back from the last write to the first give the buffer before; one write more; and how many bytes they are.
use mathlib.Core.{Logic.{◌⊎◌, inl, inr}, List.{List, [], ◌∷◌, ◌++◌, map, append-nil, append_assoc}}
use mathlib.Core.Path.{◌≡◌, refl, sym, ap, ap₂, ◌∙◌}
use lib.{ListN.{length, take, drop, get_or, length-append}, Seq.{ext_get_or, take_at, drop_at, take-add, drop-drop}}
use native.Mathlib.Omega.{arith}
use Prim.Native.Nat.{ℕ, zero, suc, ◌+◌, ◌-◌, ◌≤◌, ◌<◌}
use Rattle.buffers.specs.Parts.{pasted, cut}
use Rattle.buffers.proofs.PartLaws.{le-or-lt, length_cut, get_d-cut, length-pasted, pasted-before, pasted-in, pasted-after}
use Rattle.buffers.proofs.PartLaws.{cut-pasted-after, pasted-append}
use Rattle.spec_undo.specs.OldBytes.{Landing, landing, Span, span_of, land_all, old_bytes, restored, Inside, RestoresBytes}

-- Pasted over, and what was there pasted back.
module _ (d : List ℕ) (at : ℕ) (s : List ℕ) (h : at + length s ≤ length d) where
  old-length : length (cut d at (length s)) ≡ length s
  old-length = length_cut d at (length s) h

  back_fits : at + length (cut d at (length s)) ≤ length (pasted d at s)
  back_fits = rw (old-length, length-pasted d at s h) h

  at_each : (i : ℕ) → (at ≤ i) ⊎ (i < at) → (at + length s ≤ i) ⊎ (i < at + length s)
      → get_or (pasted (pasted d at s) at (cut d at (length s))) i 0 ≡ get_or d i 0
  at_each i (inr l) k = pasted-before (pasted d at s) at (cut d at (length s)) back_fits i 0 l ∙ pasted-before d at s h i 0 l
  at_each i (inl g) (inl k) =
      pasted-after (pasted d at s) at (cut d at (length s)) back_fits i 0 (rw old-length k) ∙ pasted-after d at s h i 0 k
  at_each i (inl g) (inr k) = let e : i ≡ at + (i - at) = omega arith in let b : i - at < length s = omega arith in
      ap (λ (j : ℕ). get_or (pasted (pasted d at s) at (cut d at (length s))) j 0) e
      ∙ pasted-in (pasted d at s) at (cut d at (length s)) back_fits (i - at) 0 (rw old-length b)
      ∙ get_d-cut d at (length s) (i - at) 0 b ∙ ap (λ (j : ℕ). get_or d j 0) (sym e)

  pasted-back : pasted (pasted d at s) at (cut d at (length s)) ≡ d
  pasted-back = ext_get_or 0 (pasted (pasted d at s) at (cut d at (length s))) d
      (length-pasted (pasted d at s) at (cut d at (length s)) back_fits ∙ length-pasted d at s h)
      (λ i l. at_each i (le-or-lt at i) (le-or-lt (at + length s) i))

pub put_back : RestoresBytes
unfolding restored old_bytes land_all
put_back [] buffer rest h = refl
put_back (w ∷ ws) buffer rest h = let q = w.at in let n = length w.bytes in let next = pasted buffer q w.bytes in
    let first = cut buffer q n in let later = old_bytes ws next in let l : length first ≡ n = length_cut buffer q n h.0 in
    let a : (first ++ later) ++ rest ≡ first ++ (later ++ rest) = append_assoc first later rest in
    ap₂ (λ (x y : List ℕ). pasted (restored (map span_of ws) x (land_all ws next)) q y) (ap (drop n) a ∙ drop_at first
    (later ++ rest) n l) (ap (take n) a ∙ take_at first (later ++ rest) n l) ∙ ap (λ (x : List ℕ). pasted x q first)
    (put_back ws next rest (rw (length-pasted buffer q w.bytes h.0) h.1)) ∙ pasted-back buffer q w.bytes h.0

-- ---- one write more

pub land_last : (ws : List Landing) (w : Landing) (buffer : List ℕ)
    → land_all (ws ++ (w ∷ [])) buffer ≡ pasted (land_all ws buffer) w.at w.bytes
unfolding land_all
land_last [] w buffer = refl
land_last (v ∷ ws) w buffer = land_last ws w (pasted buffer v.at v.bytes)

-- It lands on what those before it have left.
pub old-last : (ws : List Landing) (w : Landing) (buffer : List ℕ)
    → old_bytes (ws ++ (w ∷ [])) buffer ≡ old_bytes ws buffer ++ cut (land_all ws buffer) w.at (length w.bytes)
unfolding old_bytes land_all
old-last [] w buffer = append-nil (cut buffer w.at (length w.bytes))
old-last (v ∷ ws) w buffer = let next = pasted buffer v.at v.bytes in
    let first = cut buffer v.at (length v.bytes) in
    ap (λ (l : List ℕ). first ++ l) (old-last ws w next)
    ∙ sym (append_assoc first (old_bytes ws next) (cut (land_all ws next) w.at (length w.bytes)))

-- ---- a write, and another directly behind it

cut-add : (d : List ℕ) (at m n : ℕ) → cut d at (m + n) ≡ cut d at m ++ cut d (at + m) n
unfolding cut
cut-add d at m n = take-add m n (drop at d) ∙ ap (λ (l : List ℕ). take m (drop at d) ++ take n l) (drop-drop m at d)

-- They land on the same bytes as one write with their bytes joined.
pub old-joined : (at : ℕ) (a b : List ℕ) (ws : List Landing) (buffer : List ℕ) → at + length (a ++ b) ≤ length buffer
    → old_bytes (landing at a ∷ (landing (at + length a) b ∷ ws)) buffer ≡ old_bytes (landing at (a ++ b) ∷ ws) buffer
unfolding old_bytes
old-joined at a b ws buffer h = let l = length-append a b in let fits : at + length a ≤ length buffer = omega arith in
    sym (append_assoc (cut buffer at (length a)) (cut (pasted buffer at a) (at + length a) (length b))
    (old_bytes ws (pasted (pasted buffer at a) (at + length a) b)))
    ∙ ap₂ (λ (old next : List ℕ). old ++ old_bytes ws next) (ap (λ (o : List ℕ). cut buffer at (length a) ++ o)
    (cut-pasted-after buffer at a fits (at + length a) (length b) (omega arith))
    ∙ sym (cut-add buffer at (length a) (length b)) ∙ ap (cut buffer at) (sym l)) (sym (pasted-append buffer at a b h))

-- ---- the last span

-- The bytes of the spans together.
abbrev pub spanned : List Span → ℕ
spanned [] = 0
spanned (s ∷ ss) = s.length + spanned ss

pub spanned-last : (ss : List Span) (s : Span) → spanned (ss ++ (s ∷ [])) ≡ spanned ss + s.length
spanned-last [] s = omega arith
spanned-last (x ∷ ss) s = let e = spanned-last ss s in omega arith

-- Its old bytes stand behind those of all others, and go back first.
pub back_last : (ss : List Span) (s : Span) (old buffer : List ℕ)
    → restored (ss ++ (s ∷ [])) old buffer ≡ restored ss old (pasted buffer s.at (cut old (spanned ss) s.length))
unfolding restored cut
back_last [] s old buffer = refl
back_last (x ∷ ss) s old buffer = let n = x.length in
    ap (λ (b : List ℕ). pasted b x.at (take n old)) (back_last ss s (drop n old) buffer ∙ ap (λ (l : List ℕ). restored ss
    (drop n old) (pasted buffer s.at (take s.length l))) (drop-drop (spanned ss) n old))

-- ---- lengths

pub length-old : (w : Landing) (ws : List Landing) (buffer : List ℕ) → Inside (length buffer) (map span_of (w ∷ ws))
    → length (old_bytes (w ∷ ws) buffer) ≡ length w.bytes + length (old_bytes ws (pasted buffer w.at w.bytes))
unfolding old_bytes
length-old w ws buffer h = length-append (cut buffer w.at (length w.bytes)) _ ∙ ap (λ (n : ℕ). n + length
    (old_bytes ws (pasted buffer w.at w.bytes))) (length_cut buffer w.at (length w.bytes) h.0)

take-few : (n : ℕ) (xs : List ℕ) → length (take n xs) ≤ n
take-few zero xs = omega arith
take-few (suc n) [] = omega arith
take-few (suc n) (x ∷ xs) = let e = take-few n xs in omega arith

pub length_back : (ss : List Span) (old buffer : List ℕ) → Inside (length buffer) ss → length (restored ss old buffer)
    ≡ length buffer
unfolding restored
length_back [] old buffer h = refl
length_back (s ∷ ss) old buffer h = let e = length_back ss (drop s.length old) buffer h.1 in
    let k = take-few s.length old in
    length-pasted (restored ss (drop s.length old) buffer) s.at (take s.length old) (omega (arith, h.0)) ∙ e
