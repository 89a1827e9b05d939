-- The list of a set of places, interval by interval, and its bytes. Assumes nothing.
use mathlib.Core.{Bool.{Bool, true, false, false≢true}, List.{List, [], ◌∷◌, ◌++◌, append_assoc, append-nil}, Logic.⊎_elim}
use mathlib.Core.Path.{◌≡◌, refl, sym, ap, ◌∙◌}
use lib.{ListN.{get_or, length, drop, set, length-append}, Seq.ext_get_or}
use Prim.Native.Nat.{ℕ, suc, ◌+◌, ◌-◌, ◌*◌, ◌/◌, ◌%◌, ◌≤◌, ◌<◌}
use native.Mathlib.Omega.{arith}
use Rattle.limits.specs.Limits.{file_bytes}
use Rattle.buffers.specs.Parts.{pasted}
use Rattle.buffers.proofs.PartLaws.{le-or-lt, length-pasted, pasted-none, pasted-before, pasted-in, pasted-after, pasted-more}
use Rattle.buffers.proofs.PartLaws.{pasted-append}
use Rattle.spec.specs.Places.{interval, intervals_from, intervals_of, sixteen, encoded, with_pairs}
use Rattle.spec.proofs.Places.IntervalLaws.{skipped, interval-first}
use Rattle.call_places.specs.{declared.PlaceInterval.PlaceInterval, PlacesCall.{Upto, NextOf}}
use Rattle.spec.specs.Places as listing

abbrev pub as_listed : PlaceInterval → listing.Interval
as_listed s = interval s.offset s.length

-- The places from p on, to the end of the file.
abbrev pub list-rest : (ℕ → Bool) → ℕ → List listing.Interval
list-rest S p = intervals_from S p (file_bytes - p)

module _ (S : ℕ → Bool) (p : ℕ) (s : PlaceInterval) (next : NextOf S p s) where
  -- an interval of length 0 lies at the end of the file
  next-end : s.length ≡ 0 → s.offset ≡ file_bytes
  next-end z = pick next.before next.whole
    where
      pick : Upto S false p s.offset → Upto S true s.offset (s.offset + s.length) → s.offset ≡ file_bytes
      pick a b = ⊎_elim (λ h. omega (arith, a.within)) (λ h. absurd
          (false≢true (sym (b.turned (omega arith)) ∙ ap S (omega arith) ∙ a.turned h))) (le-or-lt file_bytes s.offset)

  next-bounds : (p ≤ s.offset) × (s.offset + s.length ≤ file_bytes)
  next-bounds = (next.before.start, next.whole.within)

  reached : list-rest S p ≡ list-rest S s.offset
  reached = let b = next-bounds in
      let e : file_bytes - p ≡ (s.offset - p) + (file_bytes - s.offset) = omega (arith, b.0, b.1) in
      let g : p + (s.offset - p) ≡ s.offset = omega (arith, b.0) in
      ap (intervals_from S p) e ∙ skipped S p (s.offset - p) (file_bytes - s.offset)
      (λ q a l. next.before.same q a (omega arith)) ∙ ap (λ (x : ℕ). intervals_from S x (file_bytes - s.offset)) g

  next-none : s.length ≡ 0 → list-rest S p ≡ []
  next-none z = reached ∙ ap (list-rest S) (next-end z) ∙ unfold intervals_from in refl

  next-some : (s.length ≡ 0 → ⊥) → list-rest S p ≡ as_listed s ∷ list-rest S (s.offset + s.length)
  next-some h = let b = next-bounds in let k : s.length ≡ suc (s.length - 1) = omega arith in
      let e : file_bytes - s.offset ≡ suc (s.length - 1) + (file_bytes - (s.offset + s.length)) = omega (arith, b.1) in
      reached ∙ ap (intervals_from S s.offset) e ∙ interval-first S s.offset (s.length - 1)
      (file_bytes - (s.offset + s.length)) (λ q a l. next.whole.same q a (omega arith)) (λ l. ap S (omega arith)
      ∙ next.whole.turned (omega arith)) ∙ ap (λ (n : ℕ). interval s.offset n ∷ intervals_from S (s.offset + n)
      (file_bytes - (s.offset + s.length))) (sym k)

-- ---- the walk has come to place p, and the list so far is l

pub record Listing (S : ℕ → Bool) (p : ℕ) (l : List listing.Interval) : Type 0 where
  pub joins : l ++ list-rest S p ≡ intervals_of S

pub listing_none : (S : ℕ → Bool) → Listing S 0 []
listing_none S = unfold intervals_of in record { joins = refl }

module _ (S : ℕ → Bool) (p : ℕ) (l : List listing.Interval) (so : Listing S p l) where
  pub listing-end : file_bytes ≤ p → l ≡ intervals_of S
  listing-end h = let z : file_bytes - p ≡ 0 = omega arith in
      let n : list-rest S p ≡ [] = ap (intervals_from S p) z ∙ unfold intervals_from in refl in
      sym (append-nil l) ∙ ap (λ (r : List listing.Interval). l ++ r) (sym n) ∙ so.joins

  module _ (s : PlaceInterval) (next : NextOf S p s) where
    pub listing-all : s.length ≡ 0 → l ≡ intervals_of S
    listing-all z = sym (append-nil l) ∙ ap (λ (r : List listing.Interval). l ++ r) (sym (next-none S p s next z)) ∙ so.joins

    pub listing-more : (s.length ≡ 0 → ⊥) → Listing S (s.offset + s.length) (l ++ (as_listed s ∷ []))
    listing-more h = record {
      joins = append_assoc l (as_listed s ∷ []) (list-rest S (s.offset + s.length))
          ∙ ap (λ (r : List listing.Interval). l ++ r) (sym (next-some S p s next h)) ∙ so.joins;
    }

    pub listing-room : (s.length ≡ 0 → ⊥) → 4 * length l + 4 ≤ 4 * length (intervals_of S)
    listing-room h = let more = (listing-more h).joins in omega (
      arith,
      ap length more,
      length-append (l ++ (as_listed s ∷ [])) (list-rest S (s.offset + s.length)),
      length-append l (as_listed s ∷ []),
    )

pub length-snoc : (l : List listing.Interval) (s : listing.Interval) → length (l ++ (s ∷ [])) ≡ length l + 1
length-snoc l s = length-append l (s ∷ [])

-- ---- the bytes

module _ (d : List ℕ) (at : ℕ) (s t : List ℕ) (fits : at + length s ≤ length d) (same : length s ≡ length t) where
  -- what was pasted is pasted over
  pub pasted-twice : pasted (pasted d at s) at t ≡ pasted d at t
  pasted-twice = ext_get_or 0 (pasted (pasted d at s) at t) (pasted d at t) (length-pasted (pasted d at s) at t again
      ∙ preserved ∙ sym (length-pasted d at t new))
      (λ i h. ⊎_elim (λ g. ⊎_elim (past i) (λ l. within i g l) (le-or-lt (at + length t) i)) (before i) (le-or-lt at i))
    where
      preserved : length (pasted d at s) ≡ length d
      preserved = length-pasted d at s fits

      again : at + length t ≤ length (pasted d at s)
      again = omega (arith, preserved)

      new : at + length t ≤ length d
      new = omega arith

      before : (i : ℕ) → i < at → get_or (pasted (pasted d at s) at t) i 0 ≡ get_or (pasted d at t) i 0
      before i g =
          pasted-before (pasted d at s) at t again i 0 g ∙ pasted-before d at s fits i 0 g ∙ sym (pasted-before d at t new i 0 g)

      past : (i : ℕ) → at + length t ≤ i → get_or (pasted (pasted d at s) at t) i 0 ≡ get_or (pasted d at t) i 0
      past i g = pasted-after (pasted d at s) at t again i 0 g ∙ pasted-after d at s fits i 0 (omega arith)
          ∙ sym (pasted-after d at t new i 0 g)

      within : (i : ℕ) → at ≤ i → i < at + length t → get_or (pasted (pasted d at s) at t) i 0 ≡ get_or (pasted d at t) i 0
      within i g l = let e : i ≡ at + (i - at) = omega arith in
          ap (λ (k : ℕ). get_or (pasted (pasted d at s) at t) k 0) e
          ∙ pasted-in (pasted d at s) at t again (i - at) 0 (omega arith)
          ∙ sym (pasted-in d at t new (i - at) 0 (omega arith)) ∙ ap (λ (k : ℕ). get_or (pasted d at t) k 0) (sym e)

pub number_put : (out : List ℕ) (at n : ℕ) → at + 2 ≤ length out → set (set out at (n / 256)) (at + 1) (n % 256)
    ≡ pasted out at (sixteen n)
number_put out at n h = unfold sixteen in let z : at ≡ at + length {A = ℕ} [] = omega arith in
    let first : set out at (n / 256) ≡ pasted out at (n / 256 ∷ []) =
    ap (λ (l : List ℕ). set l at (n / 256)) (sym (pasted-none out at))
    ∙ ap (λ (i : ℕ). set (pasted out at []) i (n / 256)) z ∙ pasted-more out at [] (omega arith) (n / 256) (omega arith) in
    ap (λ (l : List ℕ). set l (at + 1) (n % 256)) first
    ∙ pasted-more out at (n / 256 ∷ []) (omega arith) (n % 256) (omega arith)

length-sixteen : (n : ℕ) → length (sixteen n) ≡ 2
length-sixteen n = unfold sixteen in refl

-- The pair of an interval.
abbrev pub pair : PlaceInterval → List ℕ
pair s = sixteen s.offset ++ sixteen s.length

pub length-pair : (s : PlaceInterval) → length (pair s) ≡ 4
length-pair s = length-append (sixteen s.offset) (sixteen s.length)
    ∙ omega (arith, length-sixteen s.offset, length-sixteen s.length)

pub pair_put : (out : List ℕ) (at : ℕ) (s : PlaceInterval) → at + 4 ≤ length out
    → pasted (pasted out at (sixteen s.offset)) (at + 2) (sixteen s.length) ≡ pasted out at (pair s)
pair_put out at s h =
    ap (λ (n : ℕ). pasted (pasted out at (sixteen s.offset)) (at + n) (sixteen s.length)) (sym (length-sixteen s.offset))
    ∙ sym (pasted-append out at (sixteen s.offset) (sixteen s.length) (omega (arith, length-pair s)))

encoded-snoc : (l : List listing.Interval) (s : PlaceInterval) → encoded (l ++ (as_listed s ∷ [])) ≡ encoded l ++ pair s
unfolding encoded
encoded-snoc [] s = append-nil (pair s)
encoded-snoc (x ∷ l) s = ap (λ (r : List ℕ). (sixteen x.offset ++ sixteen x.length) ++ r) (encoded-snoc l s)
    ∙ sym (append_assoc (sixteen x.offset ++ sixteen x.length) (encoded l) (pair s))

pub length-encoded : (l : List listing.Interval) → length (encoded l) ≡ 4 * length l
unfolding encoded
length-encoded [] = refl
length-encoded (x ∷ l) = length-append (sixteen x.offset ++ sixteen x.length) (encoded l)
    ∙ omega (arith, length-pair (record { offset = x.offset; length = x.length }), length-encoded l)

-- the buffer after the pairs of l, and after one pair more
pub list-pairs-none : (out : List ℕ) → out ≡ pasted out 0 (encoded [])
list-pairs-none out = unfold encoded in sym (pasted-none out 0)

pub list-pairs-more : (out : List ℕ) (l : List listing.Interval) (s : PlaceInterval) (at : ℕ) → at ≡ 4 * length l
    → at + 4 ≤ length out → pasted (pasted out 0 (encoded l)) at (pair s) ≡ pasted out 0 (encoded (l ++ (as_listed s ∷ [])))
list-pairs-more out l s at e h = let n : at ≡ 0 + length (encoded l) = omega (arith, length-encoded l) in
    ap (λ (i : ℕ). pasted (pasted out 0 (encoded l)) i (pair s)) n ∙ sym (pasted-append out 0 (encoded l) (pair s)
    (omega (arith, length-append (encoded l) (pair s), length-pair s))) ∙ ap (pasted out 0) (sym (encoded-snoc l s))

pub pairs-all : (out : List ℕ) (l : List listing.Interval) → pasted out 0 (encoded l) ≡ with_pairs l out
pairs-all out l = unfold pasted in let n : 0 + length (encoded l) ≡ 4 * length l = omega (arith, length-encoded l) in
    ap (λ (i : ℕ). encoded l ++ drop i out) n
