-- One write record more in ascending order: what the pass has met is the list of what is covered so far. Assumes nothing.
use mathlib.Core.{Bool.{Bool, true, false, cond, ◌&&◌, ◌||◌, or-false, false≢true}, List.{List, [], ◌∷◌, ◌++◌}}
use mathlib.Core.{Logic.{◌⊎◌, inl, inr, ⊎_elim}, Path.{◌≡◌, refl, sym, ap, ◌∙◌}}
use lib.{Dec.{leb, eqb}, ListN.length}
use Prim.Native.Nat.{ℕ, suc, ◌+◌, ◌-◌, ◌*◌, ◌≤◌, ◌<◌}
use native.Mathlib.Omega.{arith}
use borrow.Author.Tests.{eq-eqb, ne_eqb, eqb-true, eqb-false, leb-true}
use Rattle.limits.specs.Limits.{file_bytes}
use Rattle.buffers.{specs.Parts.pasted, proofs.PartLaws.{le-or-lt, length-pasted}}
use Rattle.standings.specs.declared.{Place.{Place, TheVariants.{At, After}}}
use Rattle.admission.proofs.Laws.{and_left, and_right}
use Rattle.spec.specs.{Reading.lies_over, Places.{Interval, interval, in_interval, intervals_of, sixteen, encoded}}
use Rattle.call_places.specs.{declared.ascending.Sweep.Sweep, Ascending.{swept_place, swept_write, with_last}}
use Rattle.call_places.specs.declared.PlaceInterval.{PlaceInterval as Span}
use Rattle.call_places.proofs.ListLaws.{as_listed, length-snoc, pair, length-pair, length-encoded, list-pairs-more}
use Rattle.call_places.proofs.ListLaws.{pasted-twice}
use Rattle.call_places.proofs.EndLaws.{in-below, over-in, in-none, end-positive, list_same, list-begun, list-joined}

-- ---- what a pass has met

-- One list is another, or has an interval more.
abbrev pub Over : List Interval → List Interval → Type 0
Over m l = (m ≡ l) ⊎ ((s : Interval) × (m ≡ l ++ (s ∷ [])))

-- The last interval, and those before it.
pub record Last (S : ℕ → Bool) (s : Sweep) : Type 0 where
  pub earlier : List Interval
  pub some : suc s.offset < s.next
  pub joins : intervals_of S ≡ earlier ++ (interval s.offset (s.next - 1 - s.offset) ∷ [])

pub record Swept (S : ℕ → Bool) (s : Sweep) : Type 0 where
  pub below : (q : ℕ) → S q ≡ true → suc q < s.next
  pub within : s.next ≤ 4097
  pub count : length (intervals_of S) ≡ s.intervals
  pub last : 1 ≤ s.next → Last S s

-- After a record: the set was S.
pub record Step (S T : ℕ → Bool) (s : Sweep) : Type 0 where
  pub swept : Swept T s
  pub none : s.next ≡ 0 → intervals_of S ≡ intervals_of T
  pub over : (h : 1 ≤ s.next) → Over (intervals_of S) (swept.last h).earlier

module _ (S T : ℕ → Bool) (s : Sweep) (so : Swept S s) where
  -- the record is passed over
  step_same : ((q : ℕ) → T q ≡ S q) → Step S T s
  step_same e = let l : intervals_of T ≡ intervals_of S = list_same S T e in record {
    swept = record {
      below = λ q i. so.below q (sym (e q) ∙ i);
      within = so.within;
      count = ap length l ∙ so.count;
      last = λ h. let w = so.last h in record { earlier = w.earlier; some = w.some; joins = l ∙ w.joins };
    };
    none = λ z. sym l;
    over = λ h. inr (interval s.offset (s.next - 1 - s.offset), (so.last h).joins);
  }

  module _ (p n : ℕ) (some : 1 ≤ n) (within : p + n ≤ file_bytes) (more : (q : ℕ)
      → T q ≡ (S q || in_interval (interval p n) q)) where
    below_end : s.next ≤ p + 1 → (q : ℕ) → T q ≡ true → suc q < p + n + 1
    below_end h q e = pick (S q) refl (sym (more q) ∙ e)
      where
        pick : (b : Bool) → S q ≡ b → (b || in_interval (interval p n) q) ≡ true → suc q < p + n + 1
        pick true i e = omega (arith, so.below q i)
        pick false i e = omega (arith, in-below (interval p n) q e)

    step-begun : (b : Bool) → s.next ≤ p
        → Step S T (record { ascending = b; intervals = s.intervals + 1; offset = p; next = p + n + 1 })
    step-begun b h = let l = list-begun S T p n within more some (λ q e. omega (arith, so.below q e)) in
        let e : n ≡ p + n + 1 - 1 - p = omega arith in record {
          swept = record {
            below = below_end (omega arith);
            within = omega arith;
            count = ap length l ∙ length-snoc (intervals_of S) (interval p n) ∙ ap (λ (k : ℕ). k + 1) so.count;
            last = λ g. record {
              earlier = intervals_of S;
              some = omega arith;
              joins = l ∙ ap (λ (k : ℕ). intervals_of S ++ (interval p k ∷ [])) e;
            };
          };
          none = λ z. absurd (omega arith);
          over = λ g. inl refl;
        }

    step-joined : (b : Bool) → s.next ≡ p + 1
        → Step S T (record { ascending = b; intervals = s.intervals; offset = s.offset; next = p + n + 1 })
    step-joined b h = let w : Last S s = so.last (omega arith) in let m : ℕ = s.next - 1 - s.offset in
        let l = list-joined S T p n within more w.earlier s.offset m (omega (arith, w.some)) w.joins in
        let e : m + n ≡ p + n + 1 - 1 - s.offset = omega (arith, w.some) in record {
          swept = record {
            below = below_end (omega arith);
            within = omega arith;
            count = ap length l ∙ length-snoc w.earlier (interval s.offset (m + n))
                ∙ sym (length-snoc w.earlier (interval s.offset m)) ∙ sym (ap length w.joins) ∙ so.count;
            last = λ g. record {
              earlier = w.earlier;
              some = omega (arith, w.some);
              joins = l ∙ ap (λ (k : ℕ). w.earlier ++ (interval s.offset k ∷ [])) e;
            };
          };
          none = λ z. absurd (omega arith);
          over = λ g. inr (interval s.offset m, w.joins);
        }

-- What n bytes at place p bring; b says whether they begin another interval.
abbrev pub sweep-placed : Sweep → ℕ → ℕ → Bool → Sweep
sweep-placed s p n b = cond b (record { ascending = s.ascending; intervals = s.intervals + 1; offset = p; next = p + n + 1 })
    (record { ascending = s.ascending && eqb s.next (p + 1); intervals = s.intervals; offset = s.offset; next = p + n + 1 })

-- A record of n bytes with that place; b says whether it is one of the file.
module _ (S T : ℕ → Bool) (s : Sweep) where
  step-place : (p n : ℕ) → 1 ≤ n → p + n ≤ file_bytes → ((q : ℕ) → T q ≡ (S q || in_interval (interval p n) q))
      → (s.ascending ≡ true → Swept S s) → (swept_place s p n).ascending ≡ true → Step S T (swept_place s p n)
  unfolding swept_place
  step-place p n some within more so = pick (leb s.next p) refl
    where
      pick : (b : Bool) → leb s.next p ≡ b → (sweep-placed s p n b).ascending ≡ true → Step S T (sweep-placed s p n b)
      pick true e a = step-begun S T s (so a) p n some within more s.ascending (leb-true s.next p e)
      pick false e a = step-joined S T s (so (and_left s.ascending (eqb s.next (p + 1)) a)) p n some within more
          (s.ascending && eqb s.next (p + 1))
          (eqb-true s.next (p + 1) (and_right s.ascending (eqb s.next (p + 1)) a))

  pub step-record : (b : Bool) (z : Place) (n : ℕ) → ((p : ℕ) → z ≡ At p → p + n ≤ file_bytes)
      → ((q : ℕ) → T q ≡ (S q || (b && lies_over z n q))) → (s.ascending ≡ true → Swept S s)
      → (cond b (swept_write s z n) s).ascending ≡ true → Step S T (cond b (swept_write s z n) s)
  unfolding swept_write
  step-record false z n within more so a = step_same S T s (so a) (λ q. more q ∙ or-false (S q))
  step-record true (After p) n within more so a = absurd (false≢true a)
  step-record true (At p) n within more so a = pick (eqb n 0) refl a
    where
      pick : (b : Bool) → eqb n 0 ≡ b → (cond b s (swept_place s p n)).ascending ≡ true → Step S T (cond b s (swept_place s p n))
      pick true e a = step_same S T s (so a) (λ q. more q ∙ nothing q (eqb-true n 0 e))
        where
          nothing : (q : ℕ) → n ≡ 0 → (S q || lies_over (At p) n q) ≡ S q
          nothing q z = ap (λ (b : Bool). S q || b) (over-in p n q ∙ in-none p n q z) ∙ or-false (S q)
      pick false e a = step-place p n (end-positive n (eqb-false n 0 e)) (within p refl) (λ q. more q
          ∙ ap (λ (b : Bool). S q || b) (over-in p n q)) so a

-- ---- the pair of the last interval

module _ (s : Sweep) (out : List ℕ) where
  pub last_none : s.next ≡ 0 → out ≡ with_last s out
  last_none z = unfold with_last in rw (eq-eqb s.next 0 z)

  pub last_some : (s.next ≡ 0 → ⊥)
      → pasted out (4 * (s.intervals - 1)) (sixteen s.offset ++ sixteen (s.next - 1 - s.offset)) ≡ with_last s out
  last_some h = unfold with_last in rw (ne_eqb s.next 0 h)

module _ (S T : ℕ → Bool) (s : Sweep) (step : Step S T s) (out : List ℕ) (room : 4 * length (intervals_of T) ≤ length out) where
  -- the last interval is new, or takes the place of the one that it lengthens
  last-put : (h : 1 ≤ s.next) → with_last s (pasted out 0 (encoded (intervals_of S))) ≡ pasted out 0 (encoded (intervals_of T))
  last-put h = sym (last_some s (pasted out 0 (encoded (intervals_of S))) (λ z. omega arith))
      ∙ ⊎_elim begun lengthened (step.over h) ∙ ap (λ (l : List Interval). pasted out 0 (encoded l)) (sym w.joins)
    where
      w : Last T s
      w = step.swept.last h

      x : Span
      x = record { offset = s.offset; length = s.next - 1 - s.offset }

      size : 4 * length w.earlier + 4 ≡ 4 * length (intervals_of T)
      size = omega (arith, ap length w.joins, length-snoc w.earlier (as_listed x))

      place : 4 * (s.intervals - 1) ≡ 4 * length w.earlier
      place = omega (arith, size, step.swept.count)

      begun : intervals_of S ≡ w.earlier → pasted (pasted out 0 (encoded (intervals_of S))) (4 * (s.intervals - 1))
          (pair x) ≡ pasted out 0 (encoded (w.earlier ++ (as_listed x ∷ [])))
      begun e = ap (λ (l : List Interval). pasted (pasted out 0 (encoded l)) (4 * (s.intervals - 1)) (pair x)) e
          ∙ list-pairs-more out w.earlier x (4 * (s.intervals - 1)) place (omega (arith, size, place))

      lengthened : ((y : Interval) × (intervals_of S ≡ w.earlier ++ (y ∷ []))) → pasted (pasted out 0 (encoded
          (intervals_of S))) (4 * (s.intervals - 1)) (pair x) ≡ pasted out 0 (encoded (w.earlier ++ (as_listed x ∷ [])))
      lengthened e = let state =
          length-pasted out 0 (encoded w.earlier) (omega (arith, size, length-encoded w.earlier)) in
          let y : Span = record { offset = e.0.offset; length = e.0.length } in
          let o = pasted out 0 (encoded w.earlier) in let at = 4 * (s.intervals - 1) in
          ap (λ (l : List Interval). pasted (pasted out 0 (encoded l)) at (pair x)) e.1 ∙ ap (λ (l : List ℕ). pasted l at
          (pair x)) (sym (list-pairs-more out w.earlier y at place (omega (arith, size, place)))) ∙ pasted-twice o at
          (pair y) (pair x) (omega (arith, size, place, length-pair y, length-encoded w.earlier, state)) (length-pair y
          ∙ sym (length-pair x)) ∙ list-pairs-more out w.earlier x at place (omega (arith, size, place))

  pub step-put : with_last s (pasted out 0 (encoded (intervals_of S))) ≡ pasted out 0 (encoded (intervals_of T))
  step-put = ⊎_elim last-put
      (λ h. let z : s.next ≡ 0 = omega arith in sym (last_none s (pasted out 0 (encoded (intervals_of S))) z)
      ∙ ap (λ (l : List Interval). pasted out 0 (encoded l)) (step.none z)) (le-or-lt 1 s.next)
