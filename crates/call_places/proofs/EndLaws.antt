-- A list of intervals that goes on at its end, and the list of a set with places more past it. Assumes nothing.
use mathlib.Core.{Bool.{Bool, true, false, ◌&&◌, ◌||◌, and-false, or-false, or-true, or_assoc}, List.{List, [], ◌∷◌, ◌++◌}}
use mathlib.Core.{Logic.⊎_elim, Path.{◌≡◌, refl, sym, ap, ap₂, subst, ◌∙◌}}
use lib.Dec.{leb, ltb}
use Prim.Native.Nat.{ℕ, zero, suc, ◌+◌, ◌-◌, ◌≤◌, ◌<◌}
use native.Mathlib.Omega.{arith}
use borrow.Author.Tests.{lt-ltb, le-ltb, le-leb, lt-leb, leb-true, ltb-true, ltb-false}
use Rattle.limits.specs.Limits.{file_bytes}
use Rattle.buffers.proofs.PartLaws.{le-or-lt}
use Rattle.standings.specs.declared.Place.TheVariants.{At}
use Rattle.admission.proofs.Laws.{and_left, and_right}
use Rattle.spec.specs.Reading.{lies_over}
use Rattle.spec.specs.Places.{Interval, interval, interval_end, in_interval, listed, ProperFrom, Proper, intervals_of}
use Rattle.spec.proofs.Places.{IntervalLaws.intervals-same, PlacesLaws.{lists-its-places, is-proper, the-one-list}}

-- ---- an interval at the end of a list

pub in-below : (s : Interval) (q : ℕ) → in_interval s q ≡ true → q < interval_end s
in-below s q e = unfold in_interval in ltb-true q (interval_end s) (and_right (leb s.offset q) _ e)

in-above : (s : Interval) (q : ℕ) → in_interval s q ≡ true → s.offset ≤ q
in-above s q e = unfold in_interval in leb-true s.offset q (and_left (leb s.offset q) _ e)

in-past : (s : Interval) (q : ℕ) → interval_end s ≤ q → in_interval s q ≡ false
in-past s q h = unfold in_interval in rw (le-ltb q (interval_end s) h) (and-false (leb s.offset q))

pub over-in : (p n q : ℕ) → lies_over (At p) n q ≡ in_interval (interval p n) q
over-in p n q = unfold lies_over in_interval in refl

pub in-none : (p n q : ℕ) → n ≡ 0 → in_interval (interval p n) q ≡ false
in-none p n q z = pick (in_interval (interval p n) q) refl
  where
    pick : (b : Bool) → in_interval (interval p n) q ≡ b → b ≡ false
    pick false e = refl
    pick true e = absurd (omega (arith, in-below (interval p n) q e, in-above (interval p n) q e))

pub end-positive : (n : ℕ) → (n ≡ 0 → ⊥) → 1 ≤ n
end-positive zero h = absurd (h refl)
end-positive (suc n) h = omega arith

listed_here : (s : Interval) (l : List Interval) → 1 ≤ s.length → listed (s ∷ l) (interval_end s - 1) ≡ true
listed_here s l h = unfold listed in_interval in
    rw (le-leb s.offset (interval_end s - 1) (omega arith), lt-ltb (interval_end s - 1) (interval_end s) (omega arith))

listed-there : (s : Interval) (l : List Interval) (q : ℕ) → listed l q ≡ true → listed (s ∷ l) q ≡ true
listed-there s l q e = unfold listed in ap (λ (b : Bool). in_interval s q || b) e ∙ or-true (in_interval s q)

listed-snoc : (l : List Interval) (s : Interval) (q : ℕ) → listed (l ++ (s ∷ [])) q ≡ (listed l q || in_interval s q)
unfolding listed
listed-snoc [] s q = or-false (in_interval s q)
listed-snoc (x ∷ l) s q =
    ap (λ (b : Bool). in_interval x q || b) (listed-snoc l s q) ∙ sym (or_assoc (in_interval x q) (listed l q) (in_interval s q))

proper-snoc : (b p n : ℕ) (l : List Interval) → ProperFrom b l → b ≤ p → 1 ≤ n → ((q : ℕ) → listed l q ≡ true → suc q < p)
    → ProperFrom b (l ++ (interval p n ∷ []))
proper-snoc b p n [] x g h before = (g, h, tt)
proper-snoc b p n (s ∷ l) x g h before =
    let e : suc (interval_end s - 1) < p = before (interval_end s - 1) (listed_here s l x.1) in
    (x.0, x.1, proper-snoc (suc (interval_end s)) p n l x.2 (omega (arith, x.1)) h (λ q i. before q (listed-there s l q i)))

proper-longer : (b p m n : ℕ) (l : List Interval) → ProperFrom b (l ++ (interval p m ∷ []))
    → ProperFrom b (l ++ (interval p (m + n) ∷ []))
proper-longer b p m n [] x = (x.0, omega (arith, x.1), tt)
proper-longer b p m n (s ∷ l) x = (x.0, x.1, proper-longer (suc (interval_end s)) p m n l x.2)

in-longer : (p m n q : ℕ) → in_interval (interval p (m + n)) q ≡ (in_interval (interval p m) q || in_interval (interval (p + m) n) q)
unfolding in_interval
in-longer p m n q = ⊎_elim past here (le-or-lt (p + m) q)
  where
    past : p + m ≤ q → (leb p q && ltb q (p + (m + n))) ≡ ((leb p q && ltb q (p + m)) || (leb (p + m) q && ltb q (p + m + n)))
    past h = let e : p + (m + n) ≡ p + m + n = omega arith in
        rw (le-leb p q (omega arith), le-ltb q (p + m) h, le-leb (p + m) q h) (ap (ltb q) e)

    here : q < p + m → (leb p q && ltb q (p + (m + n))) ≡ ((leb p q && ltb q (p + m)) || (leb (p + m) q && ltb q (p + m + n)))
    here h = rw (lt-ltb q (p + m) h, lt-ltb q (p + (m + n)) (omega arith), lt-leb (p + m) q h) (sym (or-false (leb p q && true)))

listed-longer : (l : List Interval) (p m n q : ℕ)
    → listed (l ++ (interval p (m + n) ∷ [])) q ≡ (listed (l ++ (interval p m ∷ [])) q || in_interval (interval (p + m) n) q)
listed-longer l p m n q = listed-snoc l (interval p (m + n)) q ∙ ap (λ (b : Bool). listed l q || b) (in-longer p m n q)
    ∙ sym (or_assoc (listed l q) (in_interval (interval p m) q) (in_interval (interval (p + m) n) q))
    ∙ ap (λ (b : Bool). b || in_interval (interval (p + m) n) q) (sym (listed-snoc l (interval p m) q))

-- ---- the list of a set and of n places more, from a on

module _ (S T : ℕ → Bool) where
  pub list_same : ((q : ℕ) → T q ≡ S q) → intervals_of T ≡ intervals_of S
  list_same e = unfold intervals_of in intervals-same T S 0 file_bytes (λ q g l. e q)

  module _ (a n : ℕ) (within : a + n ≤ file_bytes) (more : (q : ℕ) → T q ≡ (S q || in_interval (interval a n) q)) where
    list-more : (l : List Interval) → Proper l
        → ((q : ℕ) → listed l q ≡ (listed (intervals_of S) q || in_interval (interval a n) q)) → intervals_of T ≡ l
    list-more l x e = the-one-list (intervals_of T) l (is-proper T) x (λ q. same q)
      where
        both : (q : ℕ) (b : Bool) → (b ≡ false → in_interval (interval a n) q ≡ false)
            → (b && (S q || in_interval (interval a n) q)) ≡ ((b && S q) || in_interval (interval a n) q)
        both q true h = refl
        both q false h = sym (h refl)

        same : (q : ℕ) → listed (intervals_of T) q ≡ listed l q
        same q = lists-its-places T q ∙ ap (λ (b : Bool). ltb q file_bytes && b) (more q)
            ∙ both q (ltb q file_bytes) (λ f. in-past (interval a n) q (omega (arith, ltb-false q file_bytes f)))
            ∙ ap (λ (b : Bool). b || in_interval (interval a n) q) (sym (lists-its-places S q)) ∙ sym (e q)

    -- they lie past the set, and do not touch it
    pub list-begun : 1 ≤ n → ((q : ℕ) → S q ≡ true → suc q < a) → intervals_of T ≡ intervals_of S ++ (interval a n ∷ [])
    list-begun h before = list-more (intervals_of S ++ (interval a n ∷ [])) (proper-snoc 0 a n (intervals_of S) (is-proper S)
        (omega arith) h (λ q e. before q (and_right (ltb q file_bytes) (S q) (sym (lists-its-places S q) ∙ e))))
        (λ q. listed-snoc (intervals_of S) (interval a n) q)

    -- they go on with its last interval
    pub list-joined : (l : List Interval) (p m : ℕ) → p + m ≡ a → intervals_of S ≡ l ++ (interval p m ∷ [])
        → intervals_of T ≡ l ++ (interval p (m + n) ∷ [])
    list-joined l p m e so = list-more (l ++ (interval p (m + n) ∷ [])) (proper-longer 0 p m n l
        (subst (λ (r : List Interval). ProperFrom 0 r) so (is-proper S))) (λ q. listed-longer l p m n q
        ∙ ap₂ (λ (r : List Interval) (i : ℕ). listed r q || in_interval (interval i n) q) (sym so) e)
