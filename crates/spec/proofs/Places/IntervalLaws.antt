-- The laws of lists of intervals: which places lie in them, when two are equal, and how the list of a set of places begins.
-- Assumes nothing.
use mathlib.Core.{Bool.{Bool, true, false, ◌||◌, and-false, false≢true}, List.{List, [], ◌∷◌}, Logic.⊎_elim}
use mathlib.Core.Path.{◌≡◌, refl, sym, ap, ap₂, subst, ◌∙◌}
use lib.Dec.{leb, eqb}
use Prim.Native.Nat.{ℕ, zero, suc, ◌+◌, ◌≤◌, ◌<◌}
use native.Mathlib.{Nat.{add-zero, zero-add}, Omega.arith}
use borrow.Author.Tests.{lt-ltb, le-ltb, le-leb, lt-leb, eq-eqb, ne_eqb, eqb-true, eqb-false}
use Rattle.buffers.proofs.PartLaws.{le-or-lt}
use Rattle.spec.specs.Places.{Interval, interval, interval_end, in_interval, listed, ProperFrom, with_place, intervals_from}

-- ---- which places lie in an interval

module _ (s : Interval) (p : ℕ) where
  in-it : s.offset ≤ p → p < interval_end s → in_interval s p ≡ true
  in-it g l = unfold in_interval in rw (le-leb s.offset p g, lt-ltb p (interval_end s) l)

  before-it : p < s.offset → in_interval s p ≡ false
  before-it l = unfold in_interval in rw (lt-leb s.offset p l)

  after-it : interval_end s ≤ p → in_interval s p ≡ false
  after-it l = unfold in_interval in rw (le-ltb p (interval_end s) l) (and-false (leb s.offset p))

-- ---- which places lie in a list

listed_cons : (s : Interval) (l : List Interval) (p : ℕ) → listed (s ∷ l) p ≡ (in_interval s p || listed l p)
listed_cons s l p = unfold listed in refl

listed_here : (s : Interval) (l : List Interval) (p : ℕ) → in_interval s p ≡ true → listed (s ∷ l) p ≡ true
listed_here s l p e = listed_cons s l p ∙ ap (λ (b : Bool). b || listed l p) e

listed-later : (s : Interval) (l : List Interval) (p : ℕ) → in_interval s p ≡ false → listed (s ∷ l) p ≡ listed l p
listed-later s l p e = listed_cons s l p ∙ ap (λ (b : Bool). b || listed l p) e

pub listed-before : (b p : ℕ) (l : List Interval) → ProperFrom b l → p < b → listed l p ≡ false
unfolding listed
listed-before b p [] x h = refl
listed-before b p (s ∷ l) x h = listed-later s l p (before-it s p (omega (arith, x.0)))
    ∙ listed-before (suc (interval_end s)) p l x.2 (omega (arith, x.0))

pub weaker : (b c : ℕ) (l : List Interval) → ProperFrom b l → c ≤ b → ProperFrom c l
weaker b c [] x h = tt
weaker b c (s ∷ l) x h = (omega (arith, x.0), x.1, x.2)

-- ---- one set of places has one list

module _ (b : ℕ) (s t : Interval) (l m : List Interval) (x : ProperFrom b (s ∷ l)) (y : ProperFrom b (t ∷ m))
    (same : (p : ℕ) → listed (s ∷ l) p ≡ listed (t ∷ m) p) where
  first-not-below : t.offset ≤ s.offset
  first-not-below = ⊎_elim (λ h. h) (λ h. absurd (false≢true (sym (clear h) ∙ sym (same s.offset) ∙ listed_here s l
      s.offset (in-it s s.offset (omega arith) (omega (arith, x.1)))))) (le-or-lt t.offset s.offset)
    where
      clear : s.offset < t.offset → listed (t ∷ m) s.offset ≡ false
      clear h = listed-before t.offset s.offset (t ∷ m) (omega arith, y.1, y.2) h

  end-not-below : s.offset ≡ t.offset → interval_end t ≤ interval_end s
  end-not-below e = ⊎_elim (λ h. h) (λ h. absurd (false≢true (sym clear ∙ same (interval_end s) ∙ listed_here t m
      (interval_end s) (in-it t (interval_end s) (omega arith) h)))) (le-or-lt (interval_end t) (interval_end s))
    where
      clear : listed (s ∷ l) (interval_end s) ≡ false
      clear = listed-later s l (interval_end s) (after-it s (interval_end s) (omega arith))
          ∙ listed-before (suc (interval_end s)) (interval_end s) l x.2 (omega arith)

  rest-same : interval_end s ≡ interval_end t → (p : ℕ) → listed l p ≡ listed m p
  rest-same e p = ⊎_elim (λ h. clear h) (λ h. later h) (le-or-lt p (interval_end s))
    where
      clear : p ≤ interval_end s → listed l p ≡ listed m p
      clear h = listed-before (suc (interval_end s)) p l x.2 (omega arith)
          ∙ sym (listed-before (suc (interval_end t)) p m y.2 (omega arith))

      later : interval_end s < p → listed l p ≡ listed m p
      later h = sym (listed-later s l p (after-it s p (omega arith))) ∙ same p ∙ listed-later t m p (after-it t p (omega arith))

pub one_list : (b : ℕ) (l m : List Interval) → ProperFrom b l → ProperFrom b m → ((p : ℕ) → listed l p ≡ listed m p) → l ≡ m
one_list b [] [] x y same = refl
one_list b [] (t ∷ m) x y same = absurd (false≢true (unfold listed in same t.offset
    ∙ listed_here t m t.offset (in-it t t.offset (omega arith) (omega (arith, y.1)))))
one_list b (s ∷ l) [] x y same = absurd (false≢true (unfold listed in sym (same s.offset)
    ∙ listed_here s l s.offset (in-it s s.offset (omega arith) (omega (arith, x.1)))))
one_list b (s ∷ l) (t ∷ m) x y same = let back : (p : ℕ) → listed (t ∷ m) p ≡ listed (s ∷ l) p = λ p. sym (same p) in
    let o : s.offset ≡ t.offset = omega (arith, first-not-below b s t l m x y same, first-not-below b t s m l y x back) in
    let e : interval_end s ≡ interval_end t =
    omega (arith, end-not-below b s t l m x y same o, end-not-below b t s m l y x back (sym o)) in
    let n : s.length ≡ t.length = omega arith in
    ap₂ (λ (u : Interval) (r : List Interval). u ∷ r) (ap₂ interval o n) (one_list (suc (interval_end s)) l m x.2
    (weaker (suc (interval_end t)) (suc (interval_end s)) m y.2 (omega arith)) (rest-same b s t l m x y same e))

-- ---- one place more

with-joined : (p : ℕ) (s : Interval) (l : List Interval) → s.offset ≡ suc p → with_place p (s ∷ l) ≡ interval p (suc s.length)
    ∷ l
with-joined p s l e = unfold with_place in rw (eq-eqb s.offset (suc p) e)

with-apart : (p : ℕ) (l : List Interval) → ProperFrom (suc (suc p)) l → with_place p l ≡ interval p 1 ∷ l
unfolding with_place
with-apart p [] x = refl
with-apart p (s ∷ l) x = rw (ne_eqb s.offset (suc p) (λ e. omega (arith, x.0)))

-- a list that may start at the next place is joined or not
module _ (p : ℕ) (s : Interval) (l : List Interval) (x : ProperFrom (suc p) (s ∷ l)) where
  apart : (s.offset ≡ suc p → ⊥) → ProperFrom (suc (suc p)) (s ∷ l)
  apart ne = (⊎_elim (λ h. h) (λ h. absurd (ne (omega (arith, x.0)))) (le-or-lt (suc (suc p)) s.offset), x.1, x.2)

with-proper : (p : ℕ) (l : List Interval) → ProperFrom (suc p) l → ProperFrom p (with_place p l)
with-proper p [] x = unfold with_place in (omega arith, omega arith, tt)
with-proper p (s ∷ l) x = pick (eqb s.offset (suc p)) refl
  where
    pick : (b : Bool) → eqb s.offset (suc p) ≡ b → ProperFrom p (with_place p (s ∷ l))
    pick true e = let o = eqb-true s.offset (suc p) e in
        rw (with-joined p s l o)
        (omega arith, omega arith, weaker (suc (interval_end s)) (suc (p + suc s.length)) l x.2 (omega arith))
    pick false e = let a = apart p s l x (eqb-false s.offset (suc p) e) in
        rw (with-apart p (s ∷ l) a) (omega arith, omega arith, (omega (arith, a.0), x.1, x.2))

with-here : (p : ℕ) (l : List Interval) → ProperFrom (suc p) l → listed (with_place p l) p ≡ true
with-here p [] x = unfold with_place in listed_here (interval p 1) [] p (in-it (interval p 1) p (omega arith) (omega arith))
with-here p (s ∷ l) x = pick (eqb s.offset (suc p)) refl
  where
    pick : (b : Bool) → eqb s.offset (suc p) ≡ b → listed (with_place p (s ∷ l)) p ≡ true
    pick true e = rw (with-joined p s l (eqb-true s.offset (suc p) e))
        (listed_here (interval p (suc s.length)) l p (in-it (interval p (suc s.length)) p (omega arith) (omega arith)))
    pick false e = rw (with-apart p (s ∷ l) (apart p s l x (eqb-false s.offset (suc p) e)))
        (listed_here (interval p 1) (s ∷ l) p (in-it (interval p 1) p (omega arith) (omega arith)))

-- a place other than p lies in p's own interval of n + 1 places exactly when it lies in that of the n places after p
other-in : (p n q : ℕ) → (q ≡ p → ⊥) → in_interval (interval p (suc n)) q ≡ in_interval (interval (suc p) n) q
other-in p n q ne = ⊎_elim below above (le-or-lt q p)
  where
    below : q ≤ p → in_interval (interval p (suc n)) q ≡ in_interval (interval (suc p) n) q
    below h = before-it (interval p (suc n)) q (⊎_elim (λ g. absurd (ne (omega arith))) (λ g. g) (le-or-lt p q))
        ∙ sym (before-it (interval (suc p) n) q (omega arith))

    above : p < q → in_interval (interval p (suc n)) q ≡ in_interval (interval (suc p) n) q
    above h = ⊎_elim (λ g. after-it (interval p (suc n)) q (omega arith)
        ∙ sym (after-it (interval (suc p) n) q (omega arith))) (λ g. in-it (interval p (suc n)) q (omega arith)
        (omega arith) ∙ sym (in-it (interval (suc p) n) q (omega arith) (omega arith))) (le-or-lt (p + suc n) q)

other-one : (p q : ℕ) → (q ≡ p → ⊥) → in_interval (interval p 1) q ≡ false
other-one p q ne = ⊎_elim (λ h. before-it (interval p 1) q (⊎_elim (λ g. absurd (ne (omega arith))) (λ g. g) (le-or-lt p q)))
    (λ h. after-it (interval p 1) q (omega arith)) (le-or-lt q p)

with-other : (p q : ℕ) (l : List Interval) → ProperFrom (suc p) l → (q ≡ p → ⊥) → listed (with_place p l) q ≡ listed l q
with-other p q [] x ne = unfold with_place in listed-later (interval p 1) [] q (other-one p q ne)
with-other p q (s ∷ l) x ne = pick (eqb s.offset (suc p)) refl
  where
    pick : (b : Bool) → eqb s.offset (suc p) ≡ b → listed (with_place p (s ∷ l)) q ≡ listed (s ∷ l) q
    pick true e = let o = eqb-true s.offset (suc p) e in
        ap (λ (r : List Interval). listed r q) (with-joined p s l o) ∙ listed_cons (interval p (suc s.length)) l q
        ∙ ap (λ (b : Bool). b || listed l q) (other-in p s.length q ne
        ∙ ap (λ (o : ℕ). in_interval (interval o s.length) q) (sym o)) ∙ sym (listed_cons s l q)
    pick false e = ap (λ (r : List Interval). listed r q) (with-apart p (s ∷ l)
        (apart p s l x (eqb-false s.offset (suc p) e))) ∙ listed-later (interval p 1) (s ∷ l) q (other-one p q ne)

-- ---- the list of a set

module _ (S : ℕ → Bool) (p n : ℕ) where
  from_in : S p ≡ true → intervals_from S p (suc n) ≡ with_place p (intervals_from S (suc p) n)
  from_in e = unfold intervals_from in rw e

  from_out : S p ≡ false → intervals_from S p (suc n) ≡ intervals_from S (suc p) n
  from_out e = unfold intervals_from in rw e

pub proper-from : (S : ℕ → Bool) (p n : ℕ) → ProperFrom p (intervals_from S p n)
proper-from S p zero = unfold intervals_from in tt
proper-from S p (suc n) = pick (S p) refl (proper-from S (suc p) n)
  where
    pick : (b : Bool) → S p ≡ b → ProperFrom (suc p) (intervals_from S (suc p) n) → ProperFrom p (intervals_from S p (suc n))
    pick true e x = rw (from_in S p n e) (with-proper p (intervals_from S (suc p) n) x)
    pick false e x = rw (from_out S p n e) (weaker (suc p) p (intervals_from S (suc p) n) x (omega arith))

-- its first place
listed-first : (S : ℕ → Bool) (p n : ℕ) → listed (intervals_from S p (suc n)) p ≡ S p
listed-first S p n = pick (S p) refl
  where
    pick : (b : Bool) → S p ≡ b → listed (intervals_from S p (suc n)) p ≡ S p
    pick true e = ap (λ (r : List Interval). listed r p) (from_in S p n e)
        ∙ with-here p (intervals_from S (suc p) n) (proper-from S (suc p) n) ∙ sym e
    pick false e = ap (λ (r : List Interval). listed r p) (from_out S p n e)
        ∙ listed-before (suc p) p (intervals_from S (suc p) n) (proper-from S (suc p) n) (omega arith) ∙ sym e

-- and its others
listed-other : (S : ℕ → Bool) (p n q : ℕ) → (q ≡ p → ⊥) → listed (intervals_from S p (suc n)) q
    ≡ listed (intervals_from S (suc p) n) q
listed-other S p n q ne = pick (S p) refl
  where
    pick : (b : Bool) → S p ≡ b → listed (intervals_from S p (suc n)) q ≡ listed (intervals_from S (suc p) n) q
    pick true e = ap (λ (r : List Interval). listed r q) (from_in S p n e)
        ∙ with-other p q (intervals_from S (suc p) n) (proper-from S (suc p) n) ne
    pick false e = ap (λ (r : List Interval). listed r q) (from_out S p n e)

pub listed-from : (S : ℕ → Bool) (p n q : ℕ) → p ≤ q → q < p + n → listed (intervals_from S p n) q ≡ S q
listed-from S p zero q g l = absurd (omega arith)
listed-from S p (suc n) q g l = ⊎_elim (λ h. listed-other S p n q (λ e. omega arith)
    ∙ listed-from S (suc p) n q (omega arith) (omega arith)) (λ h. let e : p ≡ q = omega arith in subst
    (λ (i : ℕ). listed (intervals_from S p (suc n)) i ≡ S i) e (listed-first S p n)) (le-or-lt (suc p) q)

pub listed-past : (S : ℕ → Bool) (p n q : ℕ) → p + n ≤ q → listed (intervals_from S p n) q ≡ false
listed-past S p zero q l = unfold intervals_from listed in refl
listed-past S p (suc n) q l = listed-other S p n q (λ e. omega arith) ∙ listed-past S (suc p) n q (omega arith)

-- ---- two sets with the same places

pub intervals-same : (S T : ℕ → Bool) (p n : ℕ) → ((q : ℕ) → p ≤ q → q < p + n → S q ≡ T q) → intervals_from S p n
    ≡ intervals_from T p n
unfolding intervals_from
intervals-same S T p zero same = refl
intervals-same S T p (suc n) same =
    rw (intervals-same S T (suc p) n (λ q g l. same q (omega arith) (omega arith)), same p (omega arith) (omega arith))

-- ---- how the list begins

-- places that are not in the set
pub skipped : (S : ℕ → Bool) (p k n : ℕ) → ((q : ℕ) → p ≤ q → q < p + k → S q ≡ false)
    → intervals_from S p (k + n) ≡ intervals_from S (p + k) n
skipped S p zero n out = ap₂ (intervals_from S) (sym (add-zero p)) (zero-add n)
skipped S p (suc k) n out = let e : suc k + n ≡ suc (k + n) = omega arith in let g : suc p + k ≡ p + suc k = omega arith in
    ap (intervals_from S p) e ∙ from_out S p (k + n) (out p (omega arith) (omega arith))
    ∙ skipped S (suc p) k n (λ q a b. out q (omega arith) (omega arith)) ∙ ap (λ (i : ℕ). intervals_from S i n) g

-- a list whose first place is not in the set starts after it
starts-after : (S : ℕ → Bool) (p n : ℕ) → (0 < n → S p ≡ false) → ProperFrom (suc p) (intervals_from S p n)
starts-after S p zero out = unfold intervals_from in tt
starts-after S p (suc n) out = rw (from_out S p n (out (omega arith))) (proper-from S (suc p) n)

-- a longest interval at the front
pub interval-first : (S : ℕ → Bool) (p k n : ℕ) → ((q : ℕ) → p ≤ q → q < p + suc k → S q ≡ true) → (0 < n → S (p + suc k) ≡ false)
    → intervals_from S p (suc k + n) ≡ interval p (suc k) ∷ intervals_from S (p + suc k) n
interval-first S p zero n within ended = let e : suc zero + n ≡ suc n = omega arith in
    let g : suc p ≡ p + suc zero = omega arith in
    ap (intervals_from S p) e ∙ from_in S p n (within p (omega arith) (omega arith)) ∙ with-apart p (intervals_from S (suc p)
    n) (starts-after S (suc p) n (λ h. ap S g ∙ ended h)) ∙ ap (λ (i : ℕ). interval p 1 ∷ intervals_from S i n) g
interval-first S p (suc k) n within ended = let e : suc (suc k) + n ≡ suc (suc k + n) = omega arith in
    let g : suc p + suc k ≡ p + suc (suc k) = omega arith in
    ap (intervals_from S p) e ∙ from_in S p (suc k + n) (within p (omega arith) (omega arith)) ∙ ap (with_place p)
    (interval-first S (suc p) k n (λ q a b. within q (omega arith) (omega arith)) (λ h. ap S g ∙ ended h))
    ∙ with-joined p (interval (suc p) (suc k)) (intervals_from S (suc p + suc k) n) refl
    ∙ ap (λ (i : ℕ). interval p (suc (suc k)) ∷ intervals_from S i n) g
