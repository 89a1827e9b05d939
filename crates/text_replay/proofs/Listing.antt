-- Places has at most a pair more than there are writes. Assumes nothing.
use mathlib.Core.{Bool.{Bool, true, false, cond, ◌&&◌, ◌||◌, false≢true}, List.{List, [], ◌∷◌}, Path.{◌≡◌, refl, sym, ap, ◌∙◌}}
use lib.{Dec.{eqb, leb, ltb}, ListN.length}
use borrow.Author.Tests.{eq-eqb, ne_eqb, eqb-true, leb-true, le-leb, ltb-true, ltb-false}
use native.Mathlib.Omega.{arith}
use Prim.Native.Nat.{ℕ, zero, suc, ◌+◌, ◌≤◌, ◌<◌}
use Rattle.limits.specs.Limits.{file_bytes}
use Rattle.standings.specs.declared.{Place.{Place, TheVariants.{At, After}}}
use Rattle.spec.specs.{Transactions.Write, Reading.lies_over}
use Rattle.spec.specs.Places.{Interval, interval, with_place, intervals_from, intervals_of, some_write, covers_place, covered}

-- ---- a stretch ends where its set does

joined_length : (p : ℕ) (l : List Interval) → length (with_place p (with_place (suc p) l)) ≡ length (with_place (suc p) l)
unfolding with_place
joined_length p [] = rw (eq-eqb (suc p) (suc p) refl)
joined_length p (s ∷ l) = pick (eqb s.offset (suc (suc p)))
  where
    pick : (b : Bool) → length (with_place p (cond b (interval (suc p) (suc s.length) ∷ l) (interval (suc p)
        1 ∷ (s ∷ l)))) ≡ length (cond b (interval (suc p) (suc s.length) ∷ l) (interval (suc p) 1 ∷ (s ∷ l)))
    pick true = rw (eq-eqb (suc p) (suc p) refl)
    pick false = rw (eq-eqb (suc p) (suc p) refl)

with-length : (p : ℕ) (l : List Interval) → length (with_place p l) ≤ suc (length l)
unfolding with_place
with-length p [] = omega arith
with-length p (s ∷ l) = pick (eqb s.offset (suc p))
  where
    pick : (b : Bool) → length (cond b (interval p (suc s.length) ∷ l) (interval p 1 ∷ (s ∷ l))) ≤ suc (suc (length l))
    pick true = omega arith
    pick false = omega arith

-- How many of n places from p on pass a test.
unfoldable count_from : (ℕ → Bool) → ℕ → ℕ → ℕ
count_from E p zero = 0
count_from E p (suc n) = cond (E p) (suc (count_from E (suc p) n)) (count_from E (suc p) n)

one_more : (s s' e : Bool) (p : ℕ) (l : List Interval) (c : ℕ) → (s ≡ true → s' ≡ false → e ≡ true)
    → length (cond s' (with_place (suc p) l) l) ≤ suc c → length
    (cond s (with_place p (cond s' (with_place (suc p) l) l)) (cond s' (with_place (suc p) l) l)) ≤ suc (cond e (suc c) c)
one_more false s' true p l c h k = omega (arith, k)
one_more false s' false p l c h k = k
one_more true true true p l c h k = omega (arith, k, joined_length p l)
one_more true true false p l c h k = omega (arith, k, joined_length p l)
one_more true false true p l c h k = omega (arith, k, with-length p l)
one_more true false false p l c h k = absurd (false≢true (h refl refl))

module _ (S E : ℕ → Bool) (ends : (q : ℕ) → S q ≡ true → S (suc q) ≡ false → E q ≡ true) where
  few-from : (p n : ℕ) → length (intervals_from S p n) ≤ suc (count_from E p n)
  unfolding intervals_from count_from
  few-from p zero = omega arith
  few-from p (suc zero) = pick (S p) (E p)
    where
      pick : (b e : Bool) → length (cond b (with_place p []) []) ≤ suc (cond e 1 0)
      pick true true = omega (arith, with-length p [])
      pick true false = omega (arith, with-length p [])
      pick false true = omega arith
      pick false false = omega arith
  few-from p (suc (suc n)) = one_more (S p) (S (suc p)) (E p) p (intervals_from S (suc (suc p)) n)
      (count_from E (suc p) (suc n)) (ends p) (few-from (suc p) (suc n))

-- ---- each write ends once

none-at : (p n : ℕ) → count_from (λ q. false) p n ≡ 0
unfolding count_from
none-at p zero = refl
none-at p (suc n) = none-at (suc p) n

no-later : (e p n : ℕ) → e ≤ p → count_from (λ q. eqb (suc q) e) p n ≡ 0
unfolding count_from
no-later e p zero h = refl
no-later e p (suc n) h = rw (ne_eqb (suc p) e (λ x. omega (arith, x, h))) (no-later e (suc p) n (omega arith))

once : (e p n : ℕ) → count_from (λ q. eqb (suc q) e) p n ≤ 1
unfolding count_from
once e p zero = omega arith
once e p (suc n) = pick (once e (suc p) n) (eqb (suc p) e) refl
  where
    pick : count_from (λ q. eqb (suc q) e) (suc p) n ≤ 1 → (b : Bool) → eqb (suc p) e ≡ b
        → cond b (suc (count_from (λ q. eqb (suc q) e) (suc p) n)) (count_from (λ q. eqb (suc q) e) (suc p) n) ≤ 1
    pick h true x = omega (arith, no-later e (suc p) n (omega (arith, eqb-true (suc p) e x)))
    pick h false x = h

either : (t u : ℕ → Bool) (p n : ℕ) → count_from (λ q. t q || u q) p n ≤ count_from t p n + count_from u p n
unfolding count_from
either t u p zero = omega arith
either t u p (suc n) = pick (t p) (u p) _ _ _ (either t u (suc p) n)
  where
    pick : (a b : Bool) (c x y : ℕ) → c ≤ x + y → cond (a || b) (suc c) c ≤ cond a (suc x) x + cond b (suc y) y
    pick true true c x y h = omega (arith, h)
    pick true false c x y h = omega (arith, h)
    pick false true c x y h = omega (arith, h)
    pick false false c x y h = h

-- ---- the places of writes

unfoldable end_at : Place → ℕ → ℕ
end_at (At a) n = a + n
end_at (After a) n = 0

abbrev ends_at : ℕ → Write → Bool
ends_at q w = eqb (suc q) (end_at w.place (length w.bytes))

and_both : (a b : Bool) → (a && b) ≡ true → (a ≡ true) × (b ≡ true)
and_both true b e = (refl, e)
and_both false b e = absurd (false≢true e)

over-end : (l : Place) (n q : ℕ) → lies_over l n q ≡ true → lies_over l n (suc q) ≡ false → eqb (suc q) (end_at l n) ≡ true
unfolding lies_over end_at
over-end (At a) n q ins out = let y = and_both (leb a q) (ltb q (a + n)) ins in let g = leb-true a q y.0 in
    let l = ltb-true q (a + n) y.1 in
    pick (ltb (suc q) (a + n)) refl (sym (ap (λ (b : Bool). b && ltb (suc q) (a + n)) (le-leb a (suc q) (omega arith)))
    ∙ out) l
  where
    pick : (b : Bool) → ltb (suc q) (a + n) ≡ b → b ≡ false → q < a + n → eqb (suc q) (a + n) ≡ true
    pick true e x l = absurd (false≢true (sym x))
    pick false e x l = eq-eqb (suc q) (a + n) (omega (arith, l, ltb-false (suc q) (a + n) e))
over-end (After a) n q ins out = absurd (false≢true ins)

either-ends : (a b c d x y : Bool) → (a ≡ true → c ≡ false → x ≡ true) → (b ≡ true → d ≡ false → y ≡ true)
    → (a || b) ≡ true → (c || d) ≡ false → (x || y) ≡ true
either-ends true b true d x y h k e g = absurd (false≢true (sym g))
either-ends true b false d x y h k e g = ap (λ (z : Bool). z || y) (h refl refl)
either-ends false b true d x y h k e g = absurd (false≢true (sym g))
either-ends false b false d true y h k e g = refl
either-ends false b false d false y h k e g = k e g

module _ (file : ℕ → ℕ) (f : ℕ) where
  write-end : (w : Write) (q : ℕ) → covers_place file f q w ≡ true → covers_place file f (suc q) w ≡ false → ends_at q w ≡ true
  unfolding covers_place
  write-end w q ins out = pick (eqb (file w.descriptor) f) ins out
    where
      pick : (b : Bool) → (b && lies_over w.place (length w.bytes) q) ≡ true
          → (b && lies_over w.place (length w.bytes) (suc q)) ≡ false → ends_at q w ≡ true
      pick true ins out = over-end w.place (length w.bytes) q ins out
      pick false ins out = absurd (false≢true ins)

  some_end : (ws : List Write) (q : ℕ) → covered file f ws q ≡ true → covered file f ws (suc q) ≡ false
      → some_write (ends_at q) ws ≡ true
  unfolding covered some_write
  some_end [] q ins out = absurd (false≢true ins)
  some_end (w ∷ ws) q ins out = either-ends (covers_place file f q w) (covered file f ws q) (covers_place file f (suc q) w)
      (covered file f ws (suc q)) _ _ (write-end w q) (some_end ws q) ins out

  few-ends : (ws : List Write) (p n : ℕ) → count_from (λ q. some_write (ends_at q) ws) p n ≤ length ws
  unfolding some_write
  few-ends [] p n = omega (arith, none-at p n)
  few-ends (w ∷ ws) p n = omega (
    arith,
    either (λ q. ends_at q w) (λ q. some_write (ends_at q) ws) p n,
    once (end_at w.place (length w.bytes)) p n,
    few-ends ws p n,
  )

  pub few-intervals : (ws : List Write) → length (intervals_of (covered file f ws)) ≤ suc (length ws)
  few-intervals ws = unfold intervals_of in omega (
    arith,
    few-from (covered file f ws) (λ q. some_write (ends_at q) ws) (some_end ws) 0 file_bytes,
    few-ends ws 0 file_bytes,
  )
