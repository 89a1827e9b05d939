-- Settling one descriptor after the other is settling them all at once.
use mathlib.Core.{Bool.{Bool, true, false, cond, not, ◌&&◌, ◌||◌}, List.{List, [], ◌∷◌, ◌++◌, map, append-nil}, Logic.⊎_elim}
use mathlib.Core.Path.{◌≡◌, refl, sym, ap, ap₂, ◌∙◌, fun_ext}
use borrow.Author.Tests.{eqb-true, eqb-false, eq-eqb, ne_eqb, lt-ltb, le-ltb}
use lib.Dec.{leb, ltb, eqb}
use native.Mathlib.Omega.{arith}
use Prim.Native.Nat.{ℕ, zero, suc, ◌+◌, ◌≤◌, ◌<◌}
use Rattle.limits.specs.Limits.{file_bytes}
use Rattle.standings.specs.{declared.{Standing.Standing, Place.Place}, Table.{advance, settled}}
use Rattle.buffers.proofs.PartLaws.{le-or-lt}
use Rattle.admission.specs.FirstRefusal.{below}
use Rattle.spec.specs.Items.{Item, offset, Values, done, result, asked}
use Rattle.spec.specs.Transactions.{Write, Txn, put, placed_at, place_write, settle, those, Settled, past, all, settling}
use Rattle.spec.specs.{Machine.lengthmarked, Calls.marked}
use Rattle.refinement.specs.Settling.{place_all, settle_all}

-- ---- one list of descriptors after another

-- Goes on where settling did not fail.
onward : {A : Type 0} → A → (Txn → A) → Settled → A
onward a k past = a
onward a k (all y) = k y

module _ (v : Values) where
  result-append : (ds es : List ℕ) (x : Txn)
      → result v (settling (ds ++ es) x) ≡ onward past (λ y. result v (settling es y)) (result v (settling ds x))
  unfolding settling result onward
  result-append [] es x = refl
  result-append (d ∷ ds) es x =
      pick (result-append ds es (settle d (v (offset d)) x)) (leb (v (offset d) + advance (x.standing d)) file_bytes)
    where
      next : Txn
      next = settle d (v (offset d)) x

      pick : result v (settling (ds ++ es) next) ≡ onward past (λ y. result v (settling es y)) (result v (settling ds next))
          → (b : Bool) → result v (cond b (settling (ds ++ es) next) (done past))
          ≡ onward past (λ y. result v (settling es y)) (result v (cond b (settling ds next) (done past)))
      pick e true = e
      pick e false = refl

  -- Settling sights no byte.
  pub marked-settling : (t : ℕ) (ds : List ℕ) (x : Txn) (is : List Item) (marks : List ℕ)
      → marked t (asked v (settling ds x) ++ is) marks ≡ marked t is marks
  unfolding settling asked marked
  marked-settling t [] x is marks = refl
  marked-settling t (d ∷ ds) x is marks =
      pick (marked-settling t ds (settle d (v (offset d)) x) is marks) (leb (v (offset d) + advance (x.standing d)) file_bytes)
    where
      next : Txn
      next = settle d (v (offset d)) x

      pick : marked t (asked v (settling ds next) ++ is) marks ≡ marked t is marks
          → (b : Bool) → marked t (asked v (cond b (settling ds next) (done past)) ++ is) marks ≡ marked t is marks
      pick e true = e
      pick e false = refl

  -- Nor a length.
  pub lengths-settling : (ds : List ℕ) (x : Txn) (is : List Item) (n : ℕ) → lengthmarked (asked v (settling ds x) ++ is) n
      ≡ lengthmarked is n
  unfolding settling asked lengthmarked
  lengths-settling [] x is n = refl
  lengths-settling (d ∷ ds) x is n =
      pick (lengths-settling ds (settle d (v (offset d)) x) is n) (leb (v (offset d) + advance (x.standing d)) file_bytes)
    where
      next : Txn
      next = settle d (v (offset d)) x

      pick : lengthmarked (asked v (settling ds next) ++ is) n ≡ lengthmarked is n
          → (b : Bool) → lengthmarked (asked v (cond b (settling ds next) (done past)) ++ is) n ≡ lengthmarked is n
      pick e true = e
      pick e false = refl

-- ---- a test cut off at a number

-- The numbers below n that pass.
first : (ℕ → Bool) → ℕ → ℕ → Bool
first p n e = p e && ltb e n

and-false : (b : Bool) → b && false ≡ false
and-false true = refl
and-false false = refl

and-true : (b : Bool) → b && true ≡ b
and-true true = refl
and-true false = refl

first-self : (p : ℕ → Bool) (n : ℕ) → first p n n ≡ false
first-self p n = unfold first in rw (le-ltb n n (omega arith)) (and-false (p n))

first-new : (p : ℕ → Bool) (n : ℕ) → first p (suc n) n ≡ p n
first-new p n = unfold first in rw (lt-ltb n (suc n) (omega arith)) (and-true (p n))

first-other : (p : ℕ → Bool) (n e : ℕ) → (e ≡ n → ⊥) → first p (suc n) e ≡ first p n e
unfolding first
first-other p n e ne = ⊎_elim (λ h. let g : suc n ≤ e = omega arith in rw (le-ltb e n h, le-ltb e (suc n) g))
    (λ h. rw (lt-ltb e n h, lt-ltb e (suc n) (omega arith))) (le-or-lt n e)

-- A test that nothing passes from n on.
first-all : (p : ℕ → Bool) (n : ℕ) → ((e : ℕ) → n ≤ e → p e ≡ false) → first p n ≡ p
first-all p n none = unfold first in
    fun_ext (λ e. ⊎_elim (λ h. rw (le-ltb e n h, none e h)) (λ h. rw (lt-ltb e n h) (and-true (p e))) (le-or-lt n e))

-- One number that passes no more or not: the same test.
first-skip : (p : ℕ → Bool) (n : ℕ) → p n ≡ false → first p n ≡ first p (suc n)
first-skip p n h = fun_ext (λ e. pick e (eqb e n) refl)
  where
    pick : (e : ℕ) (b : Bool) → eqb e n ≡ b → first p n e ≡ first p (suc n) e
    pick e true q = rw (eqb-true e n q) (first-self p n ∙ sym h ∙ sym (first-new p n))
    pick e false q = sym (first-other p n e (eqb-false e n q))

-- ---- one more descriptor

module _ (p : ℕ → Bool) (c : ℕ → ℕ) (n : ℕ) (passes : p n ≡ true) where
  place-more : (w : Write) → place_write n (c n) (place_all (first p n) c w) ≡ place_all (first p (suc n)) c w
  unfolding place_write place_all
  place-more w = ap (λ (q : Place). record { descriptor = w.descriptor; place = q; bytes = w.bytes })
      (pick (eqb w.descriptor n) refl)
    where
      pick : (b : Bool) → eqb w.descriptor n ≡ b → cond (eqb w.descriptor n)
          (placed_at (c n) (cond (first p n w.descriptor) (placed_at (c w.descriptor) w.place) w.place))
          (cond (first p n w.descriptor) (placed_at (c w.descriptor) w.place) w.place) ≡ cond
          (first p (suc n) w.descriptor) (placed_at (c w.descriptor) w.place) w.place
      pick true q = rw (q, eqb-true w.descriptor n q, first-self p n, first-new p n, passes)
      pick false q = rw (q, first-other p n w.descriptor (eqb-false w.descriptor n q))

  places-more : (ws : List Write) → map (place_write n (c n)) (map (place_all (first p n) c) ws)
      ≡ map (place_all (first p (suc n)) c) ws
  places-more [] = refl
  places-more (w ∷ ws) = ap₂ (λ (a : Write) (l : List Write). a ∷ l) (place-more w) (places-more ws)

  standing-more : (x : Txn) (e : ℕ) → put n (settled (c n) ((settle_all (first p n) c x).standing n))
      (settle_all (first p n) c x).standing e ≡ (settle_all (first p (suc n)) c x).standing e
  unfolding put settle_all
  standing-more x e = pick (eqb e n) refl
    where
      pick : (b : Bool) → eqb e n ≡ b → cond (eqb e n) (settled (c n) (cond (first p n n) (settled (c n) (x.standing n))
          (x.standing n))) (cond (first p n e) (settled (c e) (x.standing e)) (x.standing e)) ≡ cond (first p (suc n) e)
          (settled (c e) (x.standing e)) (x.standing e)
      pick true q = rw (q, eqb-true e n q, first-self p n, first-new p n, passes)
      pick false q = rw (q, first-other p n e (eqb-false e n q))

  settle-more : (x : Txn) → settle n (c n) (settle_all (first p n) c x) ≡ settle_all (first p (suc n)) c x
  unfolding settle settle_all
  settle-more x = ap₂ (λ (f : ℕ → Standing) (ws : List Write). record { standing = f; dirty = x.dirty; writes = ws })
      (fun_ext (standing-more x)) (places x)
    where
      places : (x : Txn) → map (place_write n (c n)) (settle_all (first p n) c x).writes ≡ (settle_all (first p (suc n)) c x).writes
      places x = unfold settle_all in places-more x.writes

-- ---- all of them

module _ (v : Values) (p : ℕ → Bool) (x : Txn) where
  abbrev offsets : ℕ → ℕ
  offsets d = v (offset d)

  -- 12: "settling .. takes committed offset plus advance above 4,096". Descriptor e passes, if it is settled.
  abbrev pub fits_at : ℕ → Bool
  fits_at e = not (p e) || leb (v (offset e) + advance (x.standing e)) file_bytes

  standing-preserved : (n : ℕ) → (settle_all (first p n) offsets x).standing n ≡ x.standing n
  standing-preserved n = unfold settle_all in rw (first-self p n)

  one_more : (n : ℕ) → result v (settling (cond (p n) (n ∷ []) []) (settle_all (first p n) offsets x))
      ≡ cond (fits_at n) (all (settle_all (first p (suc n)) offsets x)) past
  unfolding settling result
  one_more n = pick (p n) refl
    where
      expected : (b : Bool) → p n ≡ true → result v (cond b (done (all (settle n (offsets n)
          (settle_all (first p n) offsets x)))) (done past)) ≡ cond b (all (settle_all (first p (suc n)) offsets x)) past
      expected true q = ap all (settle-more p offsets n q x)
      expected false q = refl

      pick : (b : Bool) → p n ≡ b → result v (settling (cond b (n ∷ []) []) (settle_all (first p n) offsets x)) ≡ cond
          (not b || leb (v (offset n) + advance (x.standing n)) file_bytes) (all (settle_all (first p (suc n)) offsets x)) past
      pick true q = rw (standing-preserved n) (expected (leb (v (offset n) + advance (x.standing n)) file_bytes) q)
      pick false q = ap (λ (f : ℕ → Bool). all (settle_all f offsets x)) (first-skip p n q)

  none_yet : settle_all (first p 0) offsets x ≡ x
  unfolding settle_all
  none_yet = ap₂ (λ (f : ℕ → Standing) (ws : List Write). record { standing = f; dirty = x.dirty; writes = ws })
      (fun_ext (λ d. rw (nobody d))) (same x.writes)
    where
      nobody : (d : ℕ) → first p 0 d ≡ false
      nobody d = unfold first in rw (le-ltb d 0 (omega arith)) (and-false (p d))

      same : (ws : List Write) → map (place_all (first p 0) offsets) ws ≡ ws
      same [] = refl
      same (w ∷ ws) = ap₂ (λ (a : Write) (l : List Write). a ∷ l) (unfold place_all in rw (nobody w.descriptor)) (same ws)

  -- The first n in turn.
  in-turn : (n : ℕ) → result v (settling (those p n) x) ≡ cond (below fits_at n) (all (settle_all (first p n) offsets x)) past
  unfolding those below settling result onward
  in-turn zero = ap all (sym none_yet)
  in-turn (suc n) = result-append v (those p n) (cond (p n) (n ∷ []) []) x
      ∙ ap (onward past (λ y. result v (settling (cond (p n) (n ∷ []) []) y))) (in-turn n) ∙ pick (below fits_at n)
    where
      pick : (b : Bool) → onward past (λ y. result v (settling (cond (p n) (n ∷ []) []) y)) (cond b (all
          (settle_all (first p n) offsets x)) past) ≡ cond (b && fits_at n) (all (settle_all (first p (suc n)) offsets x)) past
      pick true = one_more n
      pick false = refl

  -- Settling those that pass a test, in ascending number, is settling them all at once, if all of them fit.
  pub settled-together : (n : ℕ) → ((e : ℕ) → n ≤ e → p e ≡ false)
      → result v (settling (those p n) x) ≡ cond (below fits_at n) (all (settle_all p (λ d. v (offset d)) x)) past
  settled-together n none =
      in-turn n ∙ ap (λ (f : ℕ → Bool). cond (below fits_at n) (all (settle_all f offsets x)) past) (first-all p n none)

-- ---- one descriptor among many

those-none : (p : ℕ → Bool) (n : ℕ) → ((e : ℕ) → e < n → p e ≡ false) → those p n ≡ []
unfolding those
those-none p zero h = refl
those-none p (suc n) h = rw (those-none p n (λ e l. h e (omega arith)), h n (omega arith))

pub those-one : (d : ℕ) (b : Bool) (n : ℕ) → d < n → those (λ e. eqb e d && b) n ≡ cond b (d ∷ []) []
unfolding those
those-one d b zero h = absurd (omega arith)
those-one d b (suc n) h = ⊎_elim (λ l. let e : n ≡ d = omega arith in rw (
  e,
  those-none (λ e. eqb e d && b) d (λ e g. let ne : e ≡ d → ⊥ = λ q. omega arith in rw (ne_eqb e d ne)),
  eq-eqb d d refl,
)) (λ l. let ne : n ≡ d → ⊥ = λ q. omega arith in rw (those-one d b n l, ne_eqb n d ne) (append-nil (cond b (d ∷ []) [])))
    (le-or-lt n d)
