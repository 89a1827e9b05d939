-- Every arrangement of a list is among its orders.
use mathlib.Core.{Bool.{Bool, true, false, cond}, List.{List, [], ◌∷◌, ◌++◌, map}, Path.{◌≡◌, refl, sym, ap, ◌∙◌, subst}}
use borrow.Author.Tests.{eqb-true, eqb-false, eq-eqb}
use lib.{Dec.eqb, ListN.{length, get_or}}
use native.Mathlib.{Omega.arith, Nat.le_of_suc-le-suc}
use Prim.Native.Nat.{ℕ, zero, suc, ◌+◌, ◌≤◌, ◌<◌}
use Rattle.spec_orders.specs.{Orders.{without, chained, orders_of, count_in, Arranges}, Laws.{In, first, later}}

-- ---- among lists

module _ (o : List ℕ) where
  in_left : (xs ys : List (List ℕ)) → In o xs → In o (xs ++ ys)
  in_left xs ys (first os) = first (os ++ ys)
  in_left xs ys (later p os h) = later p (os ++ ys) (in_left os ys h)

  in_right : (xs ys : List (List ℕ)) → In o ys → In o (xs ++ ys)
  in_right [] ys h = h
  in_right (x ∷ xs) ys h = later x (xs ++ ys) (in_right xs ys h)

  in-chained : (f : ℕ → List (List ℕ)) (n i : ℕ) → i < n → In o (f i) → In o (chained f n)
  unfolding chained
  in-chained f zero i l h = absurd (omega arith)
  in-chained f (suc n) i l h = pick (eqb i n) refl (λ k. in-chained f n i k h)
    where
      smaller : (i ≡ n → ⊥) → i < n
      smaller z = omega arith

      pick : (b : Bool) → eqb i n ≡ b → (i < n → In o (chained f n)) → In o (chained f n ++ f n)
      pick true e k = in_right (chained f n) (f n) (subst (λ (j : ℕ). In o (f j)) (eqb-true i n e) h)
      pick false e k = in_left (chained f n) (f n) (k (smaller (eqb-false i n e)))

  in_map : (t : ℕ) (os : List (List ℕ)) → In o os → In (t ∷ o) (map (λ p. t ∷ p) os)
  in_map t os (first ps) = first (map (λ p. t ∷ p) ps)
  in_map t os (later p ps h) = later (t ∷ p) (map (λ q. t ∷ q) ps) (in_map t ps h)

-- Where a list stands among others.
pub record Found (o : List ℕ) (os : List (List ℕ)) : Type 0 where
  pub position : ℕ
  pub inside : position < length os
  pub there : get_or os position [] ≡ o

pub found_in : (o : List ℕ) (os : List (List ℕ)) → In o os → Found o os
found_in o os (first ps) = record { position = 0; inside = omega arith; there = refl }
found_in o os (later p ps h) = let a = found_in o ps h in
    record { position = suc a.position; inside = omega (arith, a.inside); there = a.there }

pub in-at : (os : List (List ℕ)) (i : ℕ) → i < length os → In (get_or os i []) os
in-at [] i l = absurd (omega arith)
in-at (o ∷ os) zero l = first os
in-at (o ∷ os) (suc i) l = later o os (in-at os i (le_of_suc-le-suc l))

-- ---- a list without one of its members

pub length_without : (i : ℕ) (ts : List ℕ) → i < length ts → suc (length (without i ts)) ≡ length ts
unfolding without
length_without i [] l = absurd (omega arith)
length_without zero (t ∷ ts) l = refl
length_without (suc i) (t ∷ ts) l = ap suc (length_without i ts (le_of_suc-le-suc l))

pub count-without : (p : ℕ → Bool) (i : ℕ) (ts : List ℕ) → i < length ts
    → count_in p ts ≡ cond (p (get_or ts i 0)) 1 0 + count_in p (without i ts)
unfolding without count_in
count-without p i [] l = absurd (omega arith)
count-without p zero (t ∷ ts) l = refl
count-without p (suc i) (t ∷ ts) l =
    swap (cond (p t) 1 0) (cond (p (get_or ts i 0)) 1 0) _ _ (count-without p i ts (le_of_suc-le-suc l))
  where
    swap : (a b c d : ℕ) → c ≡ b + d → a + c ≡ b + (a + d)
    swap a b c d e = omega arith

-- ---- where a member stands

record At (t : ℕ) (ts : List ℕ) : Type 0 where
  position : ℕ
  inside : position < length ts
  there : get_or ts position 0 ≡ t

member : (t : ℕ) (ts : List ℕ) → 1 ≤ count_in (eqb t) ts → At t ts
unfolding count_in
member t [] h = absurd (omega arith)
member t (u ∷ ts) h = pick (eqb t u) refl h (λ k. member t ts k)
  where
    pick : (b : Bool) → eqb t u ≡ b → 1 ≤ cond b 1 0 + count_in (eqb t) ts → (1 ≤ count_in (eqb t) ts → At t ts) → At t (u ∷ ts)
    pick true e k rest = record { position = 0; inside = omega arith; there = sym (eqb-true t u e) }
    pick false e k rest = let a = rest (omega arith) in
        record { position = suc a.position; inside = omega (arith, a.inside); there = a.there }

own-count : (t : ℕ) (o : List ℕ) → 1 ≤ count_in (eqb t) (t ∷ o)
own-count t o = unfold count_in in rw (eq-eqb t t refl) (omega arith)

-- ---- all of them

not-empty : (t : ℕ) (ts : List ℕ) → count_in (eqb t) (t ∷ ts) ≡ count_in (eqb t) [] → ⊥
not-empty t ts e = impossible (count_in (eqb t) (t ∷ ts)) (own-count t ts) (e ∙ (unfold count_in in refl))
  where
    impossible : (n : ℕ) → 1 ≤ n → n ≡ 0 → ⊥
    impossible n l e = omega arith

abbrev one : ℕ → ℕ → ℕ
one w u = cond (eqb w u) 1 0

pub complete : (n : ℕ) (ts o : List ℕ) → length ts ≡ n → Arranges ts o → In o (orders_of n ts)
unfolding orders_of count_in
complete zero [] [] e h = first []
complete zero (t ∷ ts) o e h = absurd (omega arith)
complete zero [] (u ∷ o) e h = absurd (not-empty u o (h u))
complete (suc n) [] o e h = absurd (omega arith)
complete (suc n) (t ∷ ts) [] e h = absurd (not-empty t ts (sym (h t)))
complete (suc n) (t ∷ ts) (u ∷ o) e h = let l = t ∷ ts in
    let a = member u l (subst (λ (k : ℕ). 1 ≤ k) (h u) (own-count u o)) in let i = a.position in
    let len : length (without i l) ≡ n = let z = length_without i l a.inside in omega arith in
    let rest : Arranges (without i l) o = λ w. less w (get_or l i 0) a.there (count_in (eqb w) o)
    (count_in (eqb w) (without i l)) (h w ∙ count-without (eqb w) i l a.inside) in
    in-chained (u ∷ o) _ (suc n) i (subst (λ (k : ℕ). i < k) e a.inside)
    (subst (λ (k : ℕ). In (u ∷ o) (map (λ p. k ∷ p) (orders_of n (without i l)))) (sym a.there)
    (in_map o u (orders_of n (without i l)) (complete n (without i l) o len rest)))
  where
    less : (w x : ℕ) → x ≡ u → (c d : ℕ) → one w u + c ≡ one w x + d → c ≡ d
    less w x e c d k = let f : one w x ≡ one w u = ap (one w) e in omega arith
