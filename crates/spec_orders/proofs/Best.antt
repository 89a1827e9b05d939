-- The best of those tried is the earliest with the most grants, and no order has more than it and the gap.
use mathlib.Core.{Bool.{Bool, true, false, cond, not}, List.{List, [], ◌∷◌, ◌++◌, append_assoc, append-nil}}
use mathlib.Core.Path.{◌≡◌, refl, sym, ap, ◌∙◌, subst}
use borrow.Author.Tests.{eqb-true, ltb-true, ltb-false}
use lib.{Dec.{eqb, ltb}, ListN.{length, get_or, take, drop, length-append, length-take, get_or-append}}
use lib.Seq.{get_or-append-add, get_or-take, take_all, take-suc}
use native.Mathlib.Omega.{arith}
use Prim.Native.Nat.{ℕ, zero, suc, ◌+◌, ◌-◌, ◌≤◌, ◌<◌}
use Rattle.spec_orders.specs.Orders.{orders, tried_of, factorial, Rated, rated, better, best_of, best_tried, count_in, gap_of}
use Rattle.spec_orders.specs.{Orders.{Arranges, Earliest}, Laws.{In, BestIsEarliest, NoneBetter}, Numbering.order_at}
use Rattle.spec_orders.proofs.Members.{found_in, in-at}
use Rattle.spec_orders.proofs.Numbered.{positive, many-orders, order-numbered, many-tried, all_in_lem, same_count, given-first}
use Rattle.spec_orders.proofs.Numbered.{orders-of}

module _ (grants_in : List ℕ → ℕ) where
  -- One more order at the end.
  abbrev More : List (List ℕ) → Rated → List ℕ → Type 0
  More ps a o = Earliest grants_in (ps ++ (o ∷ [])) (better a (rated grants_in o))

  one_more : (ps : List (List ℕ)) (a : Rated) (o : List ℕ) → Earliest grants_in ps a → More ps a o
  unfolding better
  one_more ps a o h = pick (ltb a.grants (grants_in o)) refl
    where
      os : List (List ℕ)
      os = ps ++ (o ∷ [])

      len : length os ≡ length ps + 1
      len = length-append ps (o ∷ [])

      before : (i : ℕ) → i < length ps → get_or os i [] ≡ get_or ps i []
      before i l = get_or-append ps (o ∷ []) [] i l

      last : get_or os (length ps + 0) [] ≡ o
      last = get_or-append-add ps (o ∷ []) 0 []

      limit : (n : ℕ) → a.grants ≤ n → grants_in o ≤ n → (i : ℕ) → i < length os → grants_in (get_or os i []) ≤ n
      limit n k m i l = side (ltb i (length ps)) refl
        where
          side : (b : Bool) → ltb i (length ps) ≡ b → grants_in (get_or os i []) ≤ n
          side true e = let z = ltb-true i (length ps) e in let y = h.most i z in rw (before i z) (omega arith)
          side false e = let z = ltb-false i (length ps) e in let j : i ≡ length ps + 0 = omega (arith, len) in
              rw (j, last) m

      pick : (b : Bool) → ltb a.grants (grants_in o) ≡ b → Earliest grants_in os (cond b (rated grants_in o) a)
      pick true e = let l = ltb-true a.grants (grants_in o) e in record {
        position = length ps + 0;
        inside = omega (arith, len);
        order = sym last;
        grants = refl;
        most = limit (grants_in o) (omega arith) (omega arith);
        earliest = λ i k. let z : i < length ps = omega arith in let y = h.most i z in rw (before i z) (omega arith);
      }
      pick false e = let l = ltb-false a.grants (grants_in o) e in let k = h.inside in record {
        position = h.position;
        inside = omega (arith, len);
        order = h.order ∙ sym (before h.position k);
        grants = h.grants;
        most = limit a.grants (omega arith) l;
        earliest = λ i j. let z : i < length ps = omega arith in rw (before i z) (h.earliest i j);
      }

  runs : (ps os : List (List ℕ)) (a : Rated) → Earliest grants_in ps a → Earliest grants_in (ps ++ os) (best_of grants_in a os)
  unfolding best_of
  runs ps [] a h = subst (λ (l : List (List ℕ)). Earliest grants_in l a) (sym (append-nil ps)) h
  runs ps (o ∷ os) a h = subst (λ (l : List (List ℕ)). Earliest grants_in l (best_of grants_in (better a (rated grants_in o))
      os)) (append_assoc ps (o ∷ []) os) (runs (ps ++ (o ∷ [])) os (better a (rated grants_in o)) (one_more ps a o h))

  alone : (o : List ℕ) → Earliest grants_in (o ∷ []) (rated grants_in o)
  alone o = record {
    position = 0;
    inside = omega arith;
    order = refl;
    grants = refl;
    most = λ i l. let e : i ≡ 0 = omega arith in rw e (omega arith);
    earliest = λ i l. absurd (omega arith);
  }

  -- The given order stands first among those tried, and is not better than itself.
  itself : (o : List ℕ) (os : List (List ℕ)) → best_of grants_in (rated grants_in o) (o ∷ os) ≡ best_of grants_in (rated grants_in o) os
  unfolding best_of better
  itself o os = ap (λ (a : Rated). best_of grants_in a os) (pick (ltb (grants_in o) (grants_in o)))
    where
      pick : (b : Bool) → cond b (rated grants_in o) (rated grants_in o) ≡ rated grants_in o
      pick true = refl
      pick false = refl

  headed : (ts : List ℕ) (os : List (List ℕ)) → 0 < length os → get_or os 0 [] ≡ ts → os ≡ ts ∷ drop 1 os
  headed ts [] l e = absurd (omega arith)
  headed ts (o ∷ os) l e = ap (λ (t : List ℕ). t ∷ os) e

  from-headed : (ts : List ℕ) (os ps : List (List ℕ)) → os ≡ ts ∷ ps
      → Earliest grants_in os (best_of grants_in (rated grants_in ts) os)
  from-headed ts os ps e = subst (λ (l : List (List ℕ)). Earliest grants_in l (best_of grants_in (rated grants_in ts) l))
      (sym e) (subst (Earliest grants_in (ts ∷ ps)) (sym (itself ts ps)) (runs (ts ∷ []) ps (rated grants_in ts) (alone ts)))

  earliest-tried : (budget : ℕ) (ts : List ℕ) → 1 ≤ budget → Earliest grants_in (tried_of budget ts) (best_tried grants_in budget ts)
  unfolding best_tried tried_of
  earliest-tried zero ts l = absurd (omega arith)
  earliest-tried (suc b) ts l = let p = positive (length ts) in let some : 0 < length (orders ts) = rw (many-orders ts) p in
      from-headed ts (take (suc b) (orders ts)) (take b (drop 1 (orders ts)))
      (ap (take (suc b)) (headed ts (orders ts) some (given-first ts)))

pub best-is-earliest : BestIsEarliest
best-is-earliest = earliest-tried

-- The answer is an order of the list.
pub best-arranges : (grants_in : List ℕ → ℕ) (budget : ℕ) (ts : List ℕ) → 1 ≤ budget
    → Arranges ts (best_tried grants_in budget ts).order
best-arranges grants_in budget ts l = unfold tried_of in let e = best-is-earliest grants_in budget ts l in
    let i = e.position in let k = length-take budget (orders ts) in let b : i < budget = omega (arith, e.inside, k) in
    let c : i < length (orders ts) = omega (arith, e.inside, k) in
    subst (Arranges ts) (sym (e.order ∙ get_or-take budget (orders ts) i [] b))
    (((orders-of ts).these (get_or (orders ts) i [])).0 (in-at (orders ts) i c))

-- ---- one order after the other, by number

best-append : (grants_in : List ℕ → ℕ) (a : Rated) (os : List (List ℕ)) (o : List ℕ)
    → best_of grants_in a (os ++ (o ∷ [])) ≡ better (best_of grants_in a os) (rated grants_in o)
unfolding best_of
best-append grants_in a [] o = refl
best-append grants_in a (p ∷ os) o = best-append grants_in (better a (rated grants_in p)) os o

pub best-more : (grants_in : List ℕ → ℕ) (a : Rated) (ts : List ℕ) (i : ℕ) → i < factorial (length ts) → best_of grants_in a
    (take (suc i) (orders ts)) ≡ better (best_of grants_in a (take i (orders ts))) (rated grants_in (order_at (length ts) i ts))
best-more grants_in a ts i l = ap (best_of grants_in a) (take-suc (orders ts) i [] (rw (many-orders ts) l))
    ∙ best-append grants_in a (take i (orders ts)) (get_or (orders ts) i [])
    ∙ ap (λ (o : List ℕ). better (best_of grants_in a (take i (orders ts))) (rated grants_in o)) (order-numbered ts i l)

-- ---- none better

tried-all : (budget : ℕ) (ts : List ℕ) → length (tried_of budget ts) ≡ length (orders ts) → tried_of budget ts ≡ orders ts
unfolding tried_of
tried-all budget ts e = let l = length-take budget (orders ts) in take_all budget (orders ts) (omega arith)

-- All were tried, so that there was a budget.
some-budget : (budget : ℕ) (ts : List ℕ) → length (tried_of budget ts) ≡ length (orders ts) → 1 ≤ budget
some-budget budget ts e = let m = many-tried ts budget in let n = many-orders ts in let p = positive (length ts) in
    omega arith

pub none-better : NoneBetter
unfolding gap_of
none-better grants_in has_closed few ts o budget h = pick (eqb (length (tried_of budget ts)) (length (orders ts))) refl
  where
    g : ℕ
    g = (best_tried grants_in budget ts).grants

    count : ℕ
    count = count_in (λ t. not (has_closed t)) ts

    member : In o (orders ts)
    member = all_in_lem ts o h

    pick : (b : Bool) → eqb (length (tried_of budget ts)) (length (orders ts)) ≡ b → grants_in o ≤ g + cond b 0 (count - g)
    pick true e = let same = eqb-true (length (tried_of budget ts)) (length (orders ts)) e in
        let all : tried_of budget ts ≡ orders ts = tried-all budget ts same in
        let a = found_in o (tried_of budget ts) (subst (In o) (sym all) member) in
        let most = (best-is-earliest grants_in budget ts (some-budget budget ts same)).most a.position a.inside in
        let least = subst (λ (p : List ℕ). grants_in p ≤ g) a.there most in omega arith
    pick false e = let a = few o in let s = same_count ts (λ t. not (has_closed t)) o member in omega arith
