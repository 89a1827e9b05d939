-- Every order of a list passes the tests that all members of the list pass, and has no repeat where the list has none.
use mathlib.Core.{Bool.{Bool, true, false, cond, not, ◌&&◌, ◌||◌, true≢false, false≢true}, List.{List, [], ◌∷◌}}
use mathlib.Core.Path.{◌≡◌, refl, sym, ap, ◌∙◌}
use borrow.Author.Tests.{eqb-true, eq-eqb}
use lib.Dec.{eqb}
use native.Mathlib.Omega.{arith}
use Prim.Native.Nat.{ℕ, ◌+◌, ◌≤◌}
use Rattle.spec_orders.specs.Orders.{count_in, all_in, is_in, distinct, Arranges}
use Rattle.spec_orders.proofs.Numbered.{all_in_lem, same_count}

all_none : (p : ℕ → Bool) (ts : List ℕ) → all_in p ts ≡ true → count_in (λ t. not (p t)) ts ≡ 0
unfolding all_in count_in
all_none p [] e = refl
all_none p (t ∷ ts) e = pick (p t) e (all_none p ts)
  where
    pick : (b : Bool) → b && all_in p ts ≡ true → (all_in p ts ≡ true → count_in (λ u. not (p u)) ts ≡ 0)
        → cond (not b) 1 0 + count_in (λ u. not (p u)) ts ≡ 0
    pick true k rest = let z = rest k in omega arith
    pick false k rest = absurd (false≢true k)

none-all : (p : ℕ → Bool) (ts : List ℕ) → count_in (λ t. not (p t)) ts ≡ 0 → all_in p ts ≡ true
unfolding all_in count_in
none-all p [] e = refl
none-all p (t ∷ ts) e = pick (p t) e (none-all p ts)
  where
    pick : (b : Bool) → cond (not b) 1 0 + count_in (λ u. not (p u)) ts ≡ 0 → (count_in (λ u. not (p u)) ts ≡ 0 → all_in p ts ≡ true)
        → b && all_in p ts ≡ true
    pick true k rest = rest (omega arith)
    pick false k rest = absurd (omega arith)

pub all-arranged : (p : ℕ → Bool) (ts o : List ℕ) → Arranges ts o → all_in p ts ≡ true → all_in p o ≡ true
all-arranged p ts o h e = none-all p o (same_count ts (λ t. not (p t)) o (all_in_lem ts o h) ∙ all_none p ts e)

-- ---- without a repeat

not_in : (t : ℕ) (ts : List ℕ) → is_in t ts ≡ false → count_in (eqb t) ts ≡ 0
unfolding is_in count_in
not_in t [] e = refl
not_in t (u ∷ ts) e = pick (eqb t u) e (not_in t ts)
  where
    pick : (b : Bool) → b || is_in t ts ≡ false → (is_in t ts ≡ false → count_in (eqb t) ts ≡ 0) → cond b 1 0 + count_in (eqb t) ts
        ≡ 0
    pick true k rest = absurd (true≢false k)
    pick false k rest = let z = rest k in omega arith

is-in : (t : ℕ) (ts : List ℕ) → is_in t ts ≡ true → 1 ≤ count_in (eqb t) ts
unfolding is_in count_in
is-in t [] e = absurd (false≢true e)
is-in t (u ∷ ts) e = pick (eqb t u) e (is-in t ts)
  where
    pick : (b : Bool) → b || is_in t ts ≡ true → (is_in t ts ≡ true → 1 ≤ count_in (eqb t) ts) → 1 ≤ cond b 1 0 + count_in (eqb t) ts
    pick true k rest = omega arith
    pick false k rest = let z = rest k in omega arith

pub front-not-in : (t : ℕ) (ts : List ℕ) → distinct (t ∷ ts) ≡ true → is_in t ts ≡ false
unfolding distinct
front-not-in t ts e = pick (is_in t ts) e
  where
    pick : (b : Bool) → not b && distinct ts ≡ true → b ≡ false
    pick true k = absurd (false≢true k)
    pick false k = refl

pub rest-distinct : (t : ℕ) (ts : List ℕ) → distinct (t ∷ ts) ≡ true → distinct ts ≡ true
unfolding distinct
rest-distinct t ts e = pick (is_in t ts) e
  where
    pick : (b : Bool) → not b && distinct ts ≡ true → distinct ts ≡ true
    pick true k = absurd (false≢true k)
    pick false k = k

at_most_one : (t : ℕ) (ts : List ℕ) → distinct ts ≡ true → count_in (eqb t) ts ≤ 1
unfolding count_in
at_most_one t [] e = omega arith
at_most_one t (u ∷ ts) e = pick (eqb t u) refl (at_most_one t ts (rest-distinct u ts e))
  where
    pick : (b : Bool) → eqb t u ≡ b → count_in (eqb t) ts ≤ 1 → cond b 1 0 + count_in (eqb t) ts ≤ 1
    pick true k rest = let z = not_in t ts (ap (λ (w : ℕ). is_in w ts) (eqb-true t u k) ∙ front-not-in u ts e) in omega arith
    pick false k rest = omega arith

one-of-each : (ts : List ℕ) → ((t : ℕ) → count_in (eqb t) ts ≤ 1) → distinct ts ≡ true
unfolding distinct count_in
one-of-each [] h = refl
one-of-each (u ∷ ts) h = pick (is_in u ts) refl (one-of-each ts (λ t. less t (h t)))
  where
    less : (t : ℕ) → cond (eqb t u) 1 0 + count_in (eqb t) ts ≤ 1 → count_in (eqb t) ts ≤ 1
    less t k = omega arith

    own : cond (eqb u u) 1 0 + count_in (eqb u) ts ≤ 1 → 1 + count_in (eqb u) ts ≤ 1
    own k = let e : ◌≡◌ {A = ℕ} (cond (eqb u u) 1 0) 1 = ap (λ (b : Bool). cond b 1 0) (eq-eqb u u refl) in omega arith

    pick : (b : Bool) → is_in u ts ≡ b → distinct ts ≡ true → not b && distinct ts ≡ true
    pick true k rest = let a = is-in u ts k in let c = own (h u) in absurd (omega arith)
    pick false k rest = rest

pub distinct-arranged : (ts o : List ℕ) → Arranges ts o → distinct ts ≡ true → distinct o ≡ true
distinct-arranged ts o h e = one-of-each o (λ t. let a = at_most_one t ts e in let b = h t in omega arith)

-- ---- members

pub in-test : (p : ℕ → Bool) (u : ℕ) (ts : List ℕ) → all_in p ts ≡ true → is_in u ts ≡ true → p u ≡ true
unfolding all_in is_in
in-test p u [] e k = absurd (false≢true k)
in-test p u (t ∷ ts) e k = pick (p t) (eqb u t) refl refl e k (in-test p u ts)
  where
    pick : (b c : Bool) → p t ≡ b → eqb u t ≡ c → b && all_in p ts ≡ true → c || is_in u ts ≡ true
        → (all_in p ts ≡ true → is_in u ts ≡ true → p u ≡ true) → p u ≡ true
    pick false c q r e k rest = absurd (false≢true e)
    pick true true q r e k rest = ap p (eqb-true u t r) ∙ q
    pick true false q r e k rest = rest e k

-- A member of the rest is another.
pub in_rest : (t u : ℕ) (ts : List ℕ) → is_in t ts ≡ false → is_in u ts ≡ true → eqb u t ≡ false
in_rest t u ts e k = pick (eqb u t) refl
  where
    pick : (b : Bool) → eqb u t ≡ b → b ≡ false
    pick true r = absurd (false≢true (sym e ∙ ap (λ (w : ℕ). is_in w ts) (sym (eqb-true u t r)) ∙ k))
    pick false r = refl
