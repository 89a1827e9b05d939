-- A list of n has n! orders, and order number i is the one that i gives by quotients.
use mathlib.Core.{Bool.{Bool, true, false, cond}, List.{List, [], ◌∷◌, ◌++◌, map}, Path.{◌≡◌, refl, sym, ap, ap₂, ◌∙◌, subst}}
use borrow.Author.Tests.{eqb-true, eqb-false}
use lib.{Dec.eqb, ListN.{length, get_or, length-append, length-map, length-take, get_or-append}, Seq.get_or-append-add}
use native.Mathlib.Omega.{arith}
use native.Mathlib.Nat.{suc-mul, zero-mul, mul-le-mul_right, mul-pos, mod-lt, div-add-mod', div-lt_iff_lt-mul, zero-div, zero-mod}
use Prim.Native.Nat.{ℕ, zero, suc, ◌+◌, ◌*◌, ◌/◌, ◌%◌, ◌<◌, min}
use Rattle.spec_orders.specs.Orders.{without, chained, orders_of, orders, tried_of, factorial, count_in, Arranges}
use Rattle.spec_orders.specs.{Laws.{In, OrdersOf}, Numbering.order_at}
use Rattle.spec_orders.proofs.Members.{found_in, length_without, count-without, complete}

-- ---- lists of one length, one after the other

module _ (f : ℕ → List (List ℕ)) (L : ℕ) (h : (i : ℕ) → length (f i) ≡ L) where
  length-chained : (n : ℕ) → length (chained f n) ≡ n * L
  unfolding chained
  length-chained zero = sym (zero-mul L)
  length-chained (suc n) =
      length-append (chained f n) (f n) ∙ ap₂ (λ (a b : ℕ). a + b) (length-chained n) (h n) ∙ sym (suc-mul n L)

  get_d-chained : (n i r : ℕ) → i < n → r < L → get_or (chained f n) (i * L + r) [] ≡ get_or (f i) r []
  unfolding chained
  get_d-chained zero i r l k = absurd (omega arith)
  get_d-chained (suc n) i r l k = pick (eqb i n) refl (λ j. get_d-chained n i r j k)
    where
      below : (i ≡ n → ⊥) → i < n
      below z = omega arith

      pick : (b : Bool) → eqb i n ≡ b → (i < n → get_or (chained f n) (i * L + r) [] ≡ get_or (f i) r [])
          → get_or (chained f n ++ f n) (i * L + r) [] ≡ get_or (f i) r []
      pick true e g = let w = eqb-true i n e in
          ap (λ (j : ℕ). get_or (chained f n ++ f n) (j * L + r) []) w ∙ ap (λ (j : ℕ). get_or (chained f n ++ f n) (j + r) [])
          (sym (length-chained n)) ∙ get_or-append-add (chained f n) (f n) r [] ∙ ap (λ (j : ℕ). get_or (f j) r []) (sym w)
      pick false e g = let less : i < n = below (eqb-false i n e) in let m = mul-le-mul_right L less in
          let s = suc-mul i L in let c = length-chained n in
          get_or-append (chained f n) (f n) [] (i * L + r) (omega arith) ∙ g less

-- ---- the orders by number

pub positive : (n : ℕ) → 0 < factorial n
unfolding factorial
positive zero = omega arith
positive (suc n) = let a : 0 < suc n = omega arith in mul-pos a (positive n)

get_d-mapped : (t : ℕ) (os : List (List ℕ)) (i : ℕ) → i < length os → get_or (map (λ o. t ∷ o) os) i [] ≡ t ∷ get_or os i []
get_d-mapped t [] i l = absurd (omega arith)
get_d-mapped t (o ∷ os) zero l = refl
get_d-mapped t (o ∷ os) (suc i) l = get_d-mapped t os i (omega arith)

length-orders : (n : ℕ) (ts : List ℕ) → length (orders_of n ts) ≡ factorial n
unfolding orders_of factorial
length-orders zero ts = refl
length-orders (suc n) ts = length-chained (λ i. map (λ o. get_or ts i 0 ∷ o) (orders_of n (without i ts))) (factorial n)
    (λ i. length-map (orders_of n (without i ts)) (λ o. get_or ts i 0 ∷ o) ∙ length-orders n (without i ts)) (suc n)

-- The quotient and the rest of a number below (n + 1)!.
pub quotient : (n i : ℕ) → i < factorial (suc n) → i / factorial n < suc n
quotient n i l = unfold factorial in (div-lt_iff_lt-mul (positive n)).1 l

numbered : (n i : ℕ) (ts : List ℕ) → i < factorial n → get_or (orders_of n ts) i [] ≡ order_at n i ts
unfolding orders_of order_at factorial
numbered zero zero ts l = refl
numbered zero (suc i) ts l = absurd (omega arith)
numbered (suc n) i ts l = let L = factorial n in let q = i / L in let r = i % L in
    let f : ℕ → List (List ℕ) = λ j. map (λ o. get_or ts j 0 ∷ o) (orders_of n (without j ts)) in
    let each : (j : ℕ) → length (f j) ≡ L = λ j. length-map (orders_of n (without j ts)) (λ o. get_or ts j 0 ∷ o)
    ∙ length-orders n (without j ts) in let small : r < L = mod-lt i (positive n) in
    ap (λ (k : ℕ). get_or (chained f (suc n)) k []) (sym (div-add-mod' i L)) ∙ get_d-chained f L each (suc n) q r
    (quotient n i l) small ∙ get_d-mapped (get_or ts q 0) (orders_of n (without q ts)) r (subst (λ (k : ℕ). r < k)
    (sym (length-orders n (without q ts))) small) ∙ ap (λ (o : List ℕ). get_or ts q 0 ∷ o) (numbered n r (without q ts) small)

-- Each has the members of the list.
counted : (p : ℕ → Bool) (n i : ℕ) (ts : List ℕ) → length ts ≡ n → i < factorial n → count_in p (order_at n i ts) ≡ count_in p ts
unfolding order_at count_in
counted p zero i [] e l = refl
counted p zero i (t ∷ ts) e l = absurd (omega arith)
counted p (suc n) i ts e l = let q = i / factorial n in
    let inside : q < length ts = subst (λ (k : ℕ). q < k) (sym e) (quotient n i l) in
    let len : length (without q ts) ≡ n = let z = length_without q ts inside in omega arith in
    ap (λ (k : ℕ). cond (p (get_or ts q 0)) 1 0 + k)
    (counted p n (i % factorial n) (without q ts) len (mod-lt i (positive n))) ∙ sym (count-without p q ts inside)

first-given : (n : ℕ) (ts : List ℕ) → length ts ≡ n → order_at n 0 ts ≡ ts
unfolding order_at without
first-given zero [] e = refl
first-given zero (t ∷ ts) e = absurd (omega arith)
first-given (suc n) [] e = absurd (omega arith)
first-given (suc n) (t ∷ ts) e = let a : length ts ≡ n = omega arith in
    rw (zero-div (factorial n), zero-mod (factorial n)) (ap (λ (o : List ℕ). t ∷ o) (first-given n ts a))

-- ---- the statements

module _ (ts : List ℕ) where
  pub many-orders : length (orders ts) ≡ factorial (length ts)
  many-orders = unfold orders in length-orders (length ts) ts

  pub order-numbered : (i : ℕ) → i < factorial (length ts) → get_or (orders ts) i [] ≡ order_at (length ts) i ts
  order-numbered i l = unfold orders in numbered (length ts) i ts l

  pub all_in_lem : (o : List ℕ) → Arranges ts o → In o (orders ts)
  all_in_lem o h = unfold orders in complete (length ts) ts o refl h

  -- A test that no order of a list passes more often than the list.
  pub same_count : (p : ℕ → Bool) (o : List ℕ) → In o (orders ts) → count_in p o ≡ count_in p ts
  same_count p o h = let a = found_in o (orders ts) h in
      let l = subst (λ (k : ℕ). a.position < k) many-orders a.inside in
      ap (count_in p) (sym a.there ∙ order-numbered a.position l) ∙ counted p (length ts) a.position ts refl l

  pub given-first : get_or (orders ts) 0 [] ≡ ts
  given-first = order-numbered 0 (positive (length ts)) ∙ first-given (length ts) ts refl

  -- How many are tried.
  pub many-tried : (budget : ℕ) → length (tried_of budget ts) ≡ min budget (factorial (length ts))
  many-tried budget = unfold tried_of in length-take budget (orders ts) ∙ ap (min budget) many-orders

  pub orders-of : OrdersOf ts
  orders-of = record {
    these = λ o. (λ h t. same_count (λ u. eqb t u) o h, all_in_lem o);
    many = many-orders;
    given_first = given-first;
    tried = λ budget. let e = many-tried budget in omega arith;
  }
