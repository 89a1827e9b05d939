-- Request F-14, "Best order to commit in" [R-14.1]: the part that is about lists alone. What an order is
-- worth, its grants, is a function handed in.
use Rattle.std.specs.Prelude.{Bool, true, false, cond, not, ◌&&◌, ◌||◌, List, [], ◌∷◌, ◌++◌, map, ◌≡◌, leb, ltb, eqb, length, get_or, take, drop, ℕ, zero, suc, ◌+◌, ◌-◌, ◌*◌, ◌≤◌, ◌<◌}
use Rattle.limits.specs.Limits.{transaction_count}

-- ---- the orders

-- A list without its element at position i.
unfoldable pub without : ℕ → List ℕ → List ℕ
without i ts = take i ts ++ drop (suc i) ts

-- f 0, f 1, .. below n, one after the other.
unfoldable pub chained : (ℕ → List (List ℕ)) → ℕ → List (List ℕ)
chained f zero = []
chained f (suc i) = chained f i ++ f i

-- "Orders are tried by ascending positions in the given list, the given order first" [R-14.2]: those of a
-- list of n, by the position of the first, then by the orders of the others.
unfoldable pub orders_of : ℕ → List ℕ → List (List ℕ)
orders_of zero ts = [] ∷ []
orders_of (suc n) ts = chained (λ i. map (λ o. get_or ts i 0 ∷ o) (orders_of n (without i ts))) (suc n)

unfoldable pub orders : List ℕ → List (List ℕ)
orders ts = orders_of (length ts) ts

-- "until the budget or the orders run out" [R-14.2]
unfoldable pub tried_of : ℕ → List ℕ → List (List ℕ)
tried_of budget ts = take budget (orders ts)

-- How many orders a list of n has.
unfoldable pub factorial : ℕ → ℕ
factorial zero = 1
factorial (suc n) = suc n * factorial n

-- ---- the answer

-- An order and its grants.
pub record Rated : Type 0 where
  pub order : List ℕ
  pub grants : ℕ

abbrev pub rated : (List ℕ → ℕ) → List ℕ → Rated
rated grants_in o = record { order = o; grants = grants_in o }

-- "the earliest of those tried with the most grants" [R-14.2]: a later one takes its place only with more.
unfoldable pub better : Rated → Rated → Rated
better a b = cond (ltb a.grants b.grants) b a

unfoldable pub best_of : (List ℕ → ℕ) → Rated → List (List ℕ) → Rated
best_of grants_in a [] = a
best_of grants_in a (o ∷ os) = best_of grants_in (better a (rated grants_in o)) os

-- Of the orders tried, the first of which is the given one.
unfoldable pub best_tried : (List ℕ → ℕ) → ℕ → List ℕ → Rated
best_tried grants_in budget ts = best_of grants_in (rated grants_in ts) (tried_of budget ts)

-- How many members of a list pass a test, and whether all do.
unfoldable pub count_in : (ℕ → Bool) → List ℕ → ℕ
count_in p [] = 0
count_in p (t ∷ ts) = cond (p t) 1 0 + count_in p ts

unfoldable pub all_in : (ℕ → Bool) → List ℕ → Bool
all_in p [] = true
all_in p (t ∷ ts) = p t && all_in p ts

-- "The gap is 0 when all orders were tried, otherwise the count of those transactions that have no byte for a
-- file closed at the minute, less the grants." [R-14.3]
unfoldable pub gap_of : (ℕ → Bool) → ℕ → List ℕ → ℕ → ℕ
gap_of has_closed budget ts grants =
    cond (eqb (length (tried_of budget ts)) (length (orders ts))) 0
    (count_in (λ t. not (has_closed t)) ts - grants)

-- ---- the list

unfoldable pub is_in : ℕ → List ℕ → Bool
is_in t [] = false
is_in t (u ∷ ts) = eqb t u || is_in t ts

unfoldable pub distinct : List ℕ → Bool
distinct [] = true
distinct (t ∷ ts) = not (is_in t ts) && distinct ts

-- "Given up to 8 different open transactions" [R-14.1]; "26 when the list is empty, over 8 or has a repeat"
-- [R-16.1].
unfoldable pub is_list : List ℕ → Bool
is_list ts = leb 1 (length ts) && leb (length ts) transaction_count && distinct ts

-- ---- what is claimed of the answer (spec/specs/BestOrder.antt)

-- An order of a list is any list with the same members: each as often as there. (False of `not_an_order`:
-- Examples.antt.)
abbrev pub Arranges : List ℕ → List ℕ → Type 0
Arranges ts o = (t : ℕ) → count_in (eqb t) o ≡ count_in (eqb t) ts

-- "the answer is the earliest of those tried with the most grants" [R-14.2] (False of `too_late` and `too_few`:
-- Examples.antt.)
pub record Earliest (grants_in : List ℕ → ℕ) (os : List (List ℕ)) (a : Rated) : Type 0 where
  pub position : ℕ
  pub inside : position < length os
  pub order : a.order ≡ get_or os position []
  pub grants : a.grants ≡ grants_in a.order
  pub most : (i : ℕ) → i < length os → grants_in (get_or os i []) ≤ a.grants
  pub earliest : (i : ℕ) → i < position → grants_in (get_or os i []) < a.grants
