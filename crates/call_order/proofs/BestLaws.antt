-- The best of the orders tried, one order after the other; and of two that agree on the orders.
use mathlib.Core.{Bool.{Bool, true, false, cond}, List.{List, [], ◌∷◌}, Logic.⊎_elim, Path.{◌≡◌, refl, sym, ap, ap₂, ◌∙◌, subst}}
use borrow.Author.Tests.{lt-ltb, le-ltb}
use lib.{Dec.ltb, ListN.{length, get_or, take, length-take}, Seq.{get_or-take, take_all}}
use native.Mathlib.{Numerals.add-one, Omega.arith}
use Prim.Native.Nat.{ℕ, suc, ◌+◌, ◌≤◌, ◌<◌, min}
use Rattle.buffers.proofs.PartLaws.{le-or-lt}
use Rattle.spec_orders.specs.Orders.{orders, factorial, Rated, rated, better, best_of, best_tried, tried_of, Arranges}
use Rattle.spec_orders.{proofs.{Members.in-at, Numbered.{many-orders, order-numbered, orders-of}}, specs.Numbering.order_at}
use Rattle.spec_orders.proofs.Best.{best-more}

-- Order number i is an order of the list.
pub order-arranges : (ts : List ℕ) (i : ℕ) → i < factorial (length ts) → Arranges ts (order_at (length ts) i ts)
order-arranges ts i l = subst (Arranges ts) (order-numbered ts i l)
    (((orders-of ts).these (get_or (orders ts) i [])).0 (in-at (orders ts) i (rw (many-orders ts) l)))

module _ (G : List ℕ → ℕ) (ts : List ℕ) where
  -- The best of the first i orders.
  abbrev pub best_first : ℕ → Rated
  best_first i = best_of G (rated G ts) (take i (orders ts))

  module _ (i : ℕ) (l : i < factorial (length ts)) (o : List ℕ) (g : ℕ) (o_is : o ≡ (best_first i).order) (g_is : g ≡ (best_first
      i).grants) (next : List ℕ) (more : ℕ) (next_is : next ≡ order_at (length ts) i ts) (more_is : more ≡ G next) where
    stepped : (b : Bool) → ltb g more ≡ b → best_first (i + 1) ≡ cond b (rated G next) (best_first i)
    unfolding better
    stepped b e = ap best_first (add-one i) ∙ best-more G (rated G ts) ts i l ∙ ap (λ (p : List ℕ). better (best_first i)
        (rated G p)) (sym next_is) ∙ ap₂ (λ (x y : ℕ). cond (ltb x y) (rated G next) (best_first i)) (sym g_is) (sym more_is)
        ∙ ap (λ (c : Bool). cond c (rated G next) (best_first i)) e

    pub takes-it : g < more → (next ≡ (best_first (i + 1)).order) × (more ≡ (best_first (i + 1)).grants)
    takes-it h = let e = sym (stepped true (lt-ltb g more h)) in
        (ap (λ (r : Rated). r.order) e, more_is ∙ ap (λ (r : Rated). r.grants) e)

    pub leaves-it : more ≤ g → (o ≡ (best_first (i + 1)).order) × (g ≡ (best_first (i + 1)).grants)
    leaves-it h = let e = sym (stepped false (le-ltb g more h)) in
        (o_is ∙ ap (λ (r : Rated). r.order) e, g_is ∙ ap (λ (r : Rated). r.grants) e)

-- ---- two that agree on every order of the list

module _ (G H : List ℕ → ℕ) where
  best-alike : (os : List (List ℕ)) (a : Rated) → ((i : ℕ) → i < length os → G (get_or os i []) ≡ H (get_or os i []))
      → best_of G a os ≡ best_of H a os
  unfolding best_of
  best-alike [] a h = refl
  best-alike (o ∷ os) a h = best-alike os (better a (rated G o)) (λ i l. h (suc i) (omega arith))
      ∙ ap (λ (g : ℕ). best_of H (better a (record { order = o; grants = g })) os) (h 0 (omega arith))

  pub best-same : (budget : ℕ) (ts : List ℕ) → ((o : List ℕ) → Arranges ts o → G o ≡ H o) → best_tried G budget ts
      ≡ best_tried H budget ts
  unfolding best_tried tried_of
  best-same budget ts h = best-alike (take budget (orders ts)) (rated G ts)
      (λ i l. let k = length-take budget (orders ts) in let b : i < budget =
      omega (arith, l, k) in let c : i < length (orders ts) = omega (arith, l, k) in let e = get_or-take budget (orders ts) i
      [] b in h _ (subst (Arranges ts) (sym e) (((orders-of ts).these (get_or (orders ts) i [])).0 (in-at (orders ts) i c))))
      ∙ ap (λ (g : ℕ). best_of H (record { order = ts; grants = g }) (take budget (orders ts))) (h ts (λ t. refl))

-- No more are tried than there are.
pub tried-most : (budget : ℕ) (ts : List ℕ) → tried_of (min budget (factorial (length ts))) ts ≡ tried_of budget ts
unfolding tried_of
tried-most budget ts = ⊎_elim (λ l. let e : min budget (factorial (length ts)) ≡ budget = omega arith in
    ap (λ (n : ℕ). take n (orders ts)) e) (λ l. let n = many-orders ts in take_all (min budget (factorial (length ts)))
    (orders ts) (omega arith) ∙ sym (take_all budget (orders ts) (omega arith))) (le-or-lt budget (factorial (length ts)))

pub best-tried-most : (G : List ℕ → ℕ) (budget : ℕ) (ts : List ℕ) → best_tried G (min budget (factorial (length ts))) ts
    ≡ best_tried G budget ts
best-tried-most G budget ts = unfold best_tried in ap (best_of G (rated G ts)) (tried-most budget ts)
