-- Order number i: factorials, a list whose numbers move up, and the order one number after the other.
use mathlib.Core.{List.{List, [], ◌∷◌, ◌++◌, append-nil}, Path.{◌≡◌, refl, sym, ap, ap₂, subst, ◌∙◌}}
use lib.ListN.{length, get_or, set, take, drop, replicate, take-append-drop}
use lib.Seq.{take-suc, take-suc-set, take_at, take-nil, append_snoc, drop-cons, set_at, get_or-take, get_or-drop, get_or-append-add}
use lib.Seq.{length-take-le}
use native.Mathlib.{Nat.{zero-sub, sub-zero, suc-sub-suc, le_of_suc-le-suc}, Numerals.add-one, Omega.arith}
use Prim.Native.Nat.{ℕ, zero, suc, ◌+◌, ◌-◌, ◌*◌, ◌/◌, ◌%◌, ◌≤◌, ◌<◌}
use Rattle.limits.specs.Limits.{transaction_count, most_orders}
use Rattle.spec_orders.{specs.{Orders.{without, factorial}, Numbering.order_at}, proofs.{Members.length_without, Numbered.{positive, quotient}}}

-- ---- factorials

pub factorial-suc : (n : ℕ) → factorial (n + 1) ≡ factorial n * (n + 1)
unfolding factorial
factorial-suc n = rw (add-one n) (nat-comm (suc n) (factorial n))
  where
    nat-comm : (a b : ℕ) → a * b ≡ b * a
    nat-comm a b = omega arith

pub factorial-most : (n : ℕ) → n ≤ transaction_count → factorial n ≤ most_orders
unfolding factorial
factorial-most zero l = omega arith
factorial-most (suc zero) l = omega arith
factorial-most (suc (suc zero)) l = omega arith
factorial-most (suc (suc (suc zero))) l = omega arith
factorial-most (suc (suc (suc (suc zero)))) l = omega arith
factorial-most (suc (suc (suc (suc (suc zero))))) l = omega arith
factorial-most (suc (suc (suc (suc (suc (suc zero)))))) l = omega arith
factorial-most (suc (suc (suc (suc (suc (suc (suc zero))))))) l = omega arith
factorial-most (suc (suc (suc (suc (suc (suc (suc (suc zero)))))))) l = omega arith
factorial-most (suc (suc (suc (suc (suc (suc (suc (suc (suc n))))))))) l = absurd (omega arith)

-- ---- zeros after the first numbers

pub drop-zeros : (n m : ℕ) → let z : ℕ = 0 in drop n (replicate m z) ≡ replicate (m - n) z
drop-zeros zero m = ap (λ (k : ℕ). replicate {A = ℕ} k 0) (sym (sub-zero m))
drop-zeros (suc n) zero = ap (λ (k : ℕ). replicate {A = ℕ} k 0) (sym (zero-sub (suc n)))
drop-zeros (suc n) (suc m) = drop-zeros n m ∙ ap (λ (k : ℕ). replicate {A = ℕ} k 0) (sym (suc-sub-suc m n))

-- The first n numbers of an array, and zeros after them.
pub padded-front : (n : ℕ) (xs : List ℕ) → n ≤ length xs → drop n xs ≡ replicate (transaction_count - n) 0
    → xs ≡ take n xs ++ replicate (transaction_count - length (take n xs)) 0
padded-front n xs l z = sym (take-append-drop n xs)
    ∙ ap (λ (ys : List ℕ). take n xs ++ ys) (z ∙ ap (λ (k : ℕ). replicate (8 - k) 0) (sym (length-take-le n xs l)))

-- ---- a number taken out, those after it moved up

-- The numbers from q up to j are in their new places.
unfoldable pub moved : ℕ → List ℕ → ℕ → List ℕ
moved q xs j = take j (without q xs) ++ drop j xs

front-without : (q : ℕ) (xs : List ℕ) → q ≤ length xs → take q (without q xs) ≡ take q xs
front-without q xs l = unfold without in take_at (take q xs) (drop (suc q) xs) q (length-take-le q xs l)

pub moved_none : (q : ℕ) (xs : List ℕ) → q ≤ length xs → moved q xs q ≡ xs
moved_none q xs l = unfold moved in ap (λ (ys : List ℕ). ys ++ drop q xs) (front-without q xs l) ∙ take-append-drop q xs

get_d-without : (q : ℕ) (xs : List ℕ) (j : ℕ) → q ≤ j → get_or (without q xs) j 0 ≡ get_or xs (suc j) 0
unfolding without
get_d-without zero [] j l = refl
get_d-without zero (x ∷ xs) j l = refl
get_d-without (suc q) [] j l = refl
get_d-without (suc q) (x ∷ xs) zero l = absurd (omega arith)
get_d-without (suc q) (x ∷ xs) (suc j) l = get_d-without q xs j (le_of_suc-le-suc l)

module _ (q : ℕ) (xs : List ℕ) (j : ℕ) (low : q ≤ j) (room : suc j < length xs) where
  long : suc (length (without q xs)) ≡ length xs
  long = length_without q xs (omega arith)

  front : length (take j (without q xs)) ≡ j
  front = length-take-le j (without q xs) (omega (arith, long))

  -- The number after j still stands where it stood.
  next-is : get_or (moved q xs j) (j + 1) 0 ≡ get_or (without q xs) j 0
  unfolding moved
  next-is = ap (λ (k : ℕ). get_or (take j (without q xs) ++ drop j xs) (k + 1) 0) (sym front)
      ∙ get_or-append-add (take j (without q xs)) (drop j xs) 1 0 ∙ get_or-drop j xs 1 0
      ∙ ap (λ (k : ℕ). get_or xs k 0) (add-one j) ∙ sym (get_d-without q xs j low)

  pub moved_more : set (moved q xs j) j (get_or (moved q xs j) (j + 1) 0) ≡ moved q xs (j + 1)
  unfolding moved
  moved_more = ap (λ (v : ℕ). set (moved q xs j) j v) next-is
      ∙ ap (λ (ys : List ℕ). set (take j (without q xs) ++ ys) j (get_or (without q xs) j 0)) (drop-cons xs j 0 (omega arith))
      ∙ set_at (take j (without q xs)) (get_or xs j 0) (drop (suc j) xs) (get_or (without q xs) j 0) j front
      ∙ sym (append_snoc (take j (without q xs)) (get_or (without q xs) j 0) (drop (suc j) xs))
      ∙ ap (λ (ys : List ℕ). ys ++ drop (suc j) xs) (sym (take-suc (without q xs) j 0 (omega (arith, long))))
      ∙ ap (λ (k : ℕ). take k (without q xs) ++ drop k xs) (sym (add-one j))

take-without : (q m : ℕ) (xs : List ℕ) → q ≤ m → without q (take (suc m) xs) ≡ take m (without q xs)
unfolding without
take-without zero m [] l = sym (take-nil m)
take-without zero m (x ∷ xs) l = refl
take-without (suc q) m [] l = sym (take-nil m)
take-without (suc q) zero (x ∷ xs) l = absurd (omega arith)
take-without (suc q) (suc m) (x ∷ xs) l = ap (λ (r : List ℕ). x ∷ r) (take-without q m xs (le_of_suc-le-suc l))

pub moved_all : (q m : ℕ) (xs : List ℕ) → q ≤ m → m < length xs → take m (moved q xs m) ≡ without q (take (suc m) xs)
moved_all q m xs l r = unfold moved in let e = length_without q xs (omega arith) in
    take_at (take m (without q xs)) (drop m xs) m (length-take-le m (without q xs) (omega (arith, e)))
    ∙ sym (take-without q m xs l)

-- ---- the order, one number after the other

-- With k of n numbers found, the next one's position is among the others.
pub next-position : (n k left f : ℕ) → f ≡ factorial (n - k - 1) → k < n → left < factorial (n - k)
    → (0 < f) × (left / f < n - k)
next-position n k left f e l h = let m : ℕ = n - k - 1 in let some : n - k ≡ suc m = omega arith in (
  subst (λ (g : ℕ). 0 < g) (sym e) (positive m),
  subst (λ (x : ℕ). left / f < x) (sym some) (subst (λ (g : ℕ). left / g < suc m) (sym e)
      (quotient m left (subst (λ (x : ℕ). left < factorial x) some h))),
)

-- Number k of the order, and what is left: the number at position q is taken out of the rest.
pub order-more : (order rest after : List ℕ) (k m left f : ℕ) → k < length order → f ≡ factorial m → take m after ≡ without
    (left / f) (take (suc m) rest) → left / f < suc m → take (k + 1) (set order k (get_or rest (left / f) 0)) ++ order_at m
    (left % f) (take m after) ≡ take k order ++ order_at (suc m) left (take (suc m) rest)
order-more order rest after k m left f l e g h = unfold order_at in let v = get_or rest (left / f) 0 in
    ap₂ (λ (n : ℕ) (ys : List ℕ). take n (set order k v) ++ order_at m (left % f) ys) (add-one k) g
    ∙ ap (λ (xs : List ℕ). xs ++ order_at m (left % f) (without (left / f) (take (suc m) rest))) (take-suc-set order k v l)
    ∙ append_snoc (take k order) v (order_at m (left % f) (without (left / f) (take (suc m) rest)))
    ∙ ap (λ (n : ℕ). take k order ++ (n ∷ order_at m (left % f) (without (left / f) (take (suc m) rest))))
    (sym (get_or-take (suc m) rest (left / f) 0 h)) ∙ ap (λ (n : ℕ). take k
    order ++ (get_or (take (suc m) rest) (left / n) 0 ∷ order_at m (left % n) (without (left / n) (take (suc m) rest)))) e

pub order-none : (order rest : List ℕ) (left : ℕ) → order ++ order_at 0 left rest ≡ order
order-none order rest left = unfold order_at in append-nil order

-- A number's position in the rest.
pub ruleset positions = (next-position)

pub ruleset factorials = (factorial-suc, factorial-most)
