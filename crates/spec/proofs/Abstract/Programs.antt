-- Laws of programs: one program after another, what a list of items holds, and a step of a stale transaction.
use mathlib.Core.{Bool.{Bool, true, false, cond, ◌||◌, or_assoc, and-false}, List.{List, [], ◌∷◌, ◌++◌}}
use mathlib.Core.Path.{◌≡◌, refl, ap, sym, ◌∙◌}
use Rattle.spec.specs.Items.{Item, file_length, Values, Prog, done, ask, measure, and_then, result, asked, same}
use Rattle.spec.specs.{Messages.Op, Steps.{Stepped, refuse, is_read_call, refuses_stale, refused_stale}}
use Rattle.spec.proofs.Abstract.AbstractStore.{among}

-- An item stands in a joined list where it stands in one of the two.
pub among-append : (i : Item) (js ks : List Item) → among i (js ++ ks) ≡ (among i js || among i ks)
unfolding among
among-append i [] ks = refl
among-append i (j ∷ js) ks =
    ap (λ (b : Bool). same i j || b) (among-append i js ks) ∙ sym (or_assoc (same i j) (among i js) (among i ks))

module _ {A B : Type 0} (v : Values) where
  -- The result of one program after another.
  pub result-and_then : (p : Prog A) (k : A → Prog B) → result v (and_then p k) ≡ result v (k (result v p))
  unfolding and_then result
  result-and_then (done a) k = refl
  result-and_then (ask i g) k = result-and_then (g (v i)) k
  result-and_then (measure f g) k = result-and_then (g (v (file_length f))) k

  -- The items that one program after another asks for.
  pub asked-and_then : (p : Prog A) (k : A → Prog B) → asked v (and_then p k) ≡ asked v p ++ asked v (k (result v p))
  unfolding and_then result asked
  asked-and_then (done a) k = refl
  asked-and_then (ask i g) k = ap (λ (l : List Item). i ∷ l) (asked-and_then (g (v i)) k)
  asked-and_then (measure f g) k = asked-and_then (g (v (file_length f))) k

  -- An item is asked for by one program after another where one of the two asks for it.
  pub among-and_then : (i : Item) (p : Prog A) (k : A → Prog B)
      → among i (asked v (and_then p k)) ≡ (among i (asked v p) || among i (asked v (k (result v p))))
  among-and_then i p k = ap (among i) (asked-and_then p k) ∙ among-append i (asked v p) (asked v (k (result v p)))

  -- Neither asks for it, so the two together do not.
  pub none-and_then : (i : Item) (p : Prog A) (k : A → Prog B) → among i (asked v p) ≡ false
      → ((a : A) → among i (asked v (k a)) ≡ false) → among i (asked v (and_then p k)) ≡ false
  none-and_then i p k e f = among-and_then i p k ∙ ap (λ (b : Bool). b || among i (asked v (k (result v p)))) e ∙ f (result v p)

-- Every element of a list has a property.
module _ {A : Type 0} (P : A → Type 0) where
  abbrev pub Every : List A → Type 0
  Every [] = Unit {0}
  Every (a ∷ xs) = P a × Every xs

module _ {A : Type 0} (P : A → Type 0) where
  pub every_append : (xs ys : List A) → Every P xs → Every P ys → Every P (xs ++ ys)
  every_append [] ys h k = k
  every_append (x ∷ xs) ys h k = (h.0, every_append xs ys h.1 k)

  pub every-left : (xs ys : List A) → Every P (xs ++ ys) → Every P xs
  every-left [] ys h = tt
  every-left (x ∷ xs) ys h = (h.0, every-left xs ys h.1)

  pub every-right : (xs ys : List A) → Every P (xs ++ ys) → Every P ys
  every-right [] ys h = h
  every-right (x ∷ xs) ys h = every-right xs ys h.1

-- What holds of a refusal 18, and of the step where it does not come.
pub refused-stale : (P : Stepped → Type 0) (stale : Bool) (o : Op) (s : Stepped) → P (refuse 18)
    → (refuses_stale stale o ≡ false → P s) → P (refused_stale stale o s)
unfolding refused_stale
refused-stale P stale o s h k = chosen (refuses_stale stale o) k
  where
    chosen : (b : Bool) → (b ≡ false → P s) → P (cond b (refuse 18) s)
    chosen true k = h
    chosen false k = k refl

-- A step of one that is not stale is never refused with 18.
pub not-stale : (stale : Bool) (o : Op) → stale ≡ false → refuses_stale stale o ≡ false
not-stale stale o e = unfold refuses_stale in rw (e, and-false (is_read_call o))

pub not-refused-stale : (stale : Bool) (o : Op) (s : Stepped) → stale ≡ false → refused_stale stale o s ≡ s
not-refused-stale stale o s e = unfold refused_stale in rw (not-stale stale o e)
