-- Laws of lists and of functions with another value at one number: entries and their comparison, settings and what they set.
use mathlib.Core.Bool.{Bool, true, false, cond, not, ◌&&◌, ◌||◌, false≢true, and_assoc, or_assoc, or-false, and-true, and-false}
use mathlib.Core.{List.{List, [], ◌∷◌, ◌++◌, map}, Path.{◌≡◌, refl, sym, ap, ap₂, ◌∙◌, subst}}
use borrow.Author.Tests.{eqb-true, eq-eqb, ne_eqb}
use lib.Dec.{eqb}
use native.Mathlib.Omega.{arith}
use Prim.Native.Nat.{ℕ, ◌+◌, ◌≤◌}
use Rattle.buffers.proofs.BelowLaws.{and_left, and_right, and_both}
use Rattle.spec.specs.{Items.{Item, byte, offset, file_length, same, Values}, Transactions.put}
use Rattle.spec.specs.{Commits.{Setting, put_item, landed, set_by}, Sightings.{Entry, same_entry, same_entries, entries}}
use Rattle.spec.proofs.Abstract.{AbstractStore.{OpenTxn, abstract_sighted, among, hit, mark_all, length_all}, Programs.Every}

-- A function with another value at one number.
module _ {A : Type 0} (t : ℕ) (a : A) (f : ℕ → A) where
  pub put_keeps : (P : A → Type 0) → P a → ((u : ℕ) → P (f u)) → (u : ℕ) → P (put t a f u)
  unfolding put
  put_keeps P h k u = chosen (eqb u t)
    where
      chosen : (b : Bool) → P (cond b a (f u))
      chosen true = h
      chosen false = k u

  pub put_other : (u : ℕ) → (u ≡ t → ⊥) → put t a f u ≡ f u
  put_other u h = unfold put in ap (λ (b : Bool). cond b a (f u)) (ne_eqb u t h)

-- Tests.
pub iff-same : (a b : Bool) → (a ≡ true → b ≡ true) → (b ≡ true → a ≡ true) → a ≡ b
iff-same true b f g = sym (f refl)
iff-same false true f g = g refl
iff-same false false f g = refl

pub eqb-sym : (m n : ℕ) → eqb m n ≡ eqb n m
eqb-sym m n = iff-same (eqb m n) (eqb n m) (λ e. eq-eqb n m (sym (eqb-true m n e))) (λ e. eq-eqb m n (sym (eqb-true n m e)))

-- Items.
pub same_true : (i j : Item) → same i j ≡ true → i ≡ j
unfolding same
same_true (byte p) (byte q) e = ap byte (eqb-true p q e)
same_true (byte p) (offset d) e = absurd (false≢true e)
same_true (byte p) (file_length g) e = absurd (false≢true e)
same_true (offset d) (byte q) e = absurd (false≢true e)
same_true (offset d) (offset e) h = ap offset (eqb-true d e h)
same_true (offset d) (file_length g) e = absurd (false≢true e)
same_true (file_length f) (byte q) e = absurd (false≢true e)
same_true (file_length f) (offset d) e = absurd (false≢true e)
same_true (file_length f) (file_length g) e = ap file_length (eqb-true f g e)

pub same_refl : (i : Item) → same i i ≡ true
unfolding same
same_refl (byte p) = eq-eqb p p refl
same_refl (offset d) = eq-eqb d d refl
same_refl (file_length f) = eq-eqb f f refl

pub same-sym : (i j : Item) → same i j ≡ same j i
unfolding same
same-sym (byte p) (byte q) = eqb-sym p q
same-sym (byte p) (offset d) = refl
same-sym (byte p) (file_length g) = refl
same-sym (offset d) (byte q) = refl
same-sym (offset d) (offset e) = eqb-sym d e
same-sym (offset d) (file_length g) = refl
same-sym (file_length f) (byte q) = refl
same-sym (file_length f) (offset e) = refl
same-sym (file_length f) (file_length g) = eqb-sym f g

-- Entries.
pub same_entry-true : (a b : Entry) → same_entry a b ≡ true → a ≡ b
unfolding same_entry
same_entry-true a b e = ap₂ (λ (i : Item) (n : ℕ). record { item = i; setter = n })
    (same_true a.item b.item (and_left (same a.item b.item) (eqb a.setter b.setter) e))
    (eqb-true a.setter b.setter (and_right (same a.item b.item) (eqb a.setter b.setter) e))

pub same_entries-true : (xs bs : List Entry) → same_entries xs bs ≡ true → xs ≡ bs
unfolding same_entries
same_entries-true [] [] e = refl
same_entries-true [] (b ∷ bs) e = absurd (false≢true e)
same_entries-true (a ∷ xs) [] e = absurd (false≢true e)
same_entries-true (a ∷ xs) (b ∷ bs) e = ap₂ (λ (x : Entry) (l : List Entry). x ∷ l) (same_entry-true a b (and_left
    (same_entry a b) (same_entries xs bs) e)) (same_entries-true xs bs (and_right (same_entry a b) (same_entries xs bs) e))

pub same_entries-refl : (xs : List Entry) → same_entries xs xs ≡ true
unfolding same_entries same_entry
same_entries-refl [] = refl
same_entries-refl (a ∷ xs) = and_both (same_entry a a) (same_entries xs xs) (and_both (same a.item a.item)
    (eqb a.setter a.setter) (same_refl a.item) (eq-eqb a.setter a.setter refl)) (same_entries-refl xs)

pub same_entries-of : (xs bs : List Entry) → xs ≡ bs → same_entries xs bs ≡ true
same_entries-of xs bs e = subst (λ (l : List Entry). same_entries xs l ≡ true) e (same_entries-refl xs)

-- The items of a list of entries.
unfoldable pub items : List Entry → List Item
items = map (λ e. e.item)

pub items-entries : (s : Values) (is : List Item) → items (entries s is) ≡ is
unfolding items entries
items-entries s [] = refl
items-entries s (i ∷ is) = ap (λ (l : List Item). i ∷ l) (items-entries s is)

pub items-append : (xs bs : List Entry) → items (xs ++ bs) ≡ items xs ++ items bs
unfolding items
items-append [] bs = refl
items-append (a ∷ xs) bs = ap (λ (l : List Item). a.item ∷ l) (items-append xs bs)

pub entries-append : (s : Values) (is js : List Item) → entries s (is ++ js) ≡ entries s is ++ entries s js
unfolding entries
entries-append s [] js = refl
entries-append s (i ∷ is) js = ap (λ (l : List Entry). record { item = i; setter = s i } ∷ l) (entries-append s is js)

-- Every entry has the setter that its item has.
unfoldable pub current : Values → List Entry → Bool
current s [] = true
current s (e ∷ es) = eqb (s e.item) e.setter && current s es

pub current-entries : (s : Values) (is : List Item) → current s (entries s is) ≡ true
unfolding current entries
current-entries s [] = refl
current-entries s (i ∷ is) = and_both (eqb (s i) (s i)) (current s (entries s is)) (eq-eqb (s i) (s i) refl)
    (current-entries s is)

pub current-append : (s : Values) (xs bs : List Entry) → current s (xs ++ bs) ≡ (current s xs && current s bs)
unfolding current
current-append s [] bs = refl
current-append s (a ∷ xs) bs = ap (λ (b : Bool). eqb (s a.item) a.setter && b) (current-append s xs bs)
    ∙ sym (and_assoc (eqb (s a.item) a.setter) (current s xs) (current s bs))

-- A list of entries whose setters are current is what a sighting of its items gives now.
pub current-is : (s : Values) (es : List Entry) → current s es ≡ true → entries s (items es) ≡ es
unfolding current entries items
current-is s [] h = refl
current-is s (e ∷ es) h = ap₂ (λ (n : ℕ) (l : List Entry). record { item = e.item; setter = n } ∷ l)
    (eqb-true (s e.item) e.setter (and_left (eqb (s e.item) e.setter) (current s es) h))
    (current-is s es (and_right (eqb (s e.item) e.setter) (current s es) h))

-- Whether settings set an item; whether they set one of a list.
unfoldable pub touched : List Setting → Item → Bool
touched [] j = false
touched (s ∷ ss) j = same s.item j || touched ss j

unfoldable pub any_touched : List Setting → List Item → Bool
any_touched ss [] = false
any_touched ss (j ∷ js) = touched ss j || any_touched ss js

-- An item that is set has the new setter; another keeps its own, and its value.
cond-twice : (n m : ℕ) (a b : Bool) → cond b n (cond a n m) ≡ cond (a || b) n m
cond-twice n m true true = refl
cond-twice n m true false = refl
cond-twice n m false b = refl

pub set_by-at : (n : ℕ) (ss : List Setting) (v : Values) (j : Item) → set_by n ss v j ≡ cond (touched ss j) n (v j)
unfolding set_by touched put_item
set_by-at n [] v j = refl
set_by-at n (s ∷ ss) v j = set_by-at n ss (put_item s.item n v) j ∙ ap (λ (a : Bool). cond (touched ss j) n
    (cond a n (v j))) (same-sym j s.item) ∙ cond-twice n (v j) (same s.item j) (touched ss j)

pub or_left_false : (a b : Bool) → (a || b) ≡ false → a ≡ false
or_left_false true b e = e
or_left_false false b e = refl

pub or_right_false : (a b : Bool) → (a || b) ≡ false → b ≡ false
or_right_false true true e = e
or_right_false true false e = refl
or_right_false false b e = e

pub landed_at : (ss : List Setting) (v : Values) (j : Item) → touched ss j ≡ false → landed ss v j ≡ v j
unfolding landed touched put_item
landed_at [] v j h = refl
landed_at (s ∷ ss) v j h = landed_at ss (put_item s.item s.to v) j (or_right_false (same s.item j) (touched ss j) h)
    ∙ ap (λ (a : Bool). cond a s.to (v j)) (same-sym j s.item ∙ or_left_false (same s.item j) (touched ss j) h)

-- A transaction is hit exactly where one of the items that it has sighted is set.
or_swap : (a b c d : Bool) → ((a || b) || (c || d)) ≡ ((a || c) || (b || d))
or_swap true b c d = refl
or_swap false true true d = refl
or_swap false true false d = refl
or_swap false false c d = refl

any_touched-none : (js : List Item) → any_touched [] js ≡ false
unfolding any_touched touched
any_touched-none [] = refl
any_touched-none (j ∷ js) = any_touched-none js

any_touched-more : (s : Setting) (ss : List Setting) (js : List Item) → any_touched (s ∷ ss) js
    ≡ (among s.item js || any_touched ss js)
unfolding any_touched touched among
any_touched-more s ss [] = refl
any_touched-more s ss (j ∷ js) = ap (λ (b : Bool). (same s.item j || touched ss j) || b) (any_touched-more s ss js)
    ∙ or_swap (same s.item j) (touched ss j) (among s.item js) (any_touched ss js)

pub hit-is : (h : OpenTxn) (js : List Item) → ((i : Item) → abstract_sighted h i ≡ among i js) → (ss : List Setting) → hit ss h
    ≡ any_touched ss js
unfolding hit
hit-is h js e [] = sym (any_touched-none js)
hit-is h js e (s ∷ ss) = ap₂ (λ (a b : Bool). a || b) (e s.item) (hit-is h js e ss) ∙ sym (any_touched-more s ss js)

-- Marks after a sighting.
put-or : (q p : ℕ) (m : ℕ → Bool) → put q true m p ≡ (m p || eqb p q)
unfolding put
put-or q p m = chosen (eqb p q) (m p)
  where
    chosen : (a b : Bool) → cond a true b ≡ (b || a)
    chosen true true = refl
    chosen true false = refl
    chosen false true = refl
    chosen false false = refl

pub mark_all-at : (is : List Item) (m : ℕ → Bool) (q : ℕ) → mark_all is m q ≡ (m q || among (byte q) is)
unfolding mark_all among same
mark_all-at [] m q = sym (or-false (m q))
mark_all-at (byte p ∷ is) m q = mark_all-at is (put p true m) q ∙ ap (λ (b : Bool). b || among (byte q) is) (put-or p q m)
    ∙ or_assoc (m q) (eqb q p) (among (byte q) is)
mark_all-at (offset d ∷ is) m q = mark_all-at is m q
mark_all-at (file_length f ∷ is) m q = mark_all-at is m q

pub length_all-at : (is : List Item) (m : ℕ → Bool) (f : ℕ) → length_all is m f ≡ (m f || among (file_length f) is)
unfolding length_all among same
length_all-at [] m f = sym (or-false (m f))
length_all-at (byte p ∷ is) m f = length_all-at is m f
length_all-at (offset d ∷ is) m f = length_all-at is m f
length_all-at (file_length g ∷ is) m f = length_all-at is (put g true m) f
    ∙ ap (λ (b : Bool). b || among (file_length f) is) (put-or g f m) ∙ or_assoc (m f) (eqb f g) (among (file_length f) is)

-- After a grant the entries are current that were so before and whose items were not set.
fresh-setter : (n k m : ℕ) → k ≤ n → (b : Bool) → eqb (cond b (n + 1) m) k ≡ (eqb m k && not b)
fresh-setter n k m h true = ne_eqb (n + 1) k (λ e. omega arith) ∙ sym (and-false (eqb m k))
fresh-setter n k m h false = sym (and-true (eqb m k))

and-swap : (a b c d : Bool) → ((a && not b) && (c && not d)) ≡ ((a && c) && not (b || d))
and-swap true true true d = refl
and-swap true true false d = refl
and-swap true false c d = refl
and-swap false b c d = refl

pub current-after : (n : ℕ) (ss : List Setting) (v : Values) (es : List Entry) → Every (λ (e : Entry). e.setter ≤ n) es
    → current (set_by (n + 1) ss v) es ≡ (current v es && not (any_touched ss (items es)))
unfolding current any_touched items
current-after n ss v [] h = refl
current-after n ss v (e ∷ es) h = ap₂ (λ (a b : Bool). a && b) (ap (λ (k : ℕ). eqb k e.setter) (set_by-at (n + 1) ss v
    e.item) ∙ fresh-setter n e.setter (v e.item) h.0 (touched ss e.item)) (current-after n ss v es h.1)
    ∙ and-swap (eqb (v e.item) e.setter) (touched ss e.item) (current v es) (any_touched ss (items es))
