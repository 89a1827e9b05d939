-- Lists of transactions: their members, and tests and counts of them, also in the words of std.
use mathlib.Core.{Bool.{Bool, true, false, cond, not, ◌&&◌, ◌||◌}, List.{List, [], ◌∷◌, ◌++◌}, Path.{◌≡◌, refl, sym, ap, ap₂, subst, ◌∙◌}}
use borrow.Author.Tests.{leb-true}
use lib.{Dec.{leb, eqb}, ListN.{length, get_or, drop, drop_of_length-le}, Seq.drop-cons}
use native.Mathlib.{Numerals.add-one, Omega.arith}
use Prim.Native.Nat.{ℕ, zero, suc, ◌+◌, ◌≤◌, ◌<◌}
use Rattle.limits.specs.Limits.{last_transaction, transaction_count}
use Rattle.admission.proofs.Laws.{and_left, and_right, and_both, some-none, some_more, some-found}
use Rattle.buffers.proofs.BelowLaws.{none_yet, one_more}
use Rattle.spec_orders.specs.Orders.{all_in, count_in, is_in, distinct}
use Rattle.admission.specs.FirstRefusal.{some_below}
use Rattle.spec.proofs.Abstract.Lists.{eqb-sym}
use Rattle.std.specs.List.{range_with_len}
use Rattle.std.proofs.lemmas.List.Folds.{list_any-append}
use Rattle.std.{specs.List.{list_all, list_any, count_by}, proofs.{lemmas.List.Recursion.is_count_by, iter.runs.Made.zero_default}}

pub rest : (ts : List ℕ) (k : ℕ) → k < length ts → drop k ts ≡ get_or ts k 0 ∷ drop (k + 1) ts
rest ts k l = rw (add-one k) (drop-cons ts k 0 l)

pub all-at : (p : ℕ → Bool) (ts : List ℕ) (k : ℕ) → all_in p ts ≡ true → k < length ts → p (get_or ts k 0) ≡ true
unfolding all_in
all-at p [] k e l = absurd (omega arith)
all-at p (t ∷ ts) zero e l = and_left (p t) _ e
all-at p (t ∷ ts) (suc k) e l = all-at p ts k (and_right (p t) _ e) (omega arith)

-- A member of a list of transactions.
pub small_at : (ts : List ℕ) (k : ℕ) → all_in (λ t. leb t last_transaction) ts ≡ true → k < length ts
    → get_or ts k 0 < transaction_count
small_at ts k e l = let h = leb-true (get_or ts k 0) last_transaction (all-at (λ t. leb t last_transaction) ts k e l) in omega arith

-- The same of an iterator's list, at any default.
pub small-each : (ts us : List ℕ) → us ≡ ts → all_in (λ t. leb t last_transaction) ts ≡ true
    → (k d : ℕ) → k < length us → get_or us k d < transaction_count
small-each ts us same e k d l = rw (zero_default us k d l) (small_at us k (subst (λ (vs : List ℕ). all_in (λ t. leb t
    last_transaction) vs ≡ true) (sym same) e) l)

pub all-by : (p : ℕ → Bool) (ts : List ℕ) → ((k : ℕ) → k < length ts → p (get_or ts k 0) ≡ true) → all_in p ts ≡ true
unfolding all_in
all-by p [] h = refl
all-by p (t ∷ ts) h = and_both (p t) _ (h 0 (omega arith)) (all-by p ts (λ k l. h (suc k) (omega arith)))

-- ---- a list without a repeat

module _ (ts : List ℕ) where
  abbrev pub DistinctLeft : ℕ → Type 0
  DistinctLeft k = distinct ts ≡ distinct (drop k ts)

  distinct-rest : (k : ℕ) → k < length ts → distinct (drop k ts) ≡ not (is_in (get_or ts k 0) (drop (suc k) ts))
      && distinct (drop (k + 1) ts)
  distinct-rest k l = unfold distinct in rw (add-one k) (ap distinct (drop-cons ts k 0 l))

  pub distinct-fails : (k : ℕ) → k < length ts → DistinctLeft k → is_in (get_or ts k 0) (drop (suc k) ts) ≡ true → distinct ts
      ≡ false
  distinct-fails k l e f = e ∙ distinct-rest k l ∙ ap (λ (b : Bool). not b && distinct (drop (k + 1) ts)) f

  pub distinct_more : (k : ℕ) → k < length ts → DistinctLeft k → is_in (get_or ts k 0) (drop (suc k) ts) ≡ false
      → DistinctLeft (k + 1)
  distinct_more k l e f = e ∙ distinct-rest k l ∙ ap (λ (b : Bool). not b && distinct (drop (k + 1) ts)) f

  pub distinct-done : (k : ℕ) → length ts ≤ k → DistinctLeft k → distinct ts ≡ true
  distinct-done k l e = unfold distinct in e ∙ ap distinct (drop_of_length-le ts l)

-- ---- a number that occurs

-- Behind the list's end none does.
pub in-empty : (t : ℕ) (ts : List ℕ) (k : ℕ) → length ts ≤ k → is_in t (drop k ts) ≡ false
in-empty t ts k l = unfold is_in in ap (is_in t) (drop_of_length-le ts l)

-- ---- in std's words

pub all-std : (p : ℕ → Bool) (ts : List ℕ) → all_in p ts ≡ list_all p ts
unfolding all_in
all-std p [] = refl
all-std p (t ∷ ts) = ap (λ (b : Bool). p t && b) (all-std p ts)

pub in-std : (t : ℕ) (ts : List ℕ) → is_in t ts ≡ list_any (λ u. eqb u t) ts
unfolding is_in
in-std t [] = refl
in-std t (u ∷ ts) = ap₂ ◌||◌ (eqb-sym t u) (in-std t ts)

pub count-std : (p : ℕ → Bool) (ts : List ℕ) → count_in p ts ≡ count_by p ts
unfolding count_in
count-std p ts = is_count_by (count_in p) p refl (λ t us. pick (p t) (count_in p us)) ts
  where
    pick : (b : Bool) (n : ℕ) → cond b 1 0 + n ≡ cond b (1 + n) n
    pick true n = refl
    pick false n = omega arith

range_more : (a n : ℕ) → range_with_len a (suc n) ≡ range_with_len a n ++ ((a + n) ∷ [])
range_more a zero = let e : a ≡ a + 0 = omega arith in ap (λ (k : ℕ). k ∷ []) e
range_more a (suc n) = let e : a + 1 + n ≡ a + suc n = omega arith in
    ap (λ (ks : List ℕ). a ∷ ks) (range_more (a + 1) n ∙ ap (λ (k : ℕ). range_with_len (a + 1) n ++ (k ∷ [])) e)

alone : (b : Bool) → b || false ≡ b
alone true = refl
alone false = refl

pub some-std : (p : ℕ → Bool) (n : ℕ) → some_below p n ≡ list_any p (range_with_len 0 n)
unfolding some_below
some-std p zero = refl
some-std p (suc n) = let e : 0 + n ≡ n = omega arith in sym (ap (list_any p) (range_more 0 n)
    ∙ list_any-append p (range_with_len 0 n) ((0 + n) ∷ [])
    ∙ ap₂ ◌||◌ (sym (some-std p n)) (alone (p (0 + n)) ∙ ap p e))

-- ---- sets of laws that contracts are proved by

-- A loop that stops at the first hit, and one that goes over all.
pub ruleset searches = (some-none, some_more, some-found)

pub ruleset tests = (none_yet, one_more)

pub ruleset repeats = (distinct-fails, distinct_more, distinct-done)
