-- The laws of runs: what a write record covers, the walk from the newest record back, and that what it finds is the latest write.
-- Assumes nothing.
use mathlib.Core.{Bool.{Bool, true, false, cond, ◌&&◌, and-false, false≢true}, List.{List, [], ◌∷◌, ◌++◌}}
use mathlib.Core.{Logic.{◌⊎◌, inl, inr, ⊎_elim}, Path.{◌≡◌, refl, sym, ap, ap₂, ◌∙◌}}
use lib.{Dec.{leb, ltb, eqb}, ListN.{get_or, length}}
use Prim.Native.Nat.{ℕ, zero, suc, ◌+◌, ◌-◌, ◌≤◌, ◌<◌, min, max}
use native.Mathlib.{Nat.add-zero, Numerals.add-one, Omega.arith}
use borrow.Author.Tests.{leb-true, ltb-true, lt-ltb, le-leb, eq-eqb, ne_eqb}
use Rattle.limits.specs.Limits.{transaction_count}
use Rattle.standings.specs.{declared.Place.{Place, TheVariants.{At, After}}, Table.place_number}
use Rattle.state.specs.{declared.{Transaction.Transaction, journal.WriteRecord.WriteRecord}, Journal.write_record_at}
use Rattle.admission.specs.{FirstRefusal.sum, Admission.lengths_before}
use Rattle.admission.proofs.Laws.{and_left, and_right, and_both, TransactionInRange, record-in}
use Rattle.buffers.{specs.Parts.{cut, tabulate}, proofs.PartLaws.{le-or-lt, length_cut, get_d-cut}}
use Rattle.spec.specs.Reading.{lies_over, byte_at, Source, own, file, supplies, or_else, latest, write_end, placed_end, farthest}
use Rattle.spec.{specs.{Reading.own_end, Transactions.Write}, proofs.Refinement.WriteEnds.farthest-last}
use Rattle.std.specs.Prelude.{Option, Some, None}
use Rattle.read_lookup.specs.declared.{Extent.Extent, Run.Run}
use Rattle.read_lookup.specs.Lookup.{extent, Recorded, covers, covered_by, newest, supplier, stands_at, CountedRecords, GapOf}
use Rattle.read_lookup.specs.Lookup.{LatestWrite, RunOf, write_in, source_of, record_end, reach}

-- ---- what a write record covers

untrue : (b : Bool) → (b ≡ true → ⊥) → b ≡ false
untrue true h = absurd (h refl)
untrue false h = refl

over-in : (q : Place) (n p : ℕ) → lies_over q n p ≡ true → (place_number q ≤ p) × (p < place_number q + n)
unfolding lies_over
over-in (At a) n p e =
    (leb-true a p (and_left (leb a p) (ltb p (a + n)) e), ltb-true p (a + n) (and_right (leb a p) (ltb p (a + n)) e))
over-in (After a) n p e = absurd (false≢true e)

over-along : (q : Place) (n p i : ℕ) → lies_over q n p ≡ true → place_number q ≤ i → i < place_number q + n → lies_over q n i ≡ true
unfolding lies_over
over-along (At a) n p i e g l = rw (le-leb a i g, lt-ltb i (a + n) l)
over-along (After a) n p i e g l = absurd (false≢true e)

byte-over : (q : Place) (n p : ℕ) (bytes : List ℕ) → lies_over q n p ≡ true → byte_at q bytes p ≡ get_or bytes (p - place_number q) 0
unfolding lies_over byte_at
byte-over (At a) n p bytes e = refl
byte-over (After a) n p bytes e = absurd (false≢true e)

abbrev start_of : WriteRecord → ℕ
start_of w = place_number w.place

module _ (filenumbers : List ℕ) (f p : ℕ) (w : WriteRecord) where
  abbrev of_file : Bool
  of_file = eqb (get_or filenumbers w.descriptor 0) f

  covers-over : covers filenumbers f p w ≡ true → lies_over w.place w.length p ≡ true
  covers-over e = unfold covers in and_right of_file (lies_over w.place w.length p) e

  pub covers-in : covers filenumbers f p w ≡ true → (start_of w ≤ p) × (p < start_of w + w.length)
  covers-in e = over-in w.place w.length p (covers-over e)

  -- a record that covers one place covers all of its own
  covers-along : covers filenumbers f p w ≡ true → (i : ℕ) → start_of w ≤ i → i < start_of w + w.length → covers filenumbers f i w
      ≡ true
  unfolding covers
  covers-along e i g l = and_both of_file (lies_over w.place w.length i) (and_left of_file (lies_over w.place
      w.length p) e) (over-along w.place w.length p i (and_right of_file (lies_over w.place w.length p) e) g l)

  pub outside : (p < start_of w) ⊎ (start_of w + w.length ≤ p) → covers filenumbers f p w ≡ false
  outside which =
      untrue (covers filenumbers f p w) (λ e. let g = covers-in e in ⊎_elim (λ h. omega arith) (λ h. omega arith) which)

-- ---- how many places come before those of a write record

module _ (filenumbers : List ℕ) (w : WriteRecord) (e : Extent) where
  -- all of them
  gap-all : ((i : ℕ) → covers filenumbers e.file (e.place + i) w ≡ false) → GapOf filenumbers w e e.length
  gap-all none = record { within = omega arith; clear = λ i l. none i; met = λ l. absurd (omega arith) }

  pub gap-unplaced : (a : ℕ) → w.place ≡ After a → GapOf filenumbers w e e.length
  unfolding covers lies_over
  gap-unplaced a q = gap-all (λ i. ap (λ (x : Place). of_file filenumbers e.file 0 w && lies_over x w.length
      (e.place + i)) q ∙ and-false (of_file filenumbers e.file 0 w))

  pub gap-other-file : (get_or filenumbers w.descriptor 0 ≡ e.file → ⊥) → GapOf filenumbers w e e.length
  gap-other-file h = unfold covers in gap-all (λ i. rw (ne_eqb (get_or filenumbers w.descriptor 0) e.file h))

  pub gap-before : start_of w + w.length ≤ e.place → GapOf filenumbers w e e.length
  gap-before h = gap-all (λ i. outside filenumbers e.file (e.place + i) w (inr (omega arith)))

  pub gap-empty : w.length ≡ 0 → GapOf filenumbers w e e.length
  gap-empty z = gap-all (λ i. outside filenumbers e.file (e.place + i) w
      (⊎_elim (λ h. inr (omega arith)) (λ h. inl h) (le-or-lt (start_of w) (e.place + i))))

  module _ (p : ℕ) (placed : w.place ≡ At p) (there : get_or filenumbers w.descriptor 0 ≡ e.file) where
    inside : (i : ℕ) → p ≤ i → i < p + w.length → covers filenumbers e.file i w ≡ true
    inside i g h = unfold covers lies_over in
        rw (eq-eqb (get_or filenumbers w.descriptor 0) e.file there, placed, le-leb p i g, lt-ltb i (p + w.length) h)

    -- none, where it covers the first
    pub gap-over : p ≤ e.place → e.place < p + w.length → GapOf filenumbers w e 0
    gap-over g h = record {
      within = omega arith;
      clear = λ i l. absurd (omega arith);
      met = λ l. inside (e.place + 0) (omega arith) (omega arith);
    }

    -- those before it
    pub gap-after : e.place < p → 0 < w.length → (r : ℕ) → r ≡ min e.length (p - e.place) → GapOf filenumbers w e r
    gap-after g h r m = let s : start_of w ≡ p = ap place_number placed in record {
      within = omega arith;
      clear = λ i l. outside filenumbers e.file (e.place + i) w (inl (omega arith));
      met = λ l. inside (e.place + r) (omega arith) (omega arith);
    }

-- ---- the walk from the newest record back

newest-suc : (c : ℕ → Bool) (n : ℕ) → newest c (suc n) ≡ cond (c n) (Some n) (newest c n)
newest-suc c n = unfold newest in refl

newest-is : (c : ℕ → Bool) (n k : ℕ) → newest c n ≡ Some k → (k < n) × (c k ≡ true)
unfolding newest
newest-is c zero k e = let z : ◌≡◌ {A = ℕ} 0 1 = cc in absurd (omega arith)
newest-is c (suc n) k e = pick (c n) refl (sym (newest-suc c n) ∙ e) (newest-is c n k)
  where
    pick : (b : Bool) → c n ≡ b → cond b (Some n) (newest c n) ≡ Some k → (newest c n ≡ Some k → (k < n) × (c k ≡ true))
        → (k < suc n) × (c k ≡ true)
    pick true q e ih = let s : n ≡ k = cc in (omega arith, ap c (sym s) ∙ q)
    pick false q e ih = let r = ih e in (omega arith, r.1)

-- no later one than the first that it meets covers
newest-later : (c : ℕ → Bool) (n k m : ℕ) → newest c n ≡ Some k → k < m → m < n → c m ≡ false
unfolding newest
newest-later c zero k m e g l = absurd (omega arith)
newest-later c (suc n) k m e g l = pick (c n) refl (sym (newest-suc c n) ∙ e) (λ e h. newest-later c n k m e g h)
  where
    pick : (b : Bool) → c n ≡ b → cond b (Some n) (newest c n) ≡ Some k → (newest c n ≡ Some k → m < n → c m ≡ false) → c m
        ≡ false
    pick true q e ih = let s : n ≡ k = cc in absurd (omega arith)
    pick false q e ih = ⊎_elim (ih e) (λ h. let s : m ≡ n = omega arith in ap c s ∙ q) (le-or-lt (suc m) n)

-- it meets none exactly when none covers
newest-none : (c : ℕ → Bool) (n : ℕ) → newest c n ≡ None → (k : ℕ) → k < n → c k ≡ false
unfolding newest
newest-none c zero e k l = absurd (omega arith)
newest-none c (suc n) e k l = pick (c n) refl (sym (newest-suc c n) ∙ e) (λ e. newest-none c n e k)
  where
    pick : (b : Bool) → c n ≡ b → cond b (Some n) (newest c n) ≡ None → (newest c n ≡ None → k < n → c k ≡ false) → c k ≡ false
    pick true q e ih = let z : ◌≡◌ {A = ℕ} 0 1 = cc in absurd (omega arith)
    pick false q e ih = ⊎_elim (ih e) (λ h. let s : k ≡ n = omega arith in ap c s ∙ q) (le-or-lt (suc k) n)

newest-only : (c : ℕ → Bool) (n : ℕ) → ((k : ℕ) → k < n → c k ≡ false) → newest c n ≡ None
unfolding newest
newest-only c zero h = refl
newest-only c (suc n) h = newest-suc c n ∙ ap (λ (b : Bool). cond b (Some n) (newest c n)) (h n (omega arith))
    ∙ newest-only c n (λ k l. h k (omega arith))

abbrev theirs : Recorded → ℕ → ℕ → WriteRecord
theirs j t k = write_record_at j.journal t k

module _ (j : Recorded) (t f : ℕ) where
  -- the record that supplies a place is one of the transaction's and covers it
  supplier-is : (n p k : ℕ) → supplier j t n f p ≡ Some k → (k < n) × (covers j.filenumbers f p (theirs j t k) ≡ true)
  supplier-is n p k e = unfold supplier in newest-is (λ k. covers j.filenumbers f p (theirs j t k)) n k e

  supplier-suc : (k p : ℕ) → supplier j t (suc k) f p
      ≡ cond (covers j.filenumbers f p (theirs j t k)) (Some k) (supplier j t k f p)
  supplier-suc k p = unfold supplier in newest-suc (λ k. covers j.filenumbers f p (theirs j t k)) k

  supplier-this : (k p : ℕ) → covers j.filenumbers f p (theirs j t k) ≡ true → supplier j t (suc k) f p ≡ Some k
  supplier-this k p e = supplier-suc k p ∙ ap (λ (b : Bool). cond b (Some k) (supplier j t k f p)) e

  supplier-older : (k p : ℕ) → covers j.filenumbers f p (theirs j t k) ≡ false → supplier j t (suc k) f p ≡ supplier j t k f p
  supplier-older k p e = supplier-suc k p ∙ ap (λ (b : Bool). cond b (Some k) (supplier j t k f p)) e

-- The walk has come back to record k: of the first n places, each has its supplier among the records before it, and the place
-- after them has a newer one.
pub record Walked (j : Recorded) (t records : ℕ) (e : Extent) (k n : ℕ) : Type 0 where
  pub some : 1 ≤ n
  pub within : n ≤ e.length
  pub same : (i : ℕ) → i < n → supplier j t records e.file (e.place + i) ≡ supplier j t k e.file (e.place + i)
  pub ended : n < e.length → (m : ℕ) × (k ≤ m) × (supplier j t records e.file (e.place + n) ≡ Some m)

module _ (j : Recorded) (t records : ℕ) (e : Extent) where
  abbrev by : ℕ → ℕ → Type 0
  by i k = supplier j t records e.file (e.place + i) ≡ Some k

  pub walked_none : 1 ≤ e.length → Walked j t records e records e.length
  walked_none h = record { some = h; within = omega arith; same = λ i g. refl; ended = λ g. absurd (omega arith) }

  module _ (k n : ℕ) (w : Walked j t records e (suc k) n) where
    -- one record more, which leaves g of the places
    pub walked_more : (g r : ℕ) → g ≡ r → 1 ≤ g → GapOf j.filenumbers (theirs j t k) (extent e.file e.place n) r
        → Walked j t records e k g
    walked_more g r a h p = let q : GapOf j.filenumbers (theirs j t k) (extent e.file e.place n) g = rw a p in
        record {
          some = h;
          within = omega (arith, w.within, q.within);
          same = λ i l. w.same i (omega (arith, q.within)) ∙ supplier-older j t e.file k (e.place + i) (q.clear i l);
          ended = λ l. ⊎_elim (λ s. old s q.within l)
              (λ s. (k, omega arith, w.same g s ∙ supplier-this j t e.file k (e.place + g) (q.met s))) (le-or-lt n g);
        }
      where
        old : n ≤ g → g ≤ n → g < e.length → (m : ℕ) × (k ≤ m) × by g m
        old s q l = let same : g ≡ n = omega arith in let o = w.ended (omega arith) in
            (o.0, omega (arith, o.1), ap (λ (i : ℕ). supplier j t records e.file (e.place + i)) same ∙ o.2)

    -- the record covers the first place where it leaves none
    pub gap-covers : (g : ℕ) → g ≡ 0 → GapOf j.filenumbers (theirs j t k) (extent e.file e.place n) g
        → covers j.filenumbers e.file e.place (theirs j t k) ≡ true
    gap-covers g z q = ap (λ (i : ℕ). covers j.filenumbers e.file i (theirs j t k)) (omega arith)
        ∙ q.met (omega (arith, w.some))

    module _ (first : covers j.filenumbers e.file e.place (theirs j t k) ≡ true) where
      abbrev x : ℕ
      x = start_of (theirs j t k)

      abbrev z : ℕ
      z = (theirs j t k).length

      here : supplier j t records e.file e.place ≡ Some k
      here = ap (supplier j t records e.file) (sym (add-zero e.place)) ∙ w.same 0 w.some
          ∙ ap (supplier j t (suc k) e.file) (add-zero e.place) ∙ supplier-this j t e.file k e.place first

      past_end : (i : ℕ) → i < n → e.place + i ≡ x + z → by i k → ⊥
      past_end i l q s = let o = supplier-is j t e.file k (e.place + i) k (sym (w.same i l ∙ supplier-older j t
          e.file k (e.place + i) (outside j.filenumbers e.file (e.place + i) (theirs j t k) (inr (omega arith))))
          ∙ s) in omega (arith, o.0)

      newer : n < e.length → by n k → ⊥
      newer l s = let o = w.ended l in let q : o.0 ≡ k = cc o.2 in omega (arith, o.1)

      supplied : (i : ℕ) → i < n → e.place + i < x + z → by i k
      supplied i l h = w.same i l
          ∙ supplier-this j t e.file k (e.place + i) (covers-along j.filenumbers e.file e.place (theirs j t k)
          first (e.place + i) (omega (arith, (covers-in j.filenumbers e.file e.place (theirs j t k) first).0)) h)

      pub walked-found : (r : Run) → r.supplier ≡ Some k → r.at ≡ lengths_before j.journal t k + (e.place - x)
          → r.length ≡ min n (x + z - e.place) → RunOf j t records e r
      unfolding stands_at
      walked-found r b d q = let g = covers-in j.filenumbers e.file e.place (theirs j t k) first in
          let on : (i : ℕ) → r.length ≡ i
          → supplier j t records e.file (e.place + r.length) ≡ supplier j t records e.file e.place → by i k =
          λ i a s. ap (λ (i : ℕ). supplier j t records e.file (e.place + i)) (sym a) ∙ s ∙ here in record {
            supplied = b ∙ sym here;
            start = d ∙ sym (ap (stands_at j.journal t e.place) here);
            some = omega (arith, w.some, g.0, g.1);
            within = omega (arith, w.within);
            same = λ i l. supplied i (omega arith) (omega (arith, g.0)) ∙ sym here;
            longest = λ l s. ⊎_elim (λ h. newer (omega arith) (on n (omega arith) s)) (λ h. past_end (x + z - e.place)
                (omega arith) (omega (arith, g.1)) (on (x + z - e.place) (omega arith) s))
                (le-or-lt n (x + z - e.place));
          }

  -- no record covers the first place
  module _ (n : ℕ) (w : Walked j t records e 0 n) where
    by-file : (i : ℕ) → i < n → supplier j t records e.file (e.place + i) ≡ None
    by-file i l = w.same i l ∙ supplier-zero (e.place + i)
      where
        supplier-zero : (q : ℕ) → supplier j t 0 e.file q ≡ None
        supplier-zero q = unfold supplier newest in refl

    here-file : supplier j t records e.file e.place ≡ None
    here-file = ap (supplier j t records e.file) (sym (add-zero e.place)) ∙ by-file 0 w.some

    pub walked_all : RunOf j t records e (record { supplier = None; looked = records; at = e.place; length = n })
    walked_all = unfold stands_at in record {
      supplied = sym here-file;
      start = sym (ap (stands_at j.journal t e.place) here-file);
      some = w.some;
      within = w.within;
      same = λ i l. by-file i l ∙ sym here-file;
      longest = λ l s. let o = w.ended l in let z : ◌≡◌ {A = ℕ} 0 1 = cc (o.2, here-file) in omega arith;
    }

-- ---- the supplier is the latest write

or_else-assoc : (x y z : Source) → or_else (or_else x y) z ≡ or_else x (or_else y z)
unfolding or_else
or_else-assoc (own b) y z = refl
or_else-assoc file y z = refl

or_else-file : (x : Source) → or_else x file ≡ x
unfolding or_else
or_else-file (own b) = refl
or_else-file file = refl

latest-append : (file_of : ℕ → ℕ) (f p : ℕ) (xs ys : List Write)
    → latest file_of f p (xs ++ ys) ≡ or_else (latest file_of f p ys) (latest file_of f p xs)
unfolding latest
latest-append file_of f p [] ys = sym (or_else-file (latest file_of f p ys))
latest-append file_of f p (x ∷ xs) ys = ap (λ (s : Source). or_else s (supplies file_of f p x))
    (latest-append file_of f p xs ys) ∙ or_else-assoc (latest file_of f p ys) (latest file_of f p xs) (supplies file_of f p x)

pub data-suc : (journal : List ℕ) (t k : ℕ) → lengths_before journal t (suc k) ≡ lengths_before journal t k
    + (write_record_at journal t k).length
data-suc journal t k = unfold lengths_before sum in refl

-- back from record k to the one before it
pub data-back : (journal : List ℕ) (t k : ℕ) → 0 < k
    → lengths_before journal t k ≡ lengths_before journal t (k - 1) + (write_record_at journal t (k - 1)).length
data-back journal t k h = let e : k ≡ suc (k - 1) = omega arith in ap (lengths_before journal t) e ∙ data-suc journal t (k - 1)

module _ (j : Recorded) (log : List ℕ) (t f p : ℕ) where
  supplies-is : (k : ℕ) → lengths_before j.journal t (suc k) ≤ length log
      → supplies (λ d. get_or j.filenumbers d 0) f p (write_in j.journal log t k)
      ≡ cond (covers j.filenumbers f p (theirs j t k)) (source_of j.journal log t p (Some k)) file
  unfolding supplies write_in covers source_of stands_at
  supplies-is k h = ap (λ (n : ℕ). cond (eqb (get_or j.filenumbers w.descriptor 0) f && lies_over w.place n p)
      (own (byte_at w.place bytes p)) file) long ∙ pick (covers j.filenumbers f p w) refl
    where
      w : WriteRecord
      w = theirs j t k

      start : ℕ
      start = lengths_before j.journal t k

      bytes : List ℕ
      bytes = cut log start w.length

      long : length bytes ≡ w.length
      long = length_cut log start w.length (omega (arith, data-suc j.journal t k))

      pick : (b : Bool) → covers j.filenumbers f p w ≡ b
          → cond b (own (byte_at w.place bytes p)) file ≡ cond b (own (get_or log (start + (p - start_of w)) 0)) file
      pick true e = ap own (byte-over w.place w.length p bytes (covers-over j.filenumbers f p w e)
          ∙ get_d-cut log start w.length (p - start_of w) 0
          (omega (arith, (covers-in j.filenumbers f p w e).0, (covers-in j.filenumbers f p w e).1)))
      pick false e = refl

  -- "Each byte is that of the transaction's own latest write over the place, in call order, otherwise the committed byte."
  pub latest-is : (n : ℕ) → lengths_before j.journal t n ≤ length log → latest (λ d. get_or j.filenumbers d 0) f p
      (tabulate (write_in j.journal log t) n) ≡ source_of j.journal log t p (supplier j t n f p)
  unfolding latest tabulate supplier newest source_of or_else
  latest-is zero h = refl
  latest-is (suc n) h = latest-append (λ d. get_or j.filenumbers d 0) f p (tabulate (write_in j.journal log t) n)
      (write_in j.journal log t n ∷ []) ∙ ap₂ or_else (supplies-is n h)
      (latest-is n (omega (arith, data-suc j.journal t n))) ∙ pick (covers j.filenumbers f p (theirs j t n))
    where
      pick : (b : Bool) → or_else (cond b (source_of j.journal log t p (Some n)) file) (source_of j.journal log t p
          (supplier j t n f p)) ≡ source_of j.journal log t p (cond b (Some n) (supplier j t n f p))
      pick true = refl
      pick false = refl

-- What the walk finds is the latest write over the place, where the count is that of the write records visited.
pub latest-write : (j : Recorded) (t records f p : ℕ) (found : Option ℕ) (looked : ℕ) → found ≡ supplier j t records f p
    → ((k : ℕ) → found ≡ Some k → looked ≡ records - k) → (found ≡ None → looked ≡ records)
    → LatestWrite j t records f p found looked
latest-write j t records f p found looked e some all = unfold supplier in record {
  covering = λ k s. newest-is (covered_by j t f p) records k (sym e ∙ s);
  most_recent = λ k m s. newest-later (covered_by j t f p) records k m (sym e ∙ s);
  none = λ s. newest-none (covered_by j t f p) records (sym e ∙ s);
  only_none = λ h. e ∙ newest-only (covered_by j t f p) records h;
  that_and_newer = some;
  all = all;
  in_rules = λ log h. latest-is j log t f p records h ∙ sym (ap (source_of j.journal log t p) e);
}

-- ---- a run lies inside the log, or inside the file

pub data-upto : (journal : List ℕ) (t k n : ℕ) → k < n → lengths_before journal t (suc k) ≤ lengths_before journal t n
data-upto journal t k zero h = absurd (omega arith)
data-upto journal t k (suc n) h = ⊎_elim (λ g. omega (arith, data-suc journal t n, data-upto journal t k n g)) same
    (le-or-lt (suc k) n)
  where
    same : n < suc k → lengths_before journal t (suc k) ≤ lengths_before journal t (suc n)
    same g = let e : suc k ≡ suc n = omega arith in rw e (omega arith)

module _ (j : Recorded) (t records : ℕ) (e : Extent) (r : Run) (run : RunOf j t records e r) (k : ℕ)
    (s : supplier j t records e.file e.place ≡ Some k) where
  -- the record that supplies a run covers each of its places
  run-covers : (i : ℕ) → i < r.length → (k < records) × (covers j.filenumbers e.file (e.place + i) (theirs j t k) ≡ true)
  run-covers i l = supplier-is j t e.file records (e.place + i) k (run.same i l ∙ s)

  run_inside : (k < records) × (start_of (theirs j t k) ≤ e.place)
      × (e.place + r.length ≤ start_of (theirs j t k) + (theirs j t k).length)
  run_inside = let first = run-covers 0 run.some in let last = run-covers (r.length - 1) (omega (arith, run.some)) in
      let x = covers-in j.filenumbers e.file (e.place + 0) (theirs j t k) first.1 in
      let y = covers-in j.filenumbers e.file (e.place + (r.length - 1)) (theirs j t k) last.1 in
      (first.0, omega (arith, x.0), omega (arith, y.1, run.some))

  starts : r.at ≡ lengths_before j.journal t k + (e.place - start_of (theirs j t k))
  starts = unfold stands_at in run.start ∙ ap (stands_at j.journal t e.place) s

  pub run-in-log : r.at + r.length ≤ lengths_before j.journal t records
  run-in-log = let g = run_inside in
      omega (arith, starts, g.1, g.2, data-suc j.journal t k, data-upto j.journal t k records g.0)

  -- where its places stand in the log
  pub run_along : (i : ℕ) → stands_at j.journal t (e.place + i) (Some k) ≡ r.at + i
  run_along i = unfold stands_at in let g = run_inside in omega (arith, starts, g.1)

-- ---- what state validity says of a transaction's write records

pub records-counted : (x : Transaction) (journal : List ℕ) (t : ℕ) → t < transaction_count → TransactionInRange x journal t
    → CountedRecords journal t x.used
records-counted x journal t small r = record {
  small = small;
  records = r.records;
  adds = r.total;
  bytes = r.bytes;
  descriptors = λ k h. omega (arith, (record-in x (write_record_at journal t k) (r.writes k h)).descriptor);
}

-- ---- where a file ends for a transaction

module _ (filenumbers : List ℕ) (f : ℕ) (w : WriteRecord) where
  pub end-unplaced : (a : ℕ) → w.place ≡ After a → 0 ≡ record_end filenumbers f w
  unfolding record_end placed_end
  end-unplaced a e = rw e (pick (eqb (get_or filenumbers w.descriptor 0) f))
    where
      pick : (b : Bool) → ◌≡◌ {A = ℕ} 0 (cond b 0 0)
      pick true = refl
      pick false = refl

  pub end-other-file : (get_or filenumbers w.descriptor 0 ≡ f → ⊥) → 0 ≡ record_end filenumbers f w
  end-other-file h = unfold record_end in rw (ne_eqb (get_or filenumbers w.descriptor 0) f h)

  placed-none : (q : Place) → placed_end q 0 ≡ 0
  unfolding placed_end write_end
  placed-none (At p) = refl
  placed-none (After a) = refl

  pub end_empty : w.length ≡ 0 → 0 ≡ record_end filenumbers f w
  unfolding record_end
  end_empty e = rw (e, placed-none w.place) (pick (eqb (get_or filenumbers w.descriptor 0) f))
    where
      pick : (b : Bool) → ◌≡◌ {A = ℕ} 0 (cond b 0 0)
      pick true = refl
      pick false = refl

  write-some : (p n : ℕ) → 0 < n → p + n ≡ write_end p n
  unfolding write_end
  write-some p zero h = absurd (omega arith)
  write-some p (suc n) h = refl

  pub end-placed : (p : ℕ) → w.place ≡ At p → get_or filenumbers w.descriptor 0 ≡ f → 0 < w.length
      → p + w.length ≡ record_end filenumbers f w
  unfolding record_end placed_end
  end-placed p e g h = rw (e, eq-eqb (get_or filenumbers w.descriptor 0) f g) (write-some p w.length h)

module _ (j : Recorded) (t f n : ℕ) where
  pub reach-none : reach j t f n 0 ≡ n
  reach-none = unfold reach in refl

  pub reach-more : (k : ℕ) → reach j t f n (k + 1)
      ≡ max (reach j t f n k) (record_end j.filenumbers f (write_record_at j.journal t k))
  reach-more k = unfold reach in rw add-one

  -- From a number on, or from 0.
  pub reach-from : (c : ℕ) → reach j t f n c ≡ max n (reach j t f 0 c)
  unfolding reach
  reach-from zero = omega arith
  reach-from (suc c) = let e = reach-from c in omega arith

  -- The same of the writes.
  pub run-reach-is : (g : ℕ → Write) (c : ℕ) → ((k : ℕ) → k < c → record_end j.filenumbers f (write_record_at j.journal t
      k) ≡ cond (eqb (get_or j.filenumbers (g k).descriptor 0) f) (placed_end (g k).place (length (g k).bytes)) 0)
      → reach j t f n c ≡ max n (own_end (λ d. get_or j.filenumbers d 0) f (tabulate g c))
  unfolding reach tabulate own_end farthest
  run-reach-is g zero h = omega arith
  run-reach-is g (suc c) h = let e = run-reach-is g c (λ k l. h k (omega arith)) in
      let q = farthest-last (λ d. get_or j.filenumbers d 0) f (λ w. placed_end w.place (length w.bytes))
      (tabulate g c) (g c) in let r = h c (omega arith) in omega arith

-- ---- where no own write of at least one byte lies in the file

-- A write that ends at 0 has no byte, and covers nothing.
over_none : (q : Place) (n p : ℕ) → placed_end q n ≡ 0 → lies_over q n p ≡ false
unfolding lies_over placed_end write_end
over_none (At a) zero p e = untrue (leb a p && ltb p (a + 0)) (λ h. let g = over-in (At a) 0 p h in omega arith)
over_none (At a) (suc n) p e = absurd (omega arith)
over_none (After a) n p e = refl

covers-none : (filenumbers : List ℕ) (f p : ℕ) (w : WriteRecord) → record_end filenumbers f w ≡ 0 → covers filenumbers f p w
    ≡ false
unfolding record_end covers
covers-none filenumbers f p w = pick (eqb (get_or filenumbers w.descriptor 0) f)
  where
    pick : (b : Bool) → cond b (placed_end w.place w.length) 0 ≡ 0 → b && lies_over w.place w.length p ≡ false
    pick true e = over_none w.place w.length p e
    pick false e = refl

module _ (j : Recorded) (t f : ℕ) where
  ends-none : (n : ℕ) → reach j t f 0 n ≡ 0 → (k : ℕ) → k < n → record_end j.filenumbers f (theirs j t k) ≡ 0
  unfolding reach
  ends-none zero e k l = absurd (omega arith)
  ends-none (suc n) e k l = ⊎_elim (λ h. ends-none n (omega arith) k h) (λ h. let s : k ≡ n =
      omega arith in ap (λ (i : ℕ). record_end j.filenumbers f (theirs j t i)) s ∙ (omega arith)) (le-or-lt (suc k) n)

  -- The file supplies every place.
  pub supplier-none : (n : ℕ) → reach j t f 0 n ≡ 0 → (p : ℕ) → supplier j t n f p ≡ None
  unfolding supplier
  supplier-none n e p = newest-only (λ k. covers j.filenumbers f p (theirs j t k)) n
      (λ k l. covers-none j.filenumbers f p (theirs j t k) (ends-none n e k l))
