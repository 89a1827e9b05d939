-- Write records that come in ascending order: the pass over them meets the intervals of the list, in its order. Assumes nothing.
use mathlib.Core.{Bool.{Bool, true, false, cond, ◌&&◌, and-false, false≢true}, List.{List, []}, Logic.⊎_elim}
use mathlib.Core.Path.{◌≡◌, refl, sym, ap, subst, ◌∙◌}
use lib.{Dec.{leb, ltb, eqb}, ListN.{get_or, length}}
use Prim.Native.Nat.{ℕ, zero, suc, ◌+◌, ◌-◌, ◌*◌, ◌≤◌, ◌<◌}
use native.Mathlib.{Numerals.add-one, Omega.arith}
use borrow.Author.Tests.{eq-eqb, ne_eqb, le-leb, lt-leb}
use Rattle.limits.specs.Limits.{file_bytes}
use Rattle.buffers.{specs.Parts.pasted, proofs.PartLaws.le-or-lt}
use Rattle.standings.specs.declared.{Place.{Place, TheVariants.{At, After}}}
use Rattle.state.specs.{declared.journal.WriteRecord.WriteRecord, Journal.write_record_at}
use Rattle.admission.{specs.FirstRefusal.some_below, proofs.Laws.{and_left, some-none, some_more}}
use Rattle.spec.specs.Places.{Interval, interval, listed, no_place, intervals_of, encoded}
use Rattle.spec.proofs.Places.PlacesLaws.{lists-its-places, is-proper, the-one-list}
use Rattle.call_places.specs.declared.ascending.Sweep.{Sweep}
use Rattle.call_places.specs.Ascending.{unswept, swept_place, swept_write, swept_record, swept_in, WithinFile, with_last}
use Rattle.call_places.specs.PlacesCall.{covered_at, waits_on, waits_on_file}
use Rattle.read_lookup.specs.Lookup.{Recorded, covers, newest, supplier}
use Rattle.call_places.proofs.{ListLaws.{length-snoc, list-pairs-none}, CoverLaws.covered_more}
use Rattle.call_places.proofs.SweepLaws.{Last, Swept, Step, sweep-placed, step-record, step-put}

-- ---- the code's cases

module _ (s : Sweep) (p n : ℕ) where
  pub place-begun : s.next ≤ p → sweep-placed s p n true ≡ swept_place s p n
  place-begun h = unfold swept_place in rw (le-leb s.next p h)

  pub place-joined : p < s.next → sweep-placed s p n false ≡ swept_place s p n
  place-joined h = unfold swept_place in rw (lt-leb s.next p h)

  pub write-none : n ≡ 0 → swept_write s (At p) n ≡ s
  write-none z = unfold swept_write in rw (eq-eqb n 0 z)

  pub write-some : (n ≡ 0 → ⊥) → swept_write s (At p) n ≡ swept_place s p n
  write-some h = unfold swept_write in rw (ne_eqb n 0 h)

  pub write-unplaced : swept_write s (After p) n
      ≡ record { ascending = false; intervals = s.intervals; offset = s.offset; next = s.next }
  write-unplaced = unfold swept_write in refl

module _ (filenumbers : List ℕ) (f : ℕ) (s : Sweep) (w : WriteRecord) where
  pub record-elsewhere : (get_or filenumbers w.descriptor 0 ≡ f → ⊥) → swept_record filenumbers f s w ≡ s
  record-elsewhere h = unfold swept_record in rw (ne_eqb (get_or filenumbers w.descriptor 0) f h)

  pub record-here : get_or filenumbers w.descriptor 0 ≡ f → (z : Place) → w.place ≡ z
      → swept_record filenumbers f s w ≡ swept_write s z w.length
  unfolding swept_record
  record-here h z e = rw (eq-eqb (get_or filenumbers w.descriptor 0) f h) (ap (λ (z : Place). swept_write s z w.length) e)

-- ---- the records of a transaction

-- what one record keeps
module _ (s : Sweep) where
  place-keeps : (p n : ℕ) (b : Bool) → ((sweep-placed s p n b).ascending ≡ true → s.ascending ≡ true)
      × (s.intervals ≤ (sweep-placed s p n b).intervals) × ((sweep-placed s p n b).intervals ≤ s.intervals + 1)
  place-keeps p n true = (λ a. a, omega arith, omega arith)
  place-keeps p n false = (λ a. and_left s.ascending (eqb s.next (p + 1)) a, omega arith, omega arith)

  abbrev Keeps : Sweep → Type 0
  Keeps r = (r.ascending ≡ true → s.ascending ≡ true) × (s.intervals ≤ r.intervals) × (r.intervals ≤ s.intervals + 1)

  write_keeps : (z : Place) (n : ℕ) → Keeps (swept_write s z n)
  unfolding swept_write swept_place
  write_keeps (After p) n = (λ a. absurd (false≢true a), omega arith, omega arith)
  write_keeps (At p) n = pick (eqb n 0)
    where
      pick : (b : Bool) → Keeps (cond b s (sweep-placed s p n (leb s.next p)))
      pick true = (λ a. a, omega arith, omega arith)
      pick false = place-keeps p n (leb s.next p)

  record-keeps : (b : Bool) (z : Place) (n : ℕ) → Keeps (cond b (swept_write s z n) s)
  record-keeps true z n = write_keeps z n
  record-keeps false z n = (λ a. a, omega arith, omega arith)

  record-waits : (b : Bool) (z : Place) (n : ℕ) → (cond b (swept_write s z n) s).ascending ≡ true → (b && no_place z) ≡ false
  unfolding swept_write no_place
  record-waits true (At p) n a = refl
  record-waits true (After p) n a = absurd (false≢true a)
  record-waits false z n a = refl

one-waits : (j : Recorded) (t f n : ℕ) → (swept_in j t f (suc n)).ascending ≡ true
    → waits_on j.filenumbers f (write_record_at j.journal t n) ≡ false
one-waits j t f n a = unfold swept_in swept_record waits_on in let w = write_record_at j.journal t n in
    record-waits (swept_in j t f n) (eqb (get_or j.filenumbers w.descriptor 0) f) w.place w.length a

module _ (j : Recorded) (t f : ℕ) where
  abbrev at : ℕ → WriteRecord
  at k = write_record_at j.journal t k

  abbrev here : ℕ → Bool
  here k = eqb (get_or j.filenumbers (at k).descriptor 0) f

  pub swept_none : unswept ≡ swept_in j t f 0
  swept_none = unfold swept_in in refl

  pub swept-more : (k : ℕ) → swept_record j.filenumbers f (swept_in j t f k) (at k) ≡ swept_in j t f (k + 1)
  swept-more k = unfold swept_in in rw add-one

  swept_keeps : (k : ℕ) → Keeps (swept_in j t f k) (swept_in j t f (suc k))
  swept_keeps k = unfold swept_in swept_record in record-keeps (swept_in j t f k) (here k) (at k).place (at k).length

  pub swept-few : (k : ℕ) → (swept_in j t f k).intervals ≤ k
  swept-few zero = unfold swept_in in omega arith
  swept-few (suc k) = omega (arith, swept-few k, (swept_keeps k).2)

  -- after k of n records that ascend: the order holds, and intervals are no more
  abbrev OnTheWay : ℕ → ℕ → Type 0
  OnTheWay n k = ((swept_in j t f k).ascending ≡ true) × ((swept_in j t f k).intervals ≤ (swept_in j t f n).intervals)

  pub swept-way : (n k : ℕ) → k ≤ n → (swept_in j t f n).ascending ≡ true → OnTheWay n k
  swept-way zero k h a = let e : zero ≡ k = omega arith in subst (λ (i : ℕ). OnTheWay zero i) e (a, omega arith)
  swept-way (suc n) k h a =
      ⊎_elim (λ g. let w = swept-way n k g ((swept_keeps n).0 a) in (w.0, omega (arith, w.1, (swept_keeps n).1)))
      (λ g. let e : suc n ≡ k = omega arith in subst (λ (i : ℕ). OnTheWay (suc n) i) e (a, omega arith)) (le-or-lt k n)

  -- no record waits
  pub swept-placed : (n : ℕ) → (swept_in j t f n).ascending ≡ true → waits_on_file j t n f ≡ false
  unfolding waits_on_file
  swept-placed zero a = some-none (λ k. waits_on j.filenumbers f (at k))
  swept-placed (suc n) a = let e : n + 1 ≡ suc n = omega arith in
      ap (some_below (λ k. waits_on j.filenumbers f (at k))) (sym e)
      ∙ some_more (λ k. waits_on j.filenumbers f (at k)) n (swept-placed n ((swept_keeps n).0 a)) (one-waits j t f n a)

  none-listed : intervals_of (covered_at j t 0 f) ≡ []
  unfolding covered_at supplier newest
  none-listed = the-one-list _ [] (is-proper (covered_at j t 0 f)) tt
      (λ q. lists-its-places (covered_at j t 0 f) q ∙ and-false (ltb q file_bytes) ∙ (unfold listed in refl))

  -- before the first record, the buffer has no pair
  pub put-none-last : (out : List ℕ) → out ≡ pasted out 0 (encoded (intervals_of (covered_at j t 0 f)))
  put-none-last out = list-pairs-none out ∙ ap (λ (l : List Interval). pasted out 0 (encoded l)) (sym none-listed)

  none-covered : Swept (covered_at j t 0 f) unswept
  none-covered = unfold covered_at supplier newest in record {
    below = λ q i. absurd (false≢true i);
    within = omega arith;
    count = ap length none-listed;
    last = λ h. absurd (omega arith);
  }

  module _ (records : ℕ) (within : WithinFile j t records) where
    swept_step : (k : ℕ) → k < records → ((swept_in j t f k).ascending ≡ true → Swept (covered_at j t k f) (swept_in j t f k))
        → (swept_in j t f (suc k)).ascending ≡ true → Step (covered_at j t k f) (covered_at j t (suc k) f) (swept_in j t f (suc k))
    unfolding swept_in swept_record covers
    swept_step k l so a = step-record (covered_at j t k f) (covered_at j t (suc k) f) (swept_in j t f k) (here k) (at k).place
        (at k).length (λ p e. within k p l e) (λ q. covered_more j t k f q) so a

    pub swept-is : (k : ℕ) → k ≤ records → (swept_in j t f k).ascending ≡ true → Swept (covered_at j t k f) (swept_in j t f k)
    swept-is zero l a = unfold swept_in in none-covered
    swept-is (suc k) l a = (swept_step k (omega arith) (swept-is k (omega arith)) a).swept

    -- the whole order holds, and the list of all of them fits the buffer
    module _ (ascends : (swept_in j t f records).ascending ≡ true) (out : List ℕ)
        (room : 4 * length (intervals_of (covered_at j t records f)) ≤ length out) where
      few : (k : ℕ) → k ≤ records → 4 * (swept_in j t f k).intervals ≤ length out
      few k l = omega (arith, room, (swept-way records k l ascends).1, (swept-is records (omega arith) ascends).count)

      -- what `put_last` requires
      abbrev pub ReadyToSweep : Sweep → Type 0
      ReadyToSweep r =
          ((4 * r.intervals ≤ length out) × (r.next ≤ 4097)) × (1 ≤ r.next → (1 ≤ r.intervals) × (suc r.offset ≤ r.next))

      pub put-ready : (k : ℕ) → k ≤ records → (r : Sweep) → r ≡ swept_in j t f k → ReadyToSweep r
      put-ready k l r e = subst ReadyToSweep (sym e) ((few k l, so.within), λ h. met (so.last h))
        where
          v : Sweep
          v = swept_in j t f k

          so : Swept (covered_at j t k f) v
          so = swept-is k l (swept-way records k l ascends).0

          met : Last (covered_at j t k f) v → (1 ≤ v.intervals) × (suc v.offset ≤ v.next)
          met w = let n = length-snoc w.earlier (interval v.offset (v.next - 1 - v.offset)) in
              (omega (arith, so.count, ap length w.joins, n), omega (arith, w.some))

      -- the buffer with the pairs of the list of the first k records
      abbrev with-list : ℕ → List ℕ
      with-list k = pasted out 0 (encoded (intervals_of (covered_at j t k f)))

      pub put-more : (k : ℕ) → k < records → with_last (swept_in j t f (k + 1)) (with-list k) ≡ with-list (k + 1)
      put-more k l = let e : suc k ≡ k + 1 = omega arith in
          let step = swept_step k l (swept-is k (omega arith)) (swept-way records (suc k) (omega arith) ascends).0 in
          let fits : 4 * length (intervals_of (covered_at j t (suc k) f)) ≤ length out =
          omega (arith, few (suc k) (omega arith), step.swept.count) in
          subst (λ (i : ℕ). with_last (swept_in j t f i) (with-list k) ≡ with-list i) e
          (step-put (covered_at j t k f) (covered_at j t (suc k) f) (swept_in j t f (suc k)) step out fits)
