-- What the walks over write records tell: which records have no place yet, and which places of a run are covered. Assumes
-- nothing.
use mathlib.Core.{Bool.{Bool, true, false, cond, ◌||◌, or-false, or-true}, List.List, Logic.⊎_elim}
use mathlib.Core.Path.{◌≡◌, refl, sym, ap, subst, ◌∙◌}
use lib.ListN.{get_or}
use Prim.Native.Nat.{ℕ, suc, ◌+◌, ◌-◌, ◌≤◌, ◌<◌}
use native.Mathlib.Omega.{arith}
use borrow.Author.Tests.{eq-eqb, ne_eqb}
use Rattle.limits.specs.Limits.{file_bytes}
use Rattle.buffers.proofs.PartLaws.{le-or-lt}
use Rattle.standings.specs.declared.{Place.{Place, TheVariants.{At, After}}}
use Rattle.state.specs.{declared.journal.WriteRecord.WriteRecord, Journal.write_record_at}
use Rattle.spec.specs.Places.{no_place}
use Rattle.std.specs.Prelude.{Option, Some, None, is_some}
use Rattle.read_lookup.specs.declared.{Extent.Extent, Run.Run}
use Rattle.admission.proofs.Laws.{some-none, some_more}
use Rattle.read_lookup.specs.Lookup.{Recorded, covers, newest, supplier, RunOf}
use Rattle.call_places.specs.PlacesCall.{covered_at, waits_on, Upto, NextOf}

-- ---- a write record that has no place yet

module _ (filenumbers : List ℕ) (f : ℕ) (w : WriteRecord) where
  pub waits-elsewhere : (get_or filenumbers w.descriptor 0 ≡ f → ⊥) → waits_on filenumbers f w ≡ false
  waits-elsewhere h = unfold waits_on in rw (ne_eqb (get_or filenumbers w.descriptor 0) f h)

  pub waits-here : get_or filenumbers w.descriptor 0 ≡ f → (q : Place) → w.place ≡ q → waits_on filenumbers f w ≡ no_place q
  waits-here h q e = unfold waits_on in rw (eq-eqb (get_or filenumbers w.descriptor 0) f h) (ap no_place e)

pub placed-has : (p : ℕ) → no_place (At p) ≡ false
placed-has p = unfold no_place in refl

pub unplaced-has-none : (a : ℕ) → no_place (After a) ≡ true
unplaced-has-none a = unfold no_place in refl

-- ---- one record more

pub covered_more : (j : Recorded) (t k f q : ℕ)
    → covered_at j t (suc k) f q ≡ (covered_at j t k f q || covers j.filenumbers f q (write_record_at j.journal t k))
unfolding covered_at supplier newest
covered_more j t k f q = pick (covers j.filenumbers f q (write_record_at j.journal t k))
  where
    pick : (b : Bool) → is_some (cond b (Some k) (supplier j t k f q)) ≡ (covered_at j t k f q || b)
    pick true = sym (or-true (covered_at j t k f q))
    pick false = sym (or-false (covered_at j t k f q))

-- ---- a run

supplier-file : (x : Option ℕ) → is_some x ≡ false → x ≡ None
supplier-file None e = refl
supplier-file (Some k) e = absurd (let z : ◌≡◌ {A = Bool} true false = e in let n : ◌≡◌ {A = ℕ} 0 1 = cc in omega arith)

not-file : (x : Option ℕ) → (x ≡ None → ⊥) → is_some x ≡ true
not-file None h = absurd (h refl)
not-file (Some k) h = refl

module _ (j : Recorded) (t records : ℕ) (e : Extent) (r : Run) (run : RunOf j t records e r) where
  abbrev covered : ℕ → Bool
  covered = covered_at j t records e.file

  abbrev logged : Bool
  logged = is_some r.supplier

  run_along : (q : ℕ) → e.place ≤ q → q < e.place + r.length → covered q ≡ logged
  run_along q g l = unfold covered_at in let i : e.place + (q - e.place) ≡ q = omega arith in
      ap (λ (x : ℕ). is_some (supplier j t records e.file x)) (sym i)
      ∙ ap is_some (run.same (q - e.place) (omega arith)) ∙ sym (ap is_some run.supplied)

  run-first : covered e.place ≡ logged
  run-first = run_along e.place (omega arith) (omega (arith, run.some))

  -- after a run of the file comes a covered place
  run-then : logged ≡ false → r.length < e.length → covered (e.place + r.length) ≡ true
  unfolding covered_at
  run-then b l = not-file (supplier j t records e.file (e.place + r.length)) (λ q. run.longest l (q
      ∙ sym (supplier-file (supplier j t records e.file e.place) (sym (ap is_some run.supplied) ∙ b))))

  module _ (whole : e.length ≡ file_bytes - e.place) (inside : e.place < file_bytes) where
    -- the first place is covered
    pub first-covered-here : logged ≡ true → Upto covered false e.place e.place
    first-covered-here b =
        record { start = omega arith; within = omega arith; same = λ q g l. absurd (omega arith); turned = λ l. run-first ∙ b }

    -- the first covered place comes after the run
    pub first-covered-after : logged ≡ false → Upto covered false e.place (e.place + r.length)
    first-covered-after b = record {
      start = omega arith;
      within = omega (arith, run.within);
      same = λ q g l. run_along q g l ∙ b;
      turned = λ l. run-then b (omega arith);
    }

  -- the walk over runs has come to this one, which is the file's
  pub first-clear-here : (p : ℕ) → p ≤ e.place → e.place ≤ file_bytes
      → ((q : ℕ) → p ≤ q → q < e.place → covered q ≡ true) → logged ≡ false → Upto covered true p e.place
  first-clear-here p g l before b = record { start = g; within = l; same = before; turned = λ h. run-first ∙ b }

  -- or a record's, and goes on
  pub first-clear-after : (p : ℕ) → ((q : ℕ) → p ≤ q → q < e.place → covered q ≡ true) → logged ≡ true → (q : ℕ) → p ≤ q
      → q < e.place + r.length → covered q ≡ true
  first-clear-after p before b q g l = ⊎_elim (λ h. run_along q h l ∙ b) (λ h. before q g h) (le-or-lt e.place q)

-- no place is left
pub upto-end : (S : ℕ → Bool) (b : Bool) (p : ℕ) → p ≡ file_bytes → Upto S b p p
upto-end S b p e = record {
  start = omega arith;
  within = omega arith;
  same = λ q g l. absurd (omega arith);
  turned = λ l. absurd (omega arith);
}

pub next_of : (S : ℕ → Bool) (p offset end n : ℕ) → Upto S false p offset → Upto S true offset end → n ≡ end - offset
    → NextOf S p (record { offset = offset; length = n })
next_of S p offset end n a b e = let q : end ≡ offset + n = omega (arith, b.start) in
    record { before = a; whole = subst (λ (x : ℕ). Upto S true offset x) q b }

-- None of the records so far passes a test.
pub ruleset so_far = (some-none, some_more)
