-- `read_lookup::Records::latest_write` meets its contract. The loop's invariant: so many write records are left to visit, and their data
-- end where those of the visited ones start. Assumes nothing.
use mathlib.Core.{Bool.true, List.List, Path.{◌≡◌, refl, sym, ap, ◌∙◌, subst}}
use Prim.Native.Nat.{ℕ, suc, ◌+◌, ◌-◌, ◌≤◌, ◌<◌}
use native.Mathlib.Omega.{arith}
use Rattle.standings.specs.Table.{place_number}
use Rattle.state.specs.{declared.journal.WriteRecord.WriteRecord, Journal.write_record_at, Layout.{journal_of}}
use Rattle.admission.specs.Admission.{lengths_before}
use Rattle.std.specs.Prelude.{Some, None}
use Rattle.read_lookup.specs.declared.{Run.Run}
use Rattle.read_lookup.specs.Lookup.{Recorded, recorded_in, extent, covers, GapOf, RunOf}
use Rattle.read_lookup.proofs.RunLaws.{Walked, walked_more, walked-found, walked_all, covers-in, data-back}
use Rattle.read_lookup.proofs.RunLaws.{gap-covers, latest-write}
use Rattle.read_lookup.proofs.Records.latest_write.Goals.{After-from-size, After-gap-g}
use Rattle.read_lookup.proofs.Records.latest_write.Goals as goal

-- The record of a turn, as it was read.
module _ (c : After-from-size) where
  abbrev this : WriteRecord
  this = write_record_at (journal_of c.args.self.now.state.now) c.args.self.now.t (c.loop-k.k - 1)

  size-is : c.from-size.result ≡ this.length
  size-is = c.from-size.ensures ∙ ap (λ (w : WriteRecord). w.length) c.get-w.ensures

  -- Its data end where those of the visited ones start.
  data-step : lengths_before (journal_of c.args.self.now.state.now) c.args.self.now.t (c.loop-k.k - 1) + c.from-size.result ≡ c.loop-k.start
  data-step = ap (λ (n : ℕ). lengths_before (journal_of c.args.self.now.state.now) c.args.self.now.t (c.loop-k.k - 1) + n) size-is
      ∙ sym (data-back (journal_of c.args.self.now.state.now) c.args.self.now.t c.loop-k.k c.loop-k-test.true) ∙ c.loop-k.invariant.1

-- What the walk and the gap tell of it.
module _ (c : After-gap-g) where
  abbrev lent : Recorded
  lent = recorded_in c.args.self.now.state.now

  abbrev newest : WriteRecord
  newest = write_record_at lent.journal c.args.self.now.t (c.loop-k.k - 1)

  walked : Walked lent c.args.self.now.t c.args.self.now.used.records c.args.e (suc (c.loop-k.k - 1)) c.loop-k.length
  walked = let e : c.loop-k.k ≡ suc (c.loop-k.k - 1) = omega (arith, c.loop-k-test.true) in
      subst (λ (k : ℕ). Walked lent c.args.self.now.t c.args.self.now.used.records c.args.e k c.loop-k.length) e c.loop-k.invariant.2

  gap-is : GapOf lent.filenumbers newest (extent c.args.e.file c.args.e.place c.loop-k.length) c.gap-g.result
  gap-is = subst (λ (w : WriteRecord). GapOf lent.filenumbers w (extent c.args.e.file c.args.e.place c.loop-k.length)
      c.gap-g.result) c.get-w.ensures c.gap-g.ensures

  -- Where no place comes before it, it covers the first.
  first : c.gap-g.result ≡ 0 → covers lent.filenumbers c.args.e.file c.args.e.place newest ≡ true
  first z = gap-covers lent c.args.self.now.t c.args.self.now.used.records c.args.e (c.loop-k.k - 1) c.loop-k.length walked c.gap-g.result z gap-is

-- A record that covers a place starts there or before, and ends past it.
in-record : (numbers : List ℕ) (f p start size : ℕ) (w : WriteRecord) → covers numbers f p w ≡ true → start ≡ place_number w.place
    → size ≡ w.length → (start ≤ p) × (p < start + size)
in-record numbers f p start size w e a b = let g = covers-in numbers f p w e in (omega (arith, g.0, a), omega (arith, g.1, a, b))

pub overflow_sub-start : goal.overflow_sub-start
overflow_sub-start c = omega (arith, data-step c)

pub overflow_sub-result : goal.overflow_sub-result
overflow_sub-result c = let at = goal.at.overflow_sub-result c in
    (in-record _ _ _ _ _ _ (first at.After-gap-g c.if-g-eq0.true) (c.from-p.ensures ∙ c.place_number.ensures
    ∙ ap (λ (w : WriteRecord). place_number w.place) c.get-w.ensures) (size-is at.After-from-size)).0

pub overflow_add-result : goal.overflow_add-result
overflow_add-result c = let at = goal.at.overflow_add-result c in
    let g = in-record _ _ _ _ _ _ (first at.After-gap-g c.if-g-eq0.true) (c.from-p.ensures ∙ c.place_number.ensures
    ∙ ap (λ (w : WriteRecord). place_number w.place) c.get-w.ensures) (size-is at.After-from-size) in
    record { fits = omega (arith, g.0, g.1, data-step at.After-from-size) }

pub overflow_sub-p : goal.overflow_sub-p
overflow_sub-p c = let at = goal.at.overflow_sub-p c in
    let g = in-record _ _ _ _ _ _ (first at.After-gap-g c.if-g-eq0.true) (c.from-p.ensures ∙ c.place_number.ensures
    ∙ ap (λ (w : WriteRecord). place_number w.place) c.get-w.ensures) (size-is at.After-from-size) in
    omega (arith, g.1)

pub returns-then-g-eq0 : goal.returns-then-g-eq0
returns-then-g-eq0 c = let at = goal.at.returns-then-g-eq0 c in let a = c.args in let l = c.loop-k in
    let records = a.self.now.used.records in let j : Recorded = recorded_in a.self.now.state.now in
    let start-is : c.from-p.result ≡ place_number (write_record_at (journal_of a.self.now.state.now) a.self.now.t (l.k - 1)).place =
    c.from-p.ensures ∙ c.place_number.ensures ∙ ap (λ (w : WriteRecord). place_number w.place) c.get-w.ensures in
    let r : Run = record {
      supplier = Some (l.k - 1);
      looked = records - (l.k - 1);
      at = l.start - c.from-size.result + (a.e.place - c.from-p.result);
      length = c.min.result;
    } in
    let run : RunOf j a.self.now.t records a.e r = walked-found j a.self.now.t records a.e (l.k - 1) l.length (walked at.After-gap-g)
    (first at.After-gap-g c.if-g-eq0.true) r refl (omega (arith, data-step at.After-from-size, start-is))
    (omega (arith, c.min.ensures, start-is, size-is at.After-from-size)) in record {
      latest = latest-write j a.self.now.t records a.e.file a.e.place _ _ run.supplied
          (λ k q. let e : l.k - 1 ≡ k = cc in omega arith) (λ q. let z : ◌≡◌ {A = ℕ} 0 1 = cc in absurd (omega arith));
      run = run;
    }

pub loop-k-preserved : goal.loop-k-preserved
loop-k-preserved c = let at = goal.at.loop-k-preserved c in let a = c.args in let l = c.loop-k in (
  omega arith,
  omega (arith, data-step at.After-from-size),
  walked_more (recorded_in a.self.now.state.now) a.self.now.t a.self.now.used.records a.e (l.k - 1) l.length (walked at.After-gap-g) _
      c.gap-g.result (omega arith) (omega arith) (gap-is at.After-gap-g),
)

pub returns : goal.returns
returns c =
    let lent : Recorded = recorded_in c.args.self.now.state.now in
    let s = c in let l = c.loop-k in let records = s.args.self.now.used.records in
    let r : Run = record { supplier = None; looked = records; at = s.args.e.place; length = l.length } in
    let e : l.k ≡ 0 = omega (arith, c.loop-k-test.false) in
    let run : RunOf lent s.args.self.now.t records s.args.e r = walked_all lent s.args.self.now.t records s.args.e
    l.length (subst (λ (k : ℕ). Walked lent s.args.self.now.t records s.args.e k l.length) e l.invariant.2) in record {
      latest = latest-write lent s.args.self.now.t records s.args.e.file s.args.e.place None records run.supplied
          (λ k q. let z : ◌≡◌ {A = ℕ} 0 1 = cc in absurd (omega arith)) (λ q. refl);
      run = run;
    }
