-- `call_places::ascending::Pass::write_ascending` meets its contract. The loop's invariant: s is what a pass over the first k records
-- meets, and the pairs of their list are written. Assumes nothing.
use mathlib.Core.{List.List, Path.{◌≡◌, refl, sym, ap, ap₂, ◌∙◌}}
use Prim.Native.Nat.{ℕ, ◌+◌}
use native.Mathlib.Omega.{arith}
use Rattle.state.specs.{declared.journal.WriteRecord.WriteRecord, Layout.store_of}
use Rattle.spec.specs.Places.{intervals_of}
use Rattle.read_lookup.specs.Lookup.{recorded_in}
use Rattle.call_places.specs.{declared.ascending.Sweep.Sweep, PlacesCall.covered_at}
use Rattle.call_places.specs.Ascending.{swept_record, swept_in, with_last}
use Rattle.call_places.proofs.ListLaws.{pairs-all}
use Rattle.call_places.proofs.AscendingLaws.{swept-few, swept_none, swept-more, put-none-last, put-ready, put-more}
use Rattle.call_places.proofs.ascending.Pass.write_ascending.Invariants.{written}
use Rattle.call_places.proofs.ascending.Pass.write_ascending.Goals.{After-sweep_record-s}
use Rattle.call_places.proofs.ascending.Pass.write_ascending.Goals as goal

pub loop-k-init : goal.loop-k-init
loop-k-init c = let a = c.args in let j = recorded_in a.self.now.records.state.now in
    (refl, c.unswept-s.ensures ∙ swept_none j a.self.now.records.t a.self.now.file, put-none-last j a.self.now.records.t a.self.now.file a.out.now)

pub sweep_record-s-requires : goal.sweep_record-s-requires
sweep_record-s-requires c = let l = c.loop-k in
    let few = swept-few (recorded_in c.args.self.now.records.state.now) c.args.self.now.records.t c.args.self.now.file l.k in (
      rw c.get-w.ensures (c.args.self.now.records.counted.descriptors l.k (omega arith)),
      omega (arith, ap (λ (r : Sweep). r.intervals) l.invariant.1, few, c.args.self.now.records.counted.records),
    )

-- The pass has met one record more.
swept-on : (c : After-sweep_record-s) → c.sweep_record-s.result
    ≡ swept_in (recorded_in c.args.self.now.records.state.now) c.args.self.now.records.t c.args.self.now.file (c.loop-k.k + 1)
swept-on c = let a = c.args in let l = c.loop-k in
    c.sweep_record-s.ensures ∙ ap₂ (λ (r : Sweep) (w : WriteRecord). swept_record (store_of a.self.now.records.state.now).filenumbers
    a.self.now.file r w) l.invariant.1 c.get-w.ensures ∙ swept-more (recorded_in a.self.now.records.state.now) a.self.now.records.t a.self.now.file l.k

pub put_last-requires : goal.put_last-requires
put_last-requires c =
    let a = c.args in let l = c.loop-k in
    let swept = swept-on (goal.at.put_last-requires c).After-sweep_record-s in
    let ready = put-ready (recorded_in a.self.now.records.state.now) a.self.now.records.t a.self.now.file a.self.now.records.used.records c.args.self.now.within (sym (ap (λ (r : Sweep). r.ascending) c.args.self.now.swept) ∙ c.requires.ascend) l.out
    (omega (arith, c.requires.room, l.invariant.0)) (l.k + 1) (omega arith) c.sweep_record-s.result swept in record {
      intervals_in_bounds = ready.0;
      last = ready.1;
    }

pub loop-k-preserved : goal.loop-k-preserved
loop-k-preserved c =
    let a = c.args in let l = c.loop-k in
    let swept = swept-on (goal.at.loop-k-preserved c).After-sweep_record-s in (
      c.put_last.auto.out ∙ l.invariant.0,
      swept,
      c.put_last.ensures ∙ ap₂ (λ (r : Sweep) (o : List ℕ). with_last r o) swept l.invariant.2
          ∙ put-more (recorded_in a.self.now.records.state.now) a.self.now.records.t a.self.now.file a.self.now.records.used.records c.args.self.now.within (sym (ap (λ (r : Sweep). r.ascending) c.args.self.now.swept) ∙ c.requires.ascend)
          a.out.now c.requires.room l.k (omega arith),
    )

pub returns : goal.returns
returns c = let a = c.args in let l = c.loop-k in
    let all : l.k ≡ a.self.now.records.used.records = omega arith in
    l.invariant.2 ∙ ap (written a.self.now.records.state.now a.self.now.records.t a.self.now.file a.out.now) all
    ∙ pairs-all a.out.now (intervals_of (covered_at (recorded_in a.self.now.records.state.now) a.self.now.records.t a.self.now.records.used.records a.self.now.file))
