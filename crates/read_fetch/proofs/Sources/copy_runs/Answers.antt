-- `read_fetch::Sources::copy_runs` meets its contract. The loop's invariant: the contract's definitions at the i bytes copied. Assumes
-- nothing.
use mathlib.Core.Path.{◌≡◌, refl, sym, ap, ◌∙◌}
use Prim.Native.Nat.{ℕ}
use native.Mathlib.Omega.{arith}
use Rattle.buffers.specs.Parts.{pasted}
use Rattle.read_lookup.specs.Lookup.{Recorded, recorded_in, extent}
use Rattle.read_fetch.specs.Fetch.{bytes_read, marks_after}
use Rattle.read_fetch.proofs.FetchLaws.{bytes-none, bytes-more, bytes-all, marks-none, marks-more}
use Rattle.read_fetch.proofs.Sources.copy_runs.Goals as goal

pub loop-i-init : goal.loop-i-init
loop-i-init c =
    let a = c.args in let lent : Recorded = recorded_in a.self.now.records.state.now in (
      omega arith,
      refl,
      refl,
      sym (bytes-none lent a.self.now.records.t a.self.now.records.used.records a.self.now.log.now a.self.now.file.now a.e.file a.e.place
          a.reader.now),
      sym (marks-none lent a.self.now.records.t a.self.now.records.used.records a.self.now.log.now a.self.now.file.now a.e.file a.e.place
          a.marks.now),
    )

pub loop-i-preserved : goal.loop-i-preserved
loop-i-preserved c =
    let a = c.args in let lent : Recorded = recorded_in a.self.now.records.state.now in let l = c.loop-i in let r = c.copy_run-r in (
      omega (arith, r.ensures.run.within),
      r.auto.marks ∙ l.invariant.1,
      r.auto.reader ∙ l.invariant.2,
      r.ensures.reader ∙ bytes-more lent a.self.now.records.t a.self.now.records.used.records a.self.now.log.now a.self.now.file.now a.e.file
          a.e.place a.reader.now l.i r.result.length _ _ l.invariant.3 (omega arith)
          (omega (arith, r.ensures.run.within, c.requires.room)),
      r.ensures.marks ∙ marks-more lent a.self.now.records.t a.self.now.records.used.records a.self.now.log.now a.self.now.file.now a.e.file
          a.e.place a.marks.now l.i r.result.length _ _ l.invariant.4 (omega arith),
    )

pub returns : goal.returns
returns c =
    let a = c.args in let lent : Recorded = recorded_in a.self.now.records.state.now in let l = c.loop-i in
    let q : l.i ≡ a.e.length = omega arith in record {
      reader = l.invariant.3 ∙ ap (λ (n : ℕ). pasted a.reader.now 0 (bytes_read lent a.self.now.records.t a.self.now.records.used.records a.self.now.log.now
          a.self.now.file.now (extent a.e.file a.e.place n))) q ∙ bytes-all lent a.self.now.records.t a.self.now.records.used.records
          a.self.now.log.now a.self.now.file.now a.e.file a.e.place a.reader.now a.e.length;
      marks = l.invariant.4 ∙ ap (λ (n : ℕ). marks_after lent a.self.now.records.t a.self.now.records.used.records a.self.now.log.now a.self.now.file.now
          (extent a.e.file a.e.place n) a.marks.now) q;
    }
