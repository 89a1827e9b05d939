-- `read_fetch::Sources::copy_run` meets its contract. Assumes nothing.
use mathlib.Core.{Bool.Bool, List.List, Path.{◌≡◌, sym, ap, ◌∙◌}}
use Prim.Native.Nat.{ℕ, ◌+◌, ◌≤◌}
use native.Mathlib.Omega.{arith}
use lib.ListN.{length}
use Rattle.limits.specs.Limits.{file_bytes}
use Rattle.buffers.specs.Parts.{pasted, cut, chosen}
use Rattle.state.specs.Layout.{journal_of}
use Rattle.admission.specs.Admission.{lengths_before}
use Rattle.read_lookup.specs.declared.{Extent.{Extent}, Run.{Run}}
use Rattle.std.specs.Prelude.{is_some}
use Rattle.read_lookup.specs.Lookup.{Recorded, recorded_in, RunOf}
use Rattle.read_fetch.specs.Fetch.{run_extent, bytes_read}
use Rattle.read_fetch.proofs.FetchLaws.{length-bytes, in-chosen, run-within, run-bytes, run-shields, run-marks}
use Rattle.read_fetch.proofs.Sources.copy_run.Goals.{After-latest_write-r}
use Rattle.read_fetch.proofs.Sources.copy_run.Goals as goal

-- "handed over as that part of the log or of the file"
bytes-are : (j : Recorded) (t records : ℕ) (log file bytes : List ℕ) (logged : Bool) (e : Extent) (r : Run)
    → lengths_before j.journal t records ≤ length log → e.place + e.length ≤ length file → RunOf j t records e r
    → logged ≡ is_some r.supplier → bytes ≡ cut (chosen logged log file) r.at r.length
    → bytes ≡ bytes_read j t records log file (run_extent e r)
bytes-are j t records log file bytes logged e r inside within run by handed =
    handed ∙ ap (λ (b : Bool). cut (chosen b log file) r.at r.length) by
    ∙ sym (run-bytes j t records log file inside e r run within)

-- What was handed over holds the transaction's data, and the places.
module _ (c : After-latest_write-r) where
  inside : lengths_before (journal_of c.args.self.now.records.state.now) c.args.self.now.records.t c.args.self.now.records.used.records ≤ length c.args.self.now.log.now
  inside = let h = c.requires.handed in omega (arith, c.args.self.now.records.counted.adds, c.args.self.now.records.counted.bytes, c.args.self.now.log_length)

  within : c.args.e.place + c.args.e.length ≤ length c.args.self.now.file.now
  within = let h = c.requires.handed in omega (arith, h.places, c.args.self.now.file_length)

-- The run lies inside the part that it is handed over from.
pub run-bytes-requires : goal.run-bytes-requires
run-bytes-requires c = let s = (goal.at.run-bytes-requires c).After-latest_write-r in
    let a = c.args in let h = c.requires.handed in let r = c.latest_write-r in
    in-chosen _ _ _ _ file_bytes (omega (arith, c.args.self.now.log_length, c.args.self.now.file_length)) (omega (arith, c.args.self.now.log_length, c.args.self.now.file_length))
    (run-within (recorded_in a.self.now.records.state.now) a.self.now.records.t a.self.now.records.used.records a.self.now.log.now a.self.now.file.now (inside s) a.e r.result r.ensures.run (within s)
    c.args.self.now.log_length c.args.self.now.file_length)

pub copy_to-requires : goal.copy_to-requires
copy_to-requires c = let s = (goal.at.copy_to-requires c).After-latest_write-r in
    let a = c.args in let r = c.latest_write-r in let lent = recorded_in a.self.now.records.state.now in
    let l = ap length (bytes-are lent a.self.now.records.t a.self.now.records.used.records a.self.now.log.now a.self.now.file.now _ _ a.e r.result (inside s) (within s) r.ensures.run
    c.is_some-logged.ensures c.run-bytes.ensures) ∙ length-bytes lent a.self.now.records.t a.self.now.records.used.records a.self.now.log.now a.self.now.file.now
    a.e.file a.e.place r.result.length in omega (arith, l, r.ensures.run.within, c.requires.room.1)

-- A record supplied the run, or the file did.
pub returns-then-logged : goal.returns-then-logged
returns-then-logged c = let s = (goal.at.returns-then-logged c).After-latest_write-r in
    let a = c.args in let r = c.latest_write-r in let lent = recorded_in a.self.now.records.state.now in record {
      run = r.ensures.run;
      reader = c.copy_to.ensures ∙ ap (pasted a.reader.now a.at) (bytes-are lent a.self.now.records.t a.self.now.records.used.records a.self.now.log.now a.self.now.file.now _ _
          a.e r.result (inside s) (within s) r.ensures.run c.is_some-logged.ensures c.run-bytes.ensures);
      marks = sym (run-shields lent a.self.now.records.t a.self.now.records.used.records a.self.now.log.now a.self.now.file.now (inside s) a.e r.result r.ensures.run (within s)
          a.marks.now (sym c.is_some-logged.ensures ∙ c.if-logged.true));
    }

pub returns : goal.returns
returns c = let s = (goal.at.returns c).After-latest_write-r in
    let a = c.args in let r = c.latest_write-r in let lent = recorded_in a.self.now.records.state.now in record {
      run = r.ensures.run;
      reader = c.copy_to.ensures ∙ ap (pasted a.reader.now a.at) (bytes-are lent a.self.now.records.t a.self.now.records.used.records a.self.now.log.now a.self.now.file.now _ _
          a.e r.result (inside s) (within s) r.ensures.run c.is_some-logged.ensures c.run-bytes.ensures);
      marks = c.mark.ensures ∙ run-marks lent a.self.now.records.t a.self.now.records.used.records a.self.now.log.now a.self.now.file.now (inside s) a.e r.result r.ensures.run
          (within s) a.marks.now (sym c.is_some-logged.ensures ∙ c.if-logged.false) _ _ (omega arith) (omega arith);
    }
