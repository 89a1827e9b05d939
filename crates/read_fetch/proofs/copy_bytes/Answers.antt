-- `read_fetch::copy_bytes` meets its contract. Assumes nothing.
use mathlib.Core.{List.{List, ◌++◌}, Path.{◌≡◌, ap, ap₂, ◌∙◌}}
use Prim.Native.Nat.{ℕ, ◌*◌, ◌≤◌}
use native.Mathlib.Omega.{arith}
use lib.ListN.{length, drop}
use Rattle.limits.specs.Limits.{log_bytes}
use Rattle.buffers.{specs.Parts.file_part, proofs.PartLaws.{length_cut, length-file}}
use Rattle.counters.specs.declared.Used.{Used}
use Rattle.admission.specs.Admission.{lengths_before}
use Rattle.read_lookup.specs.Lookup.{Recorded, recorded_in}
use Rattle.read_fetch.specs.Fetch.{bytes_read, marks_after, log_part}
use Rattle.read_fetch.proofs.VisitedLaws.{visited-counted, visited-bytes, visited-marks}
use Rattle.read_fetch.proofs.copy_bytes.Goals as goal

pub invariant_of-walked : goal.invariant_of-walked
invariant_of-walked c = record {
  counted = rw c.visited.ensures (visited-counted _ _ _ c.args.own c.args.records.now.counted);
}

pub invariant_of-sources : goal.invariant_of-sources
invariant_of-sources c = let a = c.args in let h = c.requires.handed in record {
  file_length = ap length (c.file_part.ensures ∙ ap (file_part a.files.now) c.from.ensures)
      ∙ length-file a.files.now a.e.file h.files_length h.file_in;
  log_length = ap length c.part.ensures ∙ length_cut a.logs.now (log_bytes * a.records.now.t) log_bytes
      (omega (arith, h.logs_length, a.records.now.counted.small));
}

pub returns : goal.returns
returns c =
    let a = c.args in let h = c.requires.handed in let lent : Recorded = recorded_in a.records.now.state.now in
    let r = c.copy_runs in let log = c.part.result.now in let file = c.file_part.result.now in
    let f : file ≡ file_part a.files.now a.e.file = c.file_part.ensures ∙ ap (file_part a.files.now) c.from.ensures in
    let l : log ≡ log_part a.logs.now a.records.now.t = unfold log_part in c.part.ensures in
    let log-length = ap length c.part.ensures ∙ length_cut a.logs.now (log_bytes * a.records.now.t) log_bytes
    (omega (arith, h.logs_length, c.args.records.now.counted.small)) in
    let inside : lengths_before lent.journal a.records.now.t a.records.now.used.records ≤ length log =
    omega (arith, c.args.records.now.counted.adds, c.args.records.now.counted.bytes, log-length) in record {
      reader = r.ensures.reader ∙ ap (λ (u : Used). bytes_read lent a.records.now.t u.records log file a.e ++ drop a.e.length
          a.reader.now) c.visited.ensures ∙ ap (λ (x : List ℕ). x ++ drop a.e.length a.reader.now)
          (visited-bytes lent a.records.now.t a.records.now.used log inside a.e a.own c.requires.ends file) ∙ ap₂ (λ (x y : List ℕ).
          bytes_read lent a.records.now.t a.records.now.used.records x y a.e ++ drop a.e.length a.reader.now) l f;
      marks = r.ensures.marks ∙ ap (λ (u : Used). marks_after lent a.records.now.t u.records log file a.e a.marks.now)
          c.visited.ensures
          ∙ visited-marks lent a.records.now.t a.records.now.used log inside a.e a.own c.requires.ends file a.marks.now
          ∙ ap₂ (λ (x y : List ℕ). marks_after lent a.records.now.t a.records.now.used.records x y a.e a.marks.now) l f;
    }
