-- A fetch on the parts that the code hands over is the fetch on the state and the whole buffers. Assumes nothing.
use mathlib.Core.{List.List, Path.{◌≡◌, sym, ap, ◌∙◌}}
use lib.ListN.{get_or}
use Prim.Native.Nat.{ℕ, suc, ◌+◌, ◌*◌, ◌≤◌}
use native.Mathlib.Omega.{arith}
use Rattle.limits.specs.Limits.{file_bytes, log_bytes}
use Rattle.buffers.{specs.Parts.{file_part, tabulate}, proofs.PartLaws.{cut-cut, get_d-cut}}
use Rattle.state.specs.Journal.{write_record_at}
use Rattle.admission.specs.Admission.{lengths_before}
use Rattle.spec.specs.{Items.{Item, byte, Values, result, asked}, Transactions.Write, Reading.fetch, Machine.{data_start, write_at}}
use Rattle.spec.{specs.Calls.marked, proofs.Refinement.IndexedLists.tabulate-same}
use Rattle.read_lookup.{specs.{declared.Extent.Extent, Lookup.{Recorded, write_in}}, proofs.RunLaws.{data-suc, data-upto}}
use Rattle.read_fetch.specs.Fetch.{file_values, fetching, bytes_read, marks_after, log_part}
use Rattle.read_fetch.proofs.FetchLaws.{result-same, asked-same}

module _ (journal logs : List ℕ) (t : ℕ) where
  write-is : (k : ℕ) → lengths_before journal t (suc k) ≤ log_bytes → write_in journal (log_part logs t) t k
      ≡ write_at journal logs t k
  write-is k h = unfold write_in write_at data_start log_part in let w = write_record_at journal t k in
      ap (λ (bytes : List ℕ). record { descriptor = w.descriptor; place = w.place; bytes = bytes })
      (cut-cut logs (log_bytes * t) log_bytes (lengths_before journal t k) w.length (omega (arith, data-suc journal t k)))

  writes_are : (n : ℕ) → lengths_before journal t n ≤ log_bytes → tabulate (write_in journal (log_part logs t) t) n
      ≡ tabulate (write_at journal logs t) n
  writes_are n h = tabulate-same _ _ n (λ k l. write-is k (omega (arith, data-upto journal t k n l)))

-- v are committed values with these bytes
module _ (j : Recorded) (logs : List ℕ) (t n : ℕ) (inside : lengths_before j.journal t n ≤ log_bytes) (v : Values)
    (files : List ℕ) (known : (q : ℕ) → v (byte q) ≡ get_or files q 0) (e : Extent) where
  abbrev fetches : List Write → Values → List ℕ
  fetches ws v = result v (fetch (λ d. get_or j.filenumbers d 0) ws e.file e.place e.length)

  abbrev asks : List Write → Values → List Item
  asks ws v = asked v (fetch (λ d. get_or j.filenumbers d 0) ws e.file e.place e.length)

  abbrev part : Values
  part = file_values e.file (file_part files e.file)

  pub bytes-are : e.place + e.length ≤ file_bytes
      → bytes_read j t n (log_part logs t) (file_part files e.file) e ≡ fetches (tabulate (write_at j.journal logs t) n) v
  unfolding bytes_read fetching file_values file_part
  bytes-are h = ap (λ (ws : List Write). fetches ws part) (writes_are j.journal logs t n inside)
      ∙ result-same part v (λ d. get_or j.filenumbers d 0) (tabulate (write_at j.journal logs t) n) e.file e.place
      e.length (λ i l. ap (λ (k : ℕ). get_or (file_part files e.file) k 0) (omega arith) ∙ get_d-cut files
      (file_bytes * e.file) file_bytes (e.place + i) 0 (omega arith) ∙ sym (known (file_bytes * e.file + (e.place + i))))

  pub marks-are : (marks : List ℕ) → marks_after j t n (log_part logs t) (file_part files e.file) e marks ≡ marked t
      (asks (tabulate (write_at j.journal logs t) n) v) marks
  unfolding marks_after fetching
  marks-are marks = ap (λ (is : List Item). marked t is marks)
      (ap (λ (ws : List Write). asks ws part) (writes_are j.journal logs t n inside) ∙ asked-same part v
      (λ d. get_or j.filenumbers d 0) (tabulate (write_at j.journal logs t) n) e.file e.place e.length)
