-- Where no own write of at least one byte lies in the file, a fetch that visits no write record brings the same. Assumes
-- nothing.
use mathlib.Core.{Bool.{Bool, true, false, cond}, List.{List, [], ◌∷◌}, Path.{◌≡◌, refl, sym, ap, ap₂, ◌∙◌}}
use borrow.Author.Tests.{eqb-true}
use lib.{Dec.eqb, ListN.{length, get_or}}
use Prim.Native.Nat.{ℕ, zero, suc, ◌+◌, ◌*◌, ◌≤◌}
use native.Mathlib.Omega.{arith}
use Rattle.limits.specs.Limits.{file_bytes}
use Rattle.buffers.specs.Parts.{tabulate}
use Rattle.counters.specs.declared.Used.{Used}
use Rattle.admission.specs.{FirstRefusal.sum, Admission.lengths_before}
use Rattle.spec.specs.{Items.{Prog, done, and_then, result, asked}, Transactions.Write, Reading.{Source, latest, bring, fetch}}
use Rattle.spec.specs.Calls.{marked}
use Rattle.read_lookup.specs.{declared.Extent.Extent, Lookup.{Recorded, CountedRecords, reach, source_of, write_in}}
use Rattle.read_lookup.proofs.RunLaws.{latest-is, supplier-none}
use Rattle.read_fetch.specs.Fetch.{file_values, fetching, bytes_read, marks_after, visited_by}

-- A fetch goes by the latest writes alone.
fetch-latest : (file_of : ℕ → ℕ) (ws us : List Write) (f : ℕ) → ((q : ℕ) → latest file_of f q ws ≡ latest file_of f q us) → (p n : ℕ)
    → fetch file_of ws f p n ≡ fetch file_of us f p n
unfolding fetch
fetch-latest file_of ws us f same p zero = refl
fetch-latest file_of ws us f same p (suc n) = ap₂ (λ (s : Source) (r : Prog (List ℕ)). and_then (bring s (file_bytes * f + p))
    (λ b. and_then r (λ bs. done (b ∷ bs)))) (same p) (fetch-latest file_of ws us f same (suc p) n)

-- The counters of what is visited.
pub visited-counted : (journal : List ℕ) (t : ℕ) (u : Used) (own : ℕ) → CountedRecords journal t u
    → CountedRecords journal t (visited_by u own)
unfolding lengths_before sum
visited-counted journal t u own h = pick (eqb own 0)
  where
    pick : (b : Bool) → CountedRecords journal t (cond b (record { records = 0; bytes = 0 }) u)
    pick true = record {
      small = h.small;
      records = omega arith;
      adds = refl;
      bytes = omega arith;
      descriptors = λ k l. absurd (omega arith);
    }
    pick false = h

module _ (j : Recorded) (t : ℕ) (u : Used) (log : List ℕ) (inside : lengths_before j.journal t u.records ≤ length log)
    (e : Extent) (own : ℕ) (ends : own ≡ reach j t e.file 0 u.records) where
  fetching-none : own ≡ 0 → fetching j t 0 log e ≡ fetching j t u.records log e
  unfolding fetching tabulate latest source_of
  fetching-none none = sym (fetch-latest (λ d. get_or j.filenumbers d 0) (tabulate (write_in j.journal log t)
      u.records) [] e.file (λ p. latest-is j log t e.file p u.records inside ∙ ap (source_of j.journal log t
      p) (supplier-none j t e.file u.records (sym ends ∙ none) p)) e.place e.length)

  -- What is visited brings what all bring.
  visited-fetching : fetching j t (visited_by u own).records log e ≡ fetching j t u.records log e
  visited-fetching = pick (eqb own 0) refl
    where
      pick : (b : Bool) → eqb own 0 ≡ b → fetching j t (cond b (record { records = 0; bytes = 0 }) u).records log e
          ≡ fetching j t u.records log e
      pick true q = fetching-none (eqb-true own 0 q)
      pick false q = refl

  pub visited-bytes : (file : List ℕ)
      → bytes_read j t (visited_by u own).records log file e ≡ bytes_read j t u.records log file e
  visited-bytes file = unfold bytes_read in ap (λ (p : Prog (List ℕ)). result (file_values e.file file) p) visited-fetching

  pub visited-marks : (file marks : List ℕ)
      → marks_after j t (visited_by u own).records log file e marks ≡ marks_after j t u.records log file e marks
  visited-marks file marks = unfold marks_after in
      ap (λ (p : Prog (List ℕ)). marked t (asked (file_values e.file file) p) marks) visited-fetching
