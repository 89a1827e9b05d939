-- The rule of Fresh after its tests.
use Rattle.std.specs.declared.result.Result.TheVariants.{Ok}
use mathlib.Core.{List.{List, []}, Logic.⊎_elim, Path.{◌≡◌, sym, ap, ◌∙◌}}
use lib.ListN.{length, get_or, replicate, length-replicate, get_or-replicate, get_or-eq_default}
use native.Mathlib.Omega.{arith}
use Prim.Native.Nat.{ℕ, ◌<◌}
use Rattle.state.specs.{Journal.journal_length, declared.outcomes.Answer.TheVariants.{Done}}
use Rattle.state.specs.{Layout.{store_of, journal_of, state_length}, Updates.with_file_numbers_at, Outcomes.{done_answer, said}}
use Rattle.state.proofs.LayoutLaws.{store-of-zeros, filed, store-with-files, journal-with-files}
use Rattle.limits.specs.Limits.{descriptor_count}
use Rattle.buffers.{specs.Parts.tabulate, proofs.{PartLaws.le-or-lt, TableLaws.table_same}}
use Rattle.admission.{specs.Admission.admission_of_fresh, proofs.Laws.admitted-fresh}
use Rattle.spec.specs.{Machine.{lent, sizes}, Calls.{Turn, answer_with, fresh, fresh_store, fresh_machine}}
use Rattle.spec.{specs.Promises.{Meets, machine_of, LeftAsFound}, proofs.Refinement.IndexedLists.tabulate-get_d}
use Rattle.refinement.proofs.TurnLaws.{passing-on, done-follows}

-- ---- a state of zeros, and the file numbers in it

abbrev zeros : ℕ → List ℕ
zeros n = replicate n 0

length-zeros : (n : ℕ) → length (zeros n) ≡ n
length-zeros n = length-replicate {A = ℕ} n 0

zero-at : (n k : ℕ) → k < n → get_or (zeros n) k 0 ≡ 0
zero-at n k h = get_or-replicate {A = ℕ} n k 0 0 h

zero-anywhere : (k : ℕ) → get_or (zeros state_length) k 0 ≡ 0
zero-anywhere k = ⊎_elim (λ h. get_or-eq_default (zeros state_length) 0 {n = k} (omega (arith, length-zeros state_length)))
    (zero-at state_length k) (le-or-lt state_length k)

-- A list as a table of its numbers.
listed : (l : List ℕ) (n : ℕ) → length l ≡ n → tabulate (λ k. get_or l k 0) n ≡ l
listed l n e = ap (λ (m : ℕ). tabulate (λ k. get_or l k 0) m) (sym e) ∙ tabulate-get_d l 0

journal-of-zeros : journal_of (zeros state_length) ≡ zeros journal_length
unfolding journal_of
journal-of-zeros = table_same (λ k. get_or (zeros state_length) k 0) (λ k. get_or (zeros journal_length) k 0) journal_length
    (λ k h. zero-at state_length k (omega arith) ∙ sym (zero-at journal_length k h))
    ∙ listed (zeros journal_length) journal_length (length-zeros journal_length)

module _ (numbers : List ℕ) (sixteen : length numbers ≡ descriptor_count) where
  abbrev numbered : List ℕ
  numbered = with_file_numbers_at (zeros state_length) (λ d. get_or numbers d 0) 16

  fresh-store : store_of numbered ≡ fresh_store numbers
  unfolding fresh_store
  fresh-store = store-with-files (zeros state_length) (length-zeros state_length) (λ d. get_or numbers d 0)
      ∙ ap (filed (tabulate (λ d. get_or numbers d 0) descriptor_count)) (store-of-zeros (zeros state_length) zero-anywhere)
      ∙ ap (λ (l : List ℕ). filed l (fresh_store [])) (listed numbers 16 sixteen)

  fresh-journal : journal_of numbered ≡ zeros journal_length
  fresh-journal = journal-with-files (zeros state_length) (length-zeros state_length) (λ d. get_or numbers d 0) 16 ∙ journal-of-zeros

-- ---- the rule

pub fresh-follows : (numbers state files logs marks undo : List ℕ) → admission_of_fresh
    (sizes (machine_of state files logs marks undo)) numbers ≡ 0 → (one after bytes sightings : List ℕ) → one ≡ replicate
    state_length 0 → after ≡ with_file_numbers_at one (λ d. get_or numbers d 0) 16 → bytes ≡ replicate (length files) 0
    → sightings ≡ replicate (length marks) 0 → Meets (fresh numbers (machine_of state files logs marks undo)) (Ok Done)
    (machine_of after bytes logs sightings undo) [] × LeftAsFound (Ok Done) state after
fresh-follows numbers state files logs marks undo passes one after bytes sightings is_one is-after is-bytes is-sightings =
    unfold fresh answer_with fresh_machine said in let m = machine_of state files logs marks undo in
    let e = passing-on _ [] m (answer_with done_answer (fresh_machine numbers logs undo)) passes in
    let a = admitted-fresh (sizes m) numbers passes in
    let put = is-after ∙ ap (λ (l : List ℕ). with_file_numbers_at l (λ d. get_or numbers d 0) 16) is_one in
    let s = ap store_of put ∙ fresh-store numbers a.sixteen in
    let j = ap journal_of put ∙ fresh-journal numbers a.sixteen in
    let f = is-bytes ∙ ap (λ (n : ℕ). replicate n 0) a.lengths.files in
    let g = is-sightings ∙ ap (λ (n : ℕ). replicate n 0) a.lengths.marks in
    let same : machine_of after bytes logs sightings undo ≡ fresh_machine numbers logs undo =
    λ i. lent (s i) (j i) (f i) logs (g i) undo in (
      record {
        outcome = sym (ap (λ (w : Turn). w.reply.answer) e);
        machine = same ∙ sym (ap (λ (w : Turn). w.after) e);
        reader = sym (ap (λ (w : Turn). w.reply.buffer) e);
      },
      done-follows state after,
    )
