-- What a call's settling comes to: the choices that the code makes are those of the rules.
use mathlib.Core.{Bool.{Bool, false, cond, ◌&&◌}, List.{List, [], ◌∷◌}, Logic.⊎_elim, Path.{◌≡◌, sym, ap, ◌∙◌, fun_ext}}
use borrow.Author.Tests.{ne_eqb}
use lib.{Dec.eqb, ListN.{length, get_or, get_or-eq_default}}
use native.Mathlib.Omega.{arith}
use Prim.Native.Nat.{ℕ, ◌≤◌, ◌<◌}
use Rattle.limits.specs.Limits.{descriptor_count}
use Rattle.buffers.{proofs.{PartLaws.le-or-lt, TableLaws.{length-tabulate, get_d_tabulate}}, specs.Parts.tabulate}
use Rattle.state.specs.declared.{Descriptor.Descriptor, StoreMeaning.StoreMeaning}
use Rattle.state.specs.StoreMeaning.{transaction, standing_at, no_descriptor}
use Rattle.admission.specs.FirstRefusal.{below}
use Rattle.spec.specs.{Items.result, Transactions.{those, past, all, settling}, Steps.settled_by_read}
use Rattle.spec.specs.Machine.{file_of, values, txn_of}
use Rattle.standings.specs.Table.{pointer_settles, read_settles}
use Rattle.refinement.{specs.Settling.settle_all, proofs.Settling.{fits_at, settled-together, those-one}}
use Rattle.read_settle.specs.Choices.{settles_for_read, chosen_by_read, settles_for_pointer, chosen_by_pointer, settles_within}
use Rattle.read_settle.specs.Choices.{all_within}
use Rattle.read_settle.proofs.Settled.{settled_txn}

-- A table of choices that none passes from n on says what the test says.
table-choice : (p : ℕ → Bool) (n : ℕ) → ((e : ℕ) → n ≤ e → p e ≡ false) → p ≡ (λ e. get_or (tabulate p n) e false)
table-choice p n none = fun_ext (λ e. ⊎_elim (λ h. let l = length-tabulate p n in none e h ∙ sym
    (get_or-eq_default (tabulate p n) false (omega arith))) (λ h. sym (get_d_tabulate p n e false h)) (le-or-lt n e))

-- Settling the chosen ones in turn, on the committed offsets of the record.
module _ (s : StoreMeaning) (journal files logs : List ℕ) (t : ℕ) where
  settling-chosen : (p : ℕ → Bool) → ((e : ℕ) → 16 ≤ e → p e ≡ false)
      → result (values s files) (settling (those p 16) (txn_of s journal logs t))
      ≡ cond (all_within (tabulate p 16) s.offsets (transaction s t)) (all (settled_txn s journal logs t (tabulate p 16))) past
  unfolding values txn_of all_within settles_within
  settling-chosen p none = settled-together (values s files) p (txn_of s journal logs t) 16 none
      ∙ ap (λ (f : ℕ → Bool). cond (below (fits_at (values s files) f (txn_of s journal logs t)) 16)
      (all (settle_all f (λ d. get_or s.offsets d 0) (txn_of s journal logs t))) past) (table-choice p 16 none)

  -- GetFilePointer on d.
  pub settling-pointer : (d : ℕ) → d < descriptor_count → result (values s files)
      (settling (cond (pointer_settles ((txn_of s journal logs t).standing d)) (d ∷ []) []) (txn_of s journal logs t)) ≡ cond
      (all_within (chosen_by_pointer (transaction s t) d) s.offsets (transaction s t))
      (all (settled_txn s journal logs t (chosen_by_pointer (transaction s t) d))) past
  unfolding chosen_by_pointer settles_for_pointer txn_of
  settling-pointer d h = let b = pointer_settles (standing_at (transaction s t) d) in
      ap (λ (ds : List ℕ). result (values s files) (settling ds (txn_of s journal logs t))) (sym (those-one d b 16 h))
      ∙ settling-chosen (λ e. eqb e d && b) (λ e g. let ne : e ≡ d → ⊥ = λ q. omega arith in rw (ne_eqb e d ne))

  -- A Read through d.
  pub settling_read : (d : ℕ) → d < descriptor_count → length (transaction s t).descriptors ≡ 16
      → result (values s files) (settling (settled_by_read (file_of s) d (txn_of s journal logs t)) (txn_of s journal logs t))
      ≡ cond (all_within (chosen_by_read s.filenumbers (transaction s t) d) s.offsets (transaction s t))
      (all (settled_txn s journal logs t (chosen_by_read s.filenumbers (transaction s t) d))) past
  unfolding chosen_by_read settles_for_read settled_by_read file_of txn_of
  settling_read d h sixteen = settling-chosen (settles_for_read s.filenumbers (transaction s t) d) above
    where
      above : (e : ℕ) → 16 ≤ e → settles_for_read s.filenumbers (transaction s t) d e ≡ false
      above e g = let ne : e ≡ d → ⊥ = λ q. omega arith in
          ap (λ (z : Descriptor). read_settles (eqb (get_or s.filenumbers e 0) (get_or s.filenumbers d 0)) (eqb e d)
          z.standing) (get_or-eq_default (transaction s t).descriptors no_descriptor (omega arith)) ∙ ne_eqb e d ne
