-- The rule of undo after its tests.
use Rattle.std.specs.declared.result.Result.TheVariants.{Ok}
use mathlib.Core.{Bool.false, List.{List, []}, Path.{◌≡◌, refl, ap, ◌∙◌}}
use lib.ListN.{length}
use Prim.Native.Nat.{ℕ}
use Rattle.state.specs.declared.{StoreMeaning.StoreMeaning, outcomes.Answer.TheVariants.{Done}}
use Rattle.state.specs.{StoreMeaning.{with_valid, with_undo}, Layout.{state_length, store_of, journal_of}}
use Rattle.state.specs.{Updates.{with_undo_valid_at, with_found_committed}, Outcomes.said}
use Rattle.state.proofs.UndoLaws.{length-copied, store-with-valid, journal-with-valid, store-with-found-committed}
use Rattle.state.proofs.UndoLaws.{journal-with-found-committed}
use Rattle.admission.specs.Admission.{admission_of_undo}
use Rattle.spec_undo.specs.OldBytes.{restored}
use Rattle.spec.specs.{Messages.undo_commit, Machine.{Machine, lent, sizes}, Undo.{landed_on, undone}}
use Rattle.spec.specs.{Calls.{answer_with, undo_turn, call}, Promises.{Meets, machine_of, LeftAsFound}}
use Rattle.refinement.proofs.TurnLaws.{passing-on, done-follows}

-- What its tests say of a machine.
abbrev pub undo-tests : Machine → ℕ
undo-tests m = admission_of_undo (sizes m) m.store m.journal

module _ (state files logs marks undo : List ℕ) (long : length state ≡ state_length) where
  -- The state with what the grant found as the committed offsets and lengths, then with no grant to undo.
  module _ (found after : List ℕ) (first : found ≡ with_found_committed state) (then : after ≡ with_undo_valid_at found false) where
    found-long : length found ≡ state_length
    found-long = ap length first ∙ length-copied state _ _ _ ∙ long

    store-back : store_of after ≡ (undone (machine_of state files logs marks undo)).store
    unfolding undone
    store-back = ap store_of then ∙ store-with-valid found found-long false ∙ ap (λ (s : StoreMeaning). with_undo
        (with_valid false s.undo) s) (ap store_of first ∙ store-with-found-committed state long)

    journal-back : journal_of after ≡ journal_of state
    journal-back = ap journal_of then ∙ journal-with-valid found found-long false ∙ ap journal_of first
        ∙ journal-with-found-committed state long

    pub undo-follows : undo-tests (machine_of state files logs marks undo) ≡ 0 → (bytes : List ℕ)
        → bytes ≡ restored (landed_on (store_of state) (journal_of state)) undo files → Meets (call undo_commit (machine_of state
        files logs marks undo)) (Ok Done) (machine_of after bytes logs marks undo) [] × LeftAsFound (Ok Done) state after
    unfolding call undo_turn undone answer_with said
    undo-follows passes bytes e = let m = machine_of state files logs marks undo in (
      rw (passing-on (undo-tests m) [] m (undo_turn m) passes) (record
          { outcome = refl; machine = λ i. lent (store-back i) (journal-back i) (e i) logs marks undo; reader = refl }),
      done-follows state after,
    )
