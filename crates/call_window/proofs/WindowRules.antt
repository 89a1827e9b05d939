-- The rule of the setting of a window after its tests.
use Rattle.std.specs.declared.result.Result.TheVariants.{Ok}
use mathlib.Core.{List.{List, []}, Path.{◌≡◌, refl, ap, ap₂, ◌∙◌}}
use lib.ListN.{length}
use Prim.Native.Nat.{ℕ, ◌<◌}
use Rattle.limits.specs.Limits.{file_count}
use Rattle.windows.specs.Windows.{window}
use Rattle.state.specs.declared.{StoreMeaning.StoreMeaning, outcomes.Answer.TheVariants.{Done}}
use Rattle.state.specs.{Layout.{state_length, store_of, journal_of}, Updates.with_window_at, Outcomes.said}
use Rattle.state.proofs.LayoutLaws.{store-with-window, journal-with-window}
use Rattle.admission.specs.Admission.{admission_of_window}
use Rattle.spec.specs.{Messages.set_window, Machine.{Machine, lent, sizes}, Calls.{answer_with, window_turn, call}}
use Rattle.spec.specs.Promises.{Meets, machine_of, LeftAsFound}
use Rattle.refinement.proofs.TurnLaws.{passing-on, done-follows}

-- What its tests say of a machine.
abbrev pub window-tests : Machine → ℕ → ℕ → ℕ → ℕ
window-tests m f start end = admission_of_window (sizes m) m.store m.journal f start end

module _ (f start end : ℕ) (state files logs marks undo : List ℕ) (long : length state ≡ state_length) (few : f < file_count) where
  pub window-follows : window-tests (machine_of state files logs marks undo) f start end ≡ 0 → (after : List ℕ)
      → after ≡ with_window_at state f (window start end) → Meets (call (set_window f start end) (machine_of state files logs
      marks undo)) (Ok Done) (machine_of after files logs marks undo) [] × LeftAsFound (Ok Done) state after
  unfolding call window_turn answer_with said
  window-follows passes after e = let m = machine_of state files logs marks undo in let w = window start end in (
    rw (passing-on (window-tests m f start end) [] m (window_turn f start end m) passes) (record {
      outcome = refl;
      machine = ap₂ (λ (s : StoreMeaning) (j : List ℕ). lent s j files logs marks undo) (ap store_of e
          ∙ store-with-window state long f w few) (ap journal_of e ∙ journal-with-window state long f w);
      reader = refl;
    }),
    done-follows state after,
  )
