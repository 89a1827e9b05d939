-- Begin and Abort after their tests: the transaction is put anew, its marks are cleared.
use Rattle.std.specs.declared.result.Result.TheVariants.{Ok}
use mathlib.Core.{Bool.Bool, List.{List, []}, Path.{◌≡◌, ap, ◌∙◌}}
use lib.ListN.{length}
use Prim.Native.Nat.{ℕ, ◌<◌}
use Rattle.limits.specs.Limits.{transaction_count}
use Rattle.buffers.specs.Marks.{without_marks}
use Rattle.state.specs.{declared.outcomes.Answer.TheVariants.{Done}, StoreMeaning.{ended, with_begun}}
use Rattle.state.specs.{Layout.{store_of, journal_of, state_length}, Updates.reset_at, Outcomes.done_answer}
use Rattle.state.proofs.LayoutLaws.{store-reset, journal-reset}
use Rattle.spec.specs.{Calls.{Turn, answer_with, reset}, Promises.{Meets, machine_of, LeftAsFound}}
use Rattle.refinement.proofs.TurnLaws.{reset-meets, done-follows}

pub reset-follows : (t : ℕ) (b : Bool) (state files logs marks undo : List ℕ) → length state ≡ state_length → t < transaction_count
    → (w : Turn) → w ≡ answer_with done_answer (reset t (with_begun b ended) (machine_of state files logs marks undo))
    → (after cleared : List ℕ) → after ≡ reset_at state t b → cleared ≡ without_marks t marks
    → Meets w (Ok Done) (machine_of after files logs cleared undo) [] × LeftAsFound (Ok Done) state after
reset-follows t b state files logs marks undo long small w e after cleared is-after is-cleared =
    let store = ap store_of is-after ∙ store-reset state t long small b in
    let journal = ap journal_of is-after ∙ journal-reset state t long small b in (
      rw journal (reset-meets t (with_begun b ended) (machine_of state files logs marks undo) w e (store_of after) cleared store
          is-cleared),
      done-follows state after,
    )
