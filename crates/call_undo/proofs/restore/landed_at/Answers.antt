-- `call_undo::restore::landed_at` meets its contract.
use mathlib.Core.Path.{ap, ◌∙◌}
use lib.ListN.{get_or}
use Prim.Native.Nat.{ℕ}
use Rattle.standings.specs.Table.{place_number}
use Rattle.state.specs.{declared.journal.WriteRecord.WriteRecord, Layout.{store_of}}
use Rattle.spec.specs.Machine.{file_of}
use Rattle.call_undo.specs.LandedWrites.{landed_as}
use Rattle.call_undo.proofs.restore.landed_at.Goals as goal

pub returns : goal.returns
unfolding landed_as file_of
returns c = let s = store_of c.args.state.now in let found = c.record_at-w.ensures in
    let through = c.from.ensures ∙ ap (λ (w : WriteRecord). w.descriptor) found in
    let file = c.from-2.ensures ∙ c.file_at.ensures ∙ ap (λ (d : ℕ). get_or s.filenumbers d 0) through in
    let place = c.from-3.ensures ∙ c.place_number.ensures ∙ ap (λ (w : WriteRecord). place_number w.place) found in
    let size = c.from-4.ensures ∙ ap (λ (w : WriteRecord). w.length) found in
    λ i. record { file = file i; place = place i; length = size i }
