-- `call_places::waits` meets its contract. Assumes nothing.
use mathlib.Core.Path.{sym, ap, ◌∙◌, ◌≡◌}
use Prim.Native.Nat.{ℕ}
use lib.ListN.{get_or}
use Rattle.state.specs.Layout.{store_of}
use Rattle.call_places.proofs.CoverLaws.{waits-elsewhere, waits-here, placed-has, unplaced-has-none}
use Rattle.call_places.proofs.waits.Goals.{After-file_at}
use Rattle.call_places.proofs.waits.Goals as goal

-- The record's file, as it was read.
file-is : (c : After-file_at) → c.file_at.result ≡ get_or (store_of c.args.state.now).filenumbers c.args.w.descriptor 0
file-is c = c.file_at.ensures ∙ ap (λ (d : ℕ). get_or (store_of c.args.state.now).filenumbers d 0) c.from.ensures

pub returns-then-file_at-f : goal.returns-then-file_at-f
returns-then-file_at-f c = let own = file-is (goal.at.returns-then-file_at-f c).After-file_at in
    sym (waits-elsewhere _ c.args.f c.args.w (λ q. c.if-file_at-f.true (own ∙ q)))

pub returns-in_default : goal.returns-in_default
returns-in_default c = let own = file-is (goal.at.returns-in_default c).After-file_at in
    sym (waits-here _ c.args.f c.args.w (sym own ∙ c.if-file_at-f.false) _ c.in_default.is ∙ placed-has _)

pub returns-in-After : goal.returns-in-After
returns-in-After c = let own = file-is (goal.at.returns-in-After c).After-file_at in
    sym (waits-here _ c.args.f c.args.w (sym own ∙ c.if-file_at-f.false) _ c.in-After.is ∙ unplaced-has-none _)
