-- `call_places::ascending::sweep_record` meets its contract. Assumes nothing.
use mathlib.Core.Path.{◌≡◌, sym, ap, ap₂, ◌∙◌}
use Prim.Native.Nat.{ℕ}
use lib.ListN.{get_or}
use Rattle.state.specs.Layout.{store_of}
use Rattle.call_places.specs.Ascending.{swept_place}
use Rattle.call_places.proofs.AscendingLaws.{record-elsewhere, record-here, write-none, write-some, write-unplaced}
use Rattle.call_places.proofs.ascending.sweep_record.Goals.{After-file_at}
use Rattle.call_places.proofs.ascending.sweep_record.Goals as goal

-- The record's file, as it was read.
file-is : (c : After-file_at) → c.file_at.result ≡ get_or (store_of c.args.state.now).filenumbers c.args.w.descriptor 0
file-is c = c.file_at.ensures ∙ ap (λ (d : ℕ). get_or (store_of c.args.state.now).filenumbers d 0) c.from.ensures

pub returns-then-file_at-f : goal.returns-then-file_at-f
returns-then-file_at-f c = let a = c.args in let own = file-is (goal.at.returns-then-file_at-f c).After-file_at in
    sym (record-elsewhere _ a.f a.s a.w (λ q. c.if-file_at-f.true (own ∙ q)))

pub returns-in_default : goal.returns-in_default
returns-in_default c = let a = c.args in let own = file-is (goal.at.returns-in_default c).After-file_at in
    sym (record-here _ a.f a.s a.w (sym own ∙ c.if-file_at-f.false) _ c.in_default.is ∙ write-unplaced a.s _ a.w.length)

pub returns-then-n-eq0 : goal.returns-then-n-eq0
returns-then-n-eq0 c = let a = c.args in let own = file-is (goal.at.returns-then-n-eq0 c).After-file_at in
    sym (record-here _ a.f a.s a.w (sym own ∙ c.if-file_at-f.false) _ c.in-At.is
    ∙ write-none a.s _ a.w.length (sym c.from-n.ensures ∙ c.if-n-eq0.true))

pub returns : goal.returns
returns c = let a = c.args in let own = file-is (goal.at.returns c).After-file_at in
    c.sweep_place.ensures ∙ ap₂ (swept_place a.s) c.from-2.ensures c.from-n.ensures
    ∙ sym (record-here _ a.f a.s a.w (sym own ∙ c.if-file_at-f.false) _ c.in-At.is
    ∙ write-some a.s _ a.w.length (λ q. c.if-n-eq0.false (c.from-n.ensures ∙ q)))
