-- `read_lookup::gap` meets its contract. Assumes nothing.
use mathlib.Core.Path.{◌≡◌, sym, ap, ◌∙◌}
use Prim.Native.Nat.{ℕ}
use native.Mathlib.Omega.{arith}
use lib.ListN.{get_or}
use Rattle.standings.specs.Table.{place_number}
use Rattle.state.specs.Layout.{store_of}
use Rattle.read_lookup.proofs.RunLaws.{gap-unplaced, gap-other-file, gap-before, gap-empty, gap-over, gap-after}
use Rattle.read_lookup.proofs.gap.Goals.{After-file_at}
use Rattle.read_lookup.proofs.gap.Goals as goal

-- The record's file, as it was read.
file-is : (c : After-file_at) → c.file_at.result ≡ get_or (store_of c.args.state.now).filenumbers c.args.w.descriptor 0
file-is c = c.file_at.ensures ∙ ap (λ (d : ℕ). get_or (store_of c.args.state.now).filenumbers d 0) c.from.ensures

pub returns-in_default : goal.returns-in_default
returns-in_default c = gap-unplaced _ c.args.w c.args.e _ c.in_default.is

pub returns-then-file_at-e : goal.returns-then-file_at-e
returns-then-file_at-e c = let own = file-is (goal.at.returns-then-file_at-e c).After-file_at in
    gap-other-file _ c.args.w c.args.e (λ q. c.if-file_at-e.true (own ∙ q))

pub returns-then-end-e : goal.returns-then-end-e
returns-then-end-e c = gap-before _ c.args.w c.args.e (omega (arith, ap place_number c.in-At.is))

pub returns-then-start-e : goal.returns-then-start-e
returns-then-start-e c = let own = file-is (goal.at.returns-then-start-e c).After-file_at in
    gap-over _ c.args.w c.args.e _ c.in-At.is (sym own ∙ c.if-file_at-e.false) (omega arith) (omega arith)

pub returns-then-start-end : goal.returns-then-start-end
returns-then-start-end c = gap-empty _ c.args.w c.args.e (omega arith)

pub returns : goal.returns
returns c = let own = file-is (goal.at.returns c).After-file_at in
    gap-after _ c.args.w c.args.e _ c.in-At.is (sym own ∙ c.if-file_at-e.false) (omega arith) (omega arith) _ (omega arith)
