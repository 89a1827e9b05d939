-- `read_lookup::end_in` meets its contract. Assumes nothing.
use mathlib.Core.Path.{◌≡◌, sym, ap, ap₂, ◌∙◌}
use Prim.Native.Nat.{ℕ, ◌+◌}
use native.Mathlib.Omega.{arith}
use lib.ListN.{get_or}
use Rattle.state.specs.Layout.{store_of}
use Rattle.read_lookup.proofs.RunLaws.{end-unplaced, end-other-file, end_empty, end-placed}
use Rattle.read_lookup.proofs.end_in.Goals.{After-file_at}
use Rattle.read_lookup.proofs.end_in.Goals as goal

-- The record's file, as it was read.
file-is : (c : After-file_at) → c.file_at.result ≡ get_or (store_of c.args.state.now).filenumbers c.args.w.descriptor 0
file-is c = c.file_at.ensures ∙ ap (λ (d : ℕ). get_or (store_of c.args.state.now).filenumbers d 0) c.from.ensures

pub returns-in_default : goal.returns-in_default
returns-in_default c = end-unplaced _ c.args.file c.args.w _ c.in_default.is

pub returns-then-file_at-file : goal.returns-then-file_at-file
returns-then-file_at-file c = let own = file-is (goal.at.returns-then-file_at-file c).After-file_at in
    end-other-file _ c.args.file c.args.w (λ q. c.if-file_at-file.true (own ∙ q))

pub returns-then-size-eq0 : goal.returns-then-size-eq0
returns-then-size-eq0 c = end_empty _ c.args.file c.args.w (omega arith)

pub returns : goal.returns
returns c = let own = file-is (goal.at.returns c).After-file_at in
    ap₂ (λ (m n : ℕ). m + n) c.from-2.ensures c.from-size.ensures
    ∙ end-placed _ c.args.file c.args.w _ c.in-At.is (sym own ∙ c.if-file_at-file.false) (omega arith)
