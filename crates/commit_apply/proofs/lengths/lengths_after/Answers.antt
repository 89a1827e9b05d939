-- `commit_apply::lengths::lengths_after` meets its contract. The loop's invariant: the lengths are those of the records landed so
-- far.
use mathlib.Core.{List.List, Path.{ap, ap₂, ◌∙◌}}
use lib.ListN.{get_or, set}
use Prim.Native.Nat.{ℕ, ◌≤◌, max}
use native.Mathlib.Omega.{arith}
use Rattle.limits.specs.Limits.{file_bytes}
use Rattle.state.specs.Layout.{store_of, journal_of}
use Rattle.spec.{specs.Reading.write_end, proofs.Refinement.WriteEnds.write-end}
use Rattle.refinement.proofs.Shapes.{shaped}
use Rattle.commit_apply.proofs.{WriteLaws.can-first, LengthLaws.{landed-lengths-none, landed-lengths-more}}
use Rattle.commit_apply.proofs.lengths.lengths_after.Goals as goal

pub loop-k-init : goal.loop-k-init
loop-k-init c = let state = c.args.state.now in let s = store_of state in
    c.lengths_at-out.ensures
    ∙ landed-lengths-none s.filenumbers s.offsets (journal_of state) _ s.lengths (shaped state).lengths

pub landing_at-w-requires : goal.landing_at-w-requires
landing_at-w-requires c = can-first c.requires (omega arith)

pub overflow_cast-end : goal.overflow_cast-end
overflow_cast-end c = let end : c.write_end-end.result ≤ file_bytes = rw c.write_end-end.ensures
    (write-end _ _ c.landing_at-w.ensures.inside) in omega (arith, end)

pub loop-k-preserved : goal.loop-k-preserved
loop-k-preserved c =
    let lands = c.landing_at-w.ensures in let f = c.landing_at-w.result.file in
    let state = c.args.state.now in let s = store_of state in
    let ends = c.write_end-end.ensures ∙ ap₂ write_end lands.place lands.length in
    ap (λ (xs : List ℕ). set xs f c.max.result) c.loop-k.invariant
    ∙ landed-lengths-more s.filenumbers s.offsets (journal_of state) c.args.t s.lengths c.loop-k.k f
    c.write_end-end.result c.max.result lands.file_in lands.file ends
    (c.max.ensures ∙ ap (λ (xs : List ℕ). max (get_or xs f 0) c.write_end-end.result) c.loop-k.invariant)
