-- `flush` meets its contract. Assumes nothing.
use mathlib.Core.Path.{◌≡◌, ap, ◌∙◌}
use lib.{ListN.length, Seq.length-take-le}
use native.Mathlib.Omega.{arith}
use Rattle.buffers.specs.Parts.{cut}
use Rattle.trace.proofs.flush.Goals as goal

pub part-requires-2 : goal.part-requires-2
unfolding cut
part-requires-2 c = let start = c in
    let l : length c.part.result.now ≡ start.args.progress.waiting = ap length c.part.ensures
    ∙ length-take-le start.args.progress.waiting start.args.out.now start.requires in
    omega (arith, c.write_out-done.ensures.count, l, start.requires)
