-- A call's bytes start inside its line.
use Rattle.std.proofs.Common.{arith, refl, Some}
use Rattle.text_trace.proofs.Laws.{starts-within}
use Rattle.test_situations.proofs.script.answers.Goals as goal

pub slice_bounds-perform-count : goal.slice_bounds-perform-count
slice_bounds-perform-count c = omega (arith, starts-within _ (Some c.in-Some.asked) c.in-Some.ensures _ refl)

pub slice_bounds-perform-start : goal.slice_bounds-perform-start
slice_bounds-perform-start c = omega (arith, starts-within _ (Some c.in-Some.asked) c.in-Some.ensures _ refl)
