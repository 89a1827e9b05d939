-- `answer` meets its contract. Assumes nothing.
use Rattle.std.proofs.Common.{refl, arith, None, Some}
use Rattle.state.specs.Outcomes.{said}
use Rattle.text_trace.proofs.Laws.{starts-within}
use Rattle.trace.proofs.Laws.{refused-line, asked-line}
use Rattle.trace.proofs.answering.answer.Goals as goal

pub returns-in_default : goal.returns-in_default
unfolding said
returns-in_default c = refused-line _ None c.in_default.ensures refl _ _ _ refl

pub slice_bounds-bytes-count : goal.slice_bounds-bytes-count
slice_bounds-bytes-count c = omega (arith, starts-within _ (Some c.in-Some.asked) c.in-Some.ensures _ refl)

pub slice_bounds-bytes-start : goal.slice_bounds-bytes-start
slice_bounds-bytes-start c = omega (arith, starts-within _ (Some c.in-Some.asked) c.in-Some.ensures _ refl)

pub returns : goal.returns
returns c = asked-line c.args.line.now (Some c.in-Some.asked) c.in-Some.ensures _ refl _ _ _ _ _ c.perform.ensures.0
