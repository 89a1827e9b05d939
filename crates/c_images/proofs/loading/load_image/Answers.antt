-- `loading::load_image` meets its contract.
use Rattle.std.proofs.lemmas.Result.{err_from_is_err_and}
use mathlib.Core.{Bool.not, Path.{sym, ap, ◌∙◌}}
use Rattle.state.specs.declared.outcomes.Refusal.TheVariants.{BufferLength, RecordRange}
use Rattle.refinement.proofs.TurnLaws.{gate-number, gate-zero}
use Rattle.admission.proofs.Laws.{failed, test-held}
use Rattle.c_images.specs.ImageCalls.{load_rule}
use Rattle.c_images.proofs.ImageLaws.{refusing, another-format, not-canonical, image-gate-says, load-follows}
use Rattle.c_images.proofs.loading.load_image.Goals as goal

pub returns-then-word_at-ne-FORMAT : goal.returns-then-word_at-ne-FORMAT
unfolding load_rule
returns-then-word_at-ne-FORMAT c = refusing _ _ _ _ _ _ _ BufferLength (another-format _ (λ p. c.if-word_at-ne-FORMAT.true (c.word_at.ensures ∙ p)))

pub returns-then-not-is_canonical : goal.returns-then-not-is_canonical
unfolding load_rule
returns-then-not-is_canonical c =
    refusing _ _ _ _ _ _ _ RecordRange (not-canonical _ (sym c.word_at.ensures ∙ c.if-word_at-ne-FORMAT.false)
    (failed c.is_canonical.ensures (ap not c.if-not-is_canonical.true)))

pub returns-in_err-range_gate : goal.returns-in_err-range_gate
unfolding load_rule
returns-in_err-range_gate c = let p = err_from_is_err_and c.from_residual.result c.from_residual.ensures.1 in rw (p.1, p.2) (
    let says = image-gate-says _ (sym c.word_at.ensures ∙ c.if-word_at-ne-FORMAT.false)
    (test-held c.is_canonical.ensures (ap not c.if-not-is_canonical.false)) _ c.young_record-young.ensures _
    c.range_gate.ensures in refusing _ _ _ _ _ _ _ _ (gate-number _ _ says _ c.in_err-range_gate.was))

pub returns : goal.returns
unfolding load_rule
returns c =
    let says = image-gate-says _ (sym c.word_at.ensures ∙ c.if-word_at-ne-FORMAT.false)
    (test-held c.is_canonical.ensures (ap not c.if-not-is_canonical.false)) _ c.young_record-young.ensures _
    c.range_gate.ensures in
    load-follows _ _ _ _ _ _ _ _ _ _ _ _ (gate-zero _ _ says c.in_ok-range_gate.was) c.young_record-young.ensures
    c.told-marks c.copy.ensures (c.fill.ensures.after (λ y e. e)) c.copy-2.ensures
