-- `saving::save_image` meets its contract.
use Rattle.std.proofs.lemmas.Result.{err_from_is_err_and}
use mathlib.Core.Path.{◌∙◌}
use Rattle.c_images.proofs.ImageLaws.{check-refused, check-passed, out_of_range, loaded-in-range, first_taken}
use Rattle.c_images.proofs.ImageLaws.{second-taken}
use Rattle.images.specs.Images.{image_numbers}
use Rattle.c_images.proofs.saving.save_image.Goals as goal

pub returns-in_err-range_gate : goal.returns-in_err-range_gate
returns-in_err-range_gate c = let p = err_from_is_err_and c.from_residual.result c.from_residual.ensures.1 in rw (p.1, p.2) (
    let says = c.range_gate.ensures in let told = c.in_err-range_gate.was in
    let out = out_of_range _ _ _ says _ told in (
      check-refused _ _ _ _ _ _ says _ told,
      record { numbers_put = second-taken _ _ _ out; files_put = second-taken _ _ _ out; undo_put = second-taken _ _ _ out },
    ))

pub returns : goal.returns
unfolding image_numbers
returns c = let says = c.range_gate.ensures in
    let told = c.in_ok-range_gate.was in let within = loaded-in-range _ _ _ says told in (
      check-passed _ _ _ _ _ _ says told,
      record {
        numbers_put = c.put_numbers.ensures ∙ first_taken _ _ _ within;
        files_put = c.copy.ensures ∙ first_taken _ _ _ within;
        undo_put = c.copy-2.ensures ∙ first_taken _ _ _ within;
      },
    )
