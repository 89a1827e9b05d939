-- What is proved of images.
use Rattle.spec.{specs.{Calls.calls_after, Promises.machine_of}, proofs.Theorems.{Serializability.calls-agree, Age.alike}}
use Rattle.refinement.proofs.Shapes.{shaped}
use Rattle.images.specs.Images.{image_numbers, young_with, number_of}
use Rattle.c_images.specs.ImagesHold.{ImagesHold, lives_after, calls_of_lives}
use Rattle.c_images.proofs.{Rejuvenated.{loaded-image, not-refused}, Back.{word_back, image-back}, Lives.lives-from-fresh}

pub images-hold : ImagesHold
images-hold = unfold image_numbers young_with in record {
  rejuvenates = λ state files logs marks undo new_logs good. (
    not-refused (machine_of state files logs marks undo) new_logs _ (word_back (number_of _ _) 276) (shaped state) good,
    loaded-image (machine_of state files logs marks undo) new_logs _ (word_back (number_of _ _) 276) (shaped state),
  );
  back = λ numbers files undo logs long small passes. image-back numbers long small passes;
  saves = λ numbers m₀ made ls cs. let w = lives-from-fresh numbers m₀ made ls in
      (calls-agree cs (lives_after ls m₀) w.second).sound.in_range;
  goes_on = λ numbers m₀ made ls cs. let w = lives-from-fresh numbers m₀ made ls in
      alike (calls_after (calls_of_lives ls) m₀) (lives_after ls m₀) w.first w.second w.same cs;
}
