-- The examples of intervals hold. Assumes nothing.
use mathlib.Core.{Bool.true, Path.refl}
use native.Mathlib.Omega.{arith}
use Rattle.limits.specs.Limits.{file_bytes}
use Rattle.spec.specs.Reading.{lies_over}
use Rattle.spec.specs.Places.{some_write, covers_place, covered, no_place, unplaced_on, unplaced, in_interval, listed, with_place}
use Rattle.spec.specs.{Places.{intervals_from, intervals_of, sixteen, encoded}, IntervalExamples.IntervalExamples}

pub intervals : IntervalExamples
unfolding some_write covers_place covered lies_over no_place unplaced_on unplaced in_interval listed with_place intervals_from intervals_of
    sixteen encoded
intervals = record {
  ends = (refl, refl, refl, refl, refl, refl);
  proper = (omega arith, omega arith, (omega arith, omega arith, tt));
  unsorted = λ h. let z = h.2.0 in omega arith;
  touching = λ h. let z = h.2.0 in omega arith;
  hollow = λ h. let z = h.1 in omega arith;
  whole = refl;
  last = refl;
  last_listed = λ h. (h (λ p. true) 4095, h (λ p. true) file_bytes);
  joins = refl;
  other_file = refl;
  waits = (refl, refl);
  pairs = refl;
}
