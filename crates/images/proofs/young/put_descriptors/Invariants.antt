-- `young::put_descriptors` meets its contract. The loop's invariant: those below d are put.
use mathlib.Core.Path.{◌≡◌}
use Rattle.images.specs.{Words.word_at, Young.{with_each, put_descriptor}}
use Rattle.images.proofs.young.put_descriptors.Given as goal

abbrev pub invariant-loop-d : goal.invariant-loop-d
invariant-loop-d l = (l.state ≡ with_each (put_descriptor (word_at l.image)) l.d l.initial.state)
