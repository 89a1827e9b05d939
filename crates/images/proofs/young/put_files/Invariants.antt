-- `young::put_files` meets its contract. The loop's invariant: those below f are put.
use mathlib.Core.Path.{◌≡◌}
use Rattle.images.specs.{Words.word_at, Young.{with_each, put_file}}
use Rattle.images.proofs.young.put_files.Given as goal

abbrev pub invariant-loop-f : goal.invariant-loop-f
invariant-loop-f l = (l.state ≡ with_each (put_file (word_at l.image)) l.f l.initial.state)
