-- `young::is_canonical` meets its contract.
use mathlib.Core.{Path.◌≡◌, Bool.{◌||◌, true}}
use Rattle.images.specs.{Words.word_at, Images.{blank_record}}
use lib.Dec.{ltb}
use Rattle.buffers.{specs.Below.below}
use Rattle.images.proofs.young.is_canonical.Given as goal

abbrev pub invariant-loop-k : goal.invariant-loop-k
invariant-loop-k l = below (λ j. ltb j l.records || blank_record (word_at l.image) j) l.k ≡ true
