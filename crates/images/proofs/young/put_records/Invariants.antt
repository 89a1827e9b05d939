-- `young::put_records` meets its contract. The loop's invariant: the records below k are put.
use mathlib.Core.Path.{◌≡◌}
use Rattle.images.specs.{Words.word_at, Images.record_from}
use Rattle.state.{specs.Journal.{last_grant, with_records}}
use Rattle.images.proofs.young.put_records.Given as goal

abbrev pub invariant-loop-k : goal.invariant-loop-k
invariant-loop-k l = (l.state ≡ with_records l.initial.state last_grant (record_from (word_at l.image)) l.k)
