-- The offsets of the descriptors passed are set.
use Rattle.state.specs.{StoreMeaning.with_offsets, Layout.{store_of, transaction_of}}
use Rattle.commit_apply.specs.Apply.{Means}
use Rattle.commit_apply.proofs.OffsetLaws.{offsets_set}
use Rattle.commit_apply.proofs.offsets.set_offsets.Given as goal

abbrev pub invariant-loop-d : goal.invariant-loop-d
invariant-loop-d l = let s = store_of l.initial.state in Means l.initial.state l.state
    (with_offsets (offsets_set (transaction_of l.initial.state l.t) s.offsets l.d) s)
