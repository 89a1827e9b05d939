-- Where a write record ends, as the code tests it. The promises of the calls do not name this; those of the
-- functions below them do.
use Rattle.std.specs.Prelude.{Bool, ◌&&◌, leb, ℕ, ◌+◌}
use Rattle.limits.specs.Limits.{last_descriptor}
use Rattle.standings.specs.declared.Place.{Place}
use Rattle.standings.specs.declared.Place.TheVariants.{At, After}
use Rattle.standings.specs.declared.Standing.{Standing}
use Rattle.standings.specs.Table.{advance, may_wait}
use Rattle.state.specs.declared.Transaction.{Transaction}
use Rattle.state.specs.declared.journal.WriteRecord.{WriteRecord}
use Rattle.state.specs.StoreMeaning.{standing_at}

-- A write of n bytes under standing z ends at most at `most`; one without a place, at most at the advance,
-- where the standing lets it wait.
unfoldable pub place_ends_by : ℕ → Standing → Place → ℕ → Bool
place_ends_by most z (At p) n = leb (p + n) most
place_ends_by most z (After a) n = may_wait z && leb (a + n) (advance z)

-- A write record of transaction x has a descriptor, and does so under its standing.
unfoldable pub ends_by : ℕ → Transaction → WriteRecord → Bool
ends_by most x w =
    leb w.descriptor last_descriptor
    && place_ends_by most (standing_at x w.descriptor) w.place w.length
