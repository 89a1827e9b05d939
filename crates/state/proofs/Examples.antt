-- The examples of outcomes are computed.
use mathlib.Core.Path.{refl}
use Rattle.state.specs.{Outcomes.said, Examples.SaysEach}

pub says-each : SaysEach
unfolding said
says-each = record { bytes = (refl, refl); offset = refl; octet = refl; count = refl; order = refl; number = (refl, refl) }
