-- Descriptors settled all at once: those that pass a test, each at its committed offset.
use Rattle.std.specs.Prelude.{Bool, cond, map, ℕ}
use Rattle.standings.specs.Table.{settled}
use Rattle.spec.specs.Transactions.{Write, Txn, placed_at}

-- "Each write made while the place was unknown now lies at c plus the advance before it." [R-4.2]
unfoldable pub place_all : (ℕ → Bool) → (ℕ → ℕ) → Write → Write
place_all p c w =
    record {
      descriptor = w.descriptor;
      place = cond (p w.descriptor) (placed_at (c w.descriptor) w.place) w.place;
      bytes = w.bytes;
    }

unfoldable pub settle_all : (ℕ → Bool) → (ℕ → ℕ) → Txn → Txn
settle_all p c x =
    record {
      standing = λ d. cond (p d) (settled (c d) (x.standing d)) (x.standing d);
      dirty = x.dirty;
      writes = map (place_all p c) x.writes;
    }
