-- One transaction: its standings, its dirty descriptors and its writes, and how descriptors are settled.
use Rattle.std.specs.Prelude.{Bool, true, false, cond, List, [], ◌∷◌, ◌++◌, map, leb, eqb, ℕ, zero, suc, ◌+◌}
use Rattle.limits.specs.Limits.{file_bytes}
use Rattle.standings.specs.declared.Standing.{Standing}
use Rattle.standings.specs.declared.Standing.TheVariants.{Untouched}
use Rattle.standings.specs.declared.Place.{Place}
use Rattle.standings.specs.declared.Place.TheVariants.{At, After}
use Rattle.spec.specs.Items.{Prog, done, ask, offset}
use Rattle.standings.specs.Table.{advance, settled}

-- A write: through which descriptor, where, and its bytes.
pub record Write : Type 0 where
  pub descriptor : ℕ
  pub place : Place
  pub bytes : List ℕ

abbrev pub through : ℕ → Place → List ℕ → Write
through d p bytes = record { descriptor = d; place = p; bytes = bytes }

-- A transaction's standing for each descriptor; whether the descriptor is dirty: it "made a Seek, Read or
-- Write on it, 0 bytes included" [R-3.5] (02, F-2), so that Commit sets its offset; and its writes in call
-- order.
pub record Txn : Type 0 where
  pub standing : ℕ → Standing
  pub dirty : ℕ → Bool
  pub writes : List Write

-- "Begin opens a transaction with nothing in it, all Untouched." [R-17.3]
unfoldable pub empty : Txn
empty = record { standing = λ d. Untouched; dirty = λ d. false; writes = [] }

-- A function with another value at one number.
module _ {A : Type 0} where
  unfoldable pub put : ℕ → A → (ℕ → A) → ℕ → A
  put d a f e = cond (eqb e d) a (f e)

-- A transaction with other standings, other dirty descriptors, or other writes.
abbrev pub with_standings : (ℕ → Standing) → Txn → Txn
with_standings f x = record { standing = f; dirty = x.dirty; writes = x.writes }

abbrev pub with_dirty : (ℕ → Bool) → Txn → Txn
with_dirty f x = record { standing = x.standing; dirty = f; writes = x.writes }

abbrev pub with_writes : List Write → Txn → Txn
with_writes ws x = record { standing = x.standing; dirty = x.dirty; writes = ws }

-- With another standing for descriptor d.
abbrev pub with_standing : ℕ → Standing → Txn → Txn
with_standing d z x = with_standings (put d z x.standing) x

-- With another standing for descriptor d after an accepted Seek, Read or Write on d, which makes d dirty.
abbrev pub dirtied : ℕ → Standing → Txn → Txn
dirtied d z x = with_dirty (put d true x.dirty) (with_standing d z x)

-- "Each write made while the place was unknown now lies at c plus the advance before it." [R-4.2]
unfoldable pub placed_at : ℕ → Place → Place
placed_at c (At p) = At p
placed_at c (After a) = At (c + a)

unfoldable pub place_write : ℕ → ℕ → Write → Write
place_write d c w =
    through w.descriptor (cond (eqb w.descriptor d) (placed_at c w.place) w.place) w.bytes

-- Descriptor d settled at committed offset c.
unfoldable pub settle : ℕ → ℕ → Txn → Txn
settle d c x = with_writes (map (place_write d c) x.writes) (with_standing d (settled c (x.standing d)) x)

-- The numbers below n that pass a test, in ascending order.
unfoldable pub those : (ℕ → Bool) → ℕ → List ℕ
those p zero = []
those p (suc n) = those p n ++ cond (p n) (n ∷ []) []

-- How settling ends.
pub data Settled : Type 0 where
  past : Settled
  all : Txn → Settled

-- Settles descriptors in the order given, each at the committed offset that it asks for. 12: "settling ..
-- takes committed offset plus advance above 4,096" [R-16.1].
unfoldable pub settling : List ℕ → Txn → Prog Settled
settling [] x = done (all x)
settling (d ∷ ds) x =
    ask (offset d)
    (λ c. cond (leb (c + advance (x.standing d)) file_bytes) (settling ds (settle d c x)) (done past))
