-- Refuse or go on; and the tests and sums by index.
use Rattle.std.specs.Prelude.{Bool, true, false, cond, ℕ, zero, suc}
unfoldable pub use Rattle.buffers.specs.Below.{below, some_below, sum}

-- Goes on where the test holds, otherwise refuses with the number: of a call on the store, of a transaction's
-- step and of the reference model.
module _ {A : Type 0} where
  abbrev pub guarded : (ℕ → A) → Bool → ℕ → A → A
  guarded refuse ok n next = cond ok next (refuse n)

-- Where refusals are numbers, 0 stands for none.
abbrev pub is_none : ℕ → Bool
is_none zero = true
is_none (suc n) = false

-- The number of a refusal when a test fails, otherwise what the later tests say; 0 stands for none.
unfoldable pub unless : Bool → ℕ → ℕ → ℕ
unless ok n later = guarded (λ k. k) ok n later
