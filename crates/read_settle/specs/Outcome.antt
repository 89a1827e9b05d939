-- The state after a call has settled the chosen descriptors of a transaction.
use Rattle.std.specs.Prelude.{Bool, List, ◌≡◌, length, ℕ, Result, Ok, Err, ⊤}
use Rattle.state.specs.declared.Transaction.{Transaction}
use Rattle.state.specs.StoreMeaning.{with_transaction}
use Rattle.state.specs.Layout.{store_of, journal_of, state_length}
use Rattle.state.specs.declared.outcomes.Refusal.{Refusal}
use Rattle.read_settle.specs.Choices.{settled_transaction, settling_of, verdict_of}
use Rattle.read_settle.specs.Records.{placed_records}

-- x is transaction t before; all of its chosen descriptors are settled and its write records placed, or the
-- state is left alone.
pub record SettledIn (chosen : List Bool) (t : ℕ) (x : Transaction) (before after : List ℕ)
    (v : Result ⊤ Refusal) : Type 0 where
  pub verdict : v ≡ verdict_of (settling_of chosen (store_of before).offsets x)
  pub refused : (r : Refusal) → v ≡ Err r → after ≡ before
  pub store : v ≡ Ok tt → store_of after
      ≡ with_transaction t (settled_transaction chosen (store_of before).offsets x) (store_of before)
  pub journal : v ≡ Ok tt → journal_of after
      ≡ placed_records chosen (store_of before).offsets (journal_of before) t x.used.records
  pub long : length after ≡ state_length
