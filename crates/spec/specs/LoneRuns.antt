-- A transaction run alone: 01's lone run, a run in isolation.
use Rattle.std.specs.Prelude.{Bool, true, false, List, [], ◌∷◌, ◌++◌, ℕ}
use Rattle.spec.specs.Messages.{Op, Reply}
use Rattle.spec.specs.Items.{result, asked}
use Rattle.spec.specs.Transactions.{Txn}
use Rattle.spec.specs.Steps.{Stepped, refuse, accept, step}
use Rattle.spec.specs.Sightings.{Entry, Committed, entries}

-- What a run in isolation gives: the transaction it ends with, its replies and sightings, and whether it got
-- through all its calls.
pub record Lone : Type 0 where
  pub through : Bool
  pub txn : Txn
  pub replies : List Reply
  pub seen : List Entry

unfoldable pub stopped : Txn → Lone
stopped x = record { through = false; txn = x; replies = []; seen = [] }

unfoldable pub prepend : Reply → List Entry → Lone → Lone
prepend r es l = record { through = l.through; txn = l.txn; replies = r ∷ l.replies; seen = es ++ l.seen }

-- "Run alone, a transaction starts just begun, with no other open, on the files, offsets and setters named.
-- The run stops before the first call that meets one of 6 to 12." [R-17.6] 02, F-8: lengths join "what every
-- lone run starts from" [R-17.6].
unfoldable pub go_on : (Txn → Lone) → Txn → List Entry → Stepped → Lone
go_on rest x es (refuse n) = stopped x
go_on rest x es (accept y answer buffer) = prepend (record { answer = answer; buffer = buffer }) es (rest y)

unfoldable pub lone : (ℕ → ℕ) → Committed → List Op → Txn → Lone
lone file_of c [] x = record { through = true; txn = x; replies = []; seen = [] }
lone file_of c (o ∷ os) x =
    go_on (λ y. lone file_of c os y) x (entries c.setter (asked c.value (step file_of o x)))
    (result c.value (step file_of o x))
