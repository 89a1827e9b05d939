-- The four buffers as they lie in a store's block, one behind the other: files, logs, marks, undo log.
use Rattle.std.specs.Prelude.{[], ℕ, ◌+◌, ℤ}
use Rattle.limits.specs.Limits.{file_bytes, buffer_bytes}
use Rattle.buffers.specs.Parts.{cut}
use Rattle.spec.specs.Machine.{Machine}
use Rattle.spec.specs.Calls.{Turn}
use Rattle.spec.specs.Promises.{Lent}
use Rattle.c_codes.specs.Codes.{AnswersAsCode}

-- The n octets from `at` on, at entry and at exit.
abbrev pub part_of : Lent → ℕ → ℕ → Lent
part_of b at n =
    record {
      entry = cut b.entry at n;
      exit = cut b.exit at n;
    }

-- The promise of a call that is lent all four as one array.
abbrev pub AnswersInBlock : (Machine → Turn) → Lent → Lent → ℤ → Type 0
AnswersInBlock rule state buffers r =
    AnswersAsCode rule state (part_of buffers 0 buffer_bytes) (part_of buffers buffer_bytes buffer_bytes)
    (part_of buffers (buffer_bytes + buffer_bytes) buffer_bytes)
    (part_of buffers (buffer_bytes + buffer_bytes + buffer_bytes) file_bytes) r []
