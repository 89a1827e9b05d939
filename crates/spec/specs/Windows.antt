-- Request F-11: which Commits would put a byte into a closed file. (A file's window is
-- windows/specs/Windows.antt.)
use Rattle.std.specs.Prelude.{Bool, ◌&&◌, List, ltb, length, ℕ}
use Rattle.windows.specs.Windows.{Windows, is_closed_at}
use Rattle.spec.specs.Transactions.{Write}
use Rattle.spec.specs.Places.{some_write}

-- "21 when a byte would go to a closed file" [R-9.3]: a write of at least one byte, with a place or without,
-- whose descriptor's file is closed.
unfoldable pub is_for_closed : (ℕ → ℕ) → Windows → ℕ → Write → Bool
is_for_closed file_of windows minute w =
    ltb 0 (length w.bytes) && is_closed_at windows minute (file_of w.descriptor)

unfoldable pub for_closed : (ℕ → ℕ) → Windows → ℕ → List Write → Bool
for_closed file_of windows minute ws = some_write (is_for_closed file_of windows minute) ws
