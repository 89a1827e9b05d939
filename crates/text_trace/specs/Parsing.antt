-- What the parser's answers stand for.
use Rattle.std.specs.Prelude.{List, ◌≡◌, length, drop, ℕ, ◌≤◌, None, Some}
use Rattle.std.specs.declared.option.Option.{Option}
use Rattle.text_trace.specs.Grammar.{Line, another, asks, parsed}
use Rattle.text_trace.specs.declared.Asked.{Asked}

-- A request, and where the bytes of a Write start in a line.
unfoldable pub parsed_line : List ℕ → Option Asked → Line
parsed_line line None = another
parsed_line line (Some a) = asks a.request (drop a.start line)

unfoldable pub start_of : Option Asked → ℕ
start_of None = 0
start_of (Some a) = a.start

-- The answer r is what is meant, and a Write's bytes lie in the line.
pub record Reads (line : List ℕ) (r : Option Asked) (meant : Line) : Type 0 where
  pub means : parsed_line line r ≡ meant
  pub within : start_of r ≤ length line

-- The parser answers what the definition says of the line.
abbrev pub Parses : List ℕ → Option Asked → Type 0
Parses line r = Reads line r (parsed line)
