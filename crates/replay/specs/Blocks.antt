-- The state in a saved block: numbers of 16 bits, low byte first.
use Rattle.std.specs.Prelude.{List, get_or, ℕ, ◌+◌, ◌*◌}
use Rattle.buffers.specs.Parts.{tabulate}
use Rattle.state.specs.Layout.{state_length}

unfoldable pub block_word_at : List ℕ → ℕ → ℕ
block_word_at bytes i = get_or bytes (2 * i) 0 + get_or bytes (2 * i + 1) 0 * 256

unfoldable pub state_of_block : List ℕ → List ℕ
state_of_block bytes = tabulate (block_word_at bytes) state_length
