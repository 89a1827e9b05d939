-- `state::layout::put_files` meets its contract.
use mathlib.Core.Path.{◌≡◌}
use lib.ListN.{get_or}
use Rattle.state.specs.Updates.{with_file_numbers_at}
use Rattle.state.proofs.layout.put_files.Given as goal

abbrev pub invariant-loop-d : goal.invariant-loop-d
invariant-loop-d l = l.state ≡ with_file_numbers_at l.initial.state (λ e. get_or l.numbers e 0) l.d
