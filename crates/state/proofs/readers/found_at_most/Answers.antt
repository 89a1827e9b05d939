-- `state::readers::found_at_most` meets its contract.
use mathlib.Core.Path.{◌∙◌}
use Rattle.state.proofs.ReaderLaws.{found-decide}
use Rattle.state.proofs.readers.found_at_most.Goals as goal

pub returns : goal.returns
returns c = c.at_most.ensures ∙ found-decide _ _ c.told-state
