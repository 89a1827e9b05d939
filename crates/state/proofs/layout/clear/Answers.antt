-- `state::layout::clear` meets its contract: all of the state's numbers are 0.
use Rattle.state.proofs.layout.clear.Goals as goal

pub returns : goal.returns
returns c = cc (c.fill.ensures.after (λ y e. e))
