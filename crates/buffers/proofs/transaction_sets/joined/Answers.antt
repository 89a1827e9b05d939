-- `buffers::transaction_sets::joined` meets its contract. Assumes nothing.
use Rattle.buffers.proofs.SetLaws.{contains-or}
use Rattle.buffers.proofs.transaction_sets.joined.Goals as goal

pub returns : goal.returns
returns c = contains-or c.args.a c.args.b
