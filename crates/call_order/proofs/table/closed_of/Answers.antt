-- What is tested of each transaction is whether it has a byte for a closed file.
use mathlib.Core.Bool.{◌&&◌}
use Rattle.std.proofs.Common.{rules}
use Rattle.state.specs.Layout.{transaction_of}
use Rattle.commit_windows.specs.WindowCheck.{has_byte_for_closed}
use Rattle.call_order.proofs.table.closed_of.Goals as goal

pub returns : goal.returns
returns c logs long = c.those.ensures (λ t. (transaction_of c.args.state.now t).begun
    && has_byte_for_closed c.args.state.now logs t c.args.minute) (λ t b l e. search rules)
