-- What is tested of each file is whether it is closed.
use Rattle.std.proofs.Common.{rules}
use Rattle.windows.specs.{Windows.{is_closed_at}}
use Rattle.state.specs.{StoreMeaning.window_at, Layout.store_of}
use Rattle.commit_windows.specs.WindowCheck.{closed_files}
use Rattle.commit_windows.proofs.closed_files.Goals as goal

pub returns : goal.returns
unfolding closed_files is_closed_at
returns c = c.those.ensures (is_closed_at (window_at (store_of c.args.state.now)) c.args.minute) (λ f b l e. search rules)
