-- `scripts::Scripts::new` meets its contract.
use Rattle.dispatcher.proofs.ScriptLaws.{no-calls}
use Rattle.dispatcher.proofs.scripts.Scripts.new.Goals as goal

pub returns : goal.returns
returns c = no-calls _ _
