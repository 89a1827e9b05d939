-- `luzhanem_parts_dispatch` meets its contract.
use mathlib.Core.Path.{◌∙◌}
use Rattle.c_codes.proofs.CodeLaws.{read_back}
use Rattle.c_scripts.proofs.RunLaws.{runs}
use Rattle.c_scripts.proofs.luzhanem_parts_dispatch.Goals as goal

pub returns : goal.returns
returns c = runs _ _ _ _ _ _ _ _ _ _ _ _ _ c.scripts_of-s.ensures c.dispatch-d.ensures (read_back _ c.code.type_inv
    ∙ c.code.ensures) c.ends_of-told.ensures
