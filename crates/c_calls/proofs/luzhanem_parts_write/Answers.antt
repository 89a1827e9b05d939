-- `luzhanem_parts_write` meets its contract: the code of the store's call.
use mathlib.Core.Path.{◌∙◌}
use Rattle.c_codes.proofs.CodeLaws.{read_back, answers}
use Rattle.c_calls.proofs.luzhanem_parts_write.Goals as goal

pub returns : goal.returns
returns c = answers _ _ _ _ _ _ _ _ _ c.write.ensures (read_back _ c.code.type_inv ∙ c.code.ensures)
