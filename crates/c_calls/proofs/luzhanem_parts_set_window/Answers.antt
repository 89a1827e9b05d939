-- `luzhanem_parts_set_window` meets its contract: the code of the store's call.
use mathlib.Core.Path.{◌∙◌}
use Rattle.c_codes.proofs.CodeLaws.{read_back, answers}
use Rattle.c_calls.proofs.luzhanem_parts_set_window.Goals as goal

pub returns : goal.returns
returns c = answers _ _ _ _ _ _ _ _ _ c.set_window.ensures (read_back _ c.code.type_inv ∙ c.code.ensures)
