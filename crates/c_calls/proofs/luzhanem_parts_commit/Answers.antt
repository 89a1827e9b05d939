-- `luzhanem_parts_commit` meets its contract: the code of the store's call.
use mathlib.Core.Path.{◌∙◌}
use Rattle.c_codes.proofs.CodeLaws.{read_back, answers}
use Rattle.c_calls.proofs.luzhanem_parts_commit.Goals as goal

pub returns : goal.returns
returns c = answers _ _ _ _ _ _ _ _ _ c.commit.ensures (read_back _ c.code.type_inv ∙ c.code.ensures)
