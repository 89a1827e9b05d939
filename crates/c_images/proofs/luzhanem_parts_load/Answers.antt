-- `luzhanem_parts_load` meets its contract: the code of loading.
use mathlib.Core.Path.{◌∙◌}
use Rattle.c_codes.proofs.CodeLaws.{read_back, answers}
use Rattle.c_images.proofs.luzhanem_parts_load.Goals as goal

pub returns : goal.returns
returns c = answers _ _ _ _ _ _ _ _ _ c.load_image.ensures (read_back _ c.code.type_inv ∙ c.code.ensures)
