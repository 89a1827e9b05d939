-- `luzhanem_parts_get_file_pointer` meets its contract: the code of the store's call on the four parts.
use mathlib.Core.Path.{◌∙◌}
use Rattle.c_codes.proofs.CodeLaws.{read_back}
use Rattle.c_calls.proofs.BufferLaws.{in-block}
use Rattle.c_calls.proofs.luzhanem_parts_get_file_pointer.Goals as goal

pub returns : goal.returns
returns c = in-block _ _ _ _ _ _ _ _ _ c.of.ensures c.get_file_pointer.ensures (read_back _ c.code.type_inv ∙ c.code.ensures)
