-- `put_byte` meets its contract. Assumes nothing.
use Rattle.text_numerals.proofs.PutLaws.{one}
use Rattle.text_numerals.proofs.put_byte.Goals as goal

pub returns : goal.returns
returns c = one _ _ _ c.requires
