-- `answers::put_head` meets its contract.
use mathlib.Core.List.{[], ◌∷◌}
use native.Mathlib.Omega.{arith}
use Rattle.text_numerals.proofs.PutLaws.{then}
use Rattle.c_lines.proofs.answers.put_head.Goals as goal

pub returns : goal.returns
returns c =
    then (61 ∷ []) (32 ∷ []) (omega (arith, c.requires))
    c.put_byte-next.ensures c.put_byte.ensures
