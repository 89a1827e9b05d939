-- `put_ok_bytes` meets its contract. Assumes nothing.
use mathlib.Core.List.{[], ◌∷◌, ◌++◌}
use native.Mathlib.Omega.{arith}
use Rattle.text_numerals.{specs.Pairs.hex_pairs, proofs.PutLaws.{then, length_pairs}}
use Rattle.text_answers.specs.Printed.{ok}
use Rattle.text_answers.proofs.Laws.{text-bytes-none, bytes-some}
use Rattle.text_answers.proofs.put_ok_bytes.Goals as goal

pub returns-then-bytes-eq0 : goal.returns-then-bytes-eq0
returns-then-bytes-eq0 c = rw (text-bytes-none c.args.bytes.now c.if-bytes-eq0.true)
    c.put_ok-next.ensures

pub returns : goal.returns
returns c = let bs = c.args.bytes.now in
    let fits = c.requires in let l = length_pairs bs in
    rw (bytes-some bs c.if-bytes-eq0.false)
    (then (ok ++ (32 ∷ [])) (hex_pairs bs) (omega arith) (then ok (32 ∷ []) (omega arith)
    c.put_ok-next.ensures
    c.put_byte-next.ensures) c.put_pairs.ensures)
