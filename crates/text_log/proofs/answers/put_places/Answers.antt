-- ok, and the words of the front.
use mathlib.Core.Path.{◌≡◌}
use native.Mathlib.Omega.{arith}
use Prim.Native.Nat.{◌*◌, min}
use lib.ListN.{length}
use Rattle.text_log.proofs.AnswerTexts.{places-text}
use Rattle.text_log.proofs.answers.put_places.Goals as goal

pub returns : goal.returns
returns c = let start = c in let l = start.args.buffer.now in let n = c.min-end.result in
    let e : n ≡ min (4 * start.args.n) (length l) = omega (
      arith,
      c.min-end.ensures,
      c.from.ensures,
    ) in
    places-text l n (4 * start.args.n) start.requires e
    c.put_ok-next.ensures
    c.put_words.ensures
