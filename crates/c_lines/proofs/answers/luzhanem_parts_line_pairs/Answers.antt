-- `luzhanem_parts_line_pairs` meets its contract.
use mathlib.Core.Path.{◌≡◌, sym, ap, ◌∙◌}
use native.Mathlib.Omega.{arith}
use borrow.Author.{Tests.{lt-ltb, le-ltb}}
use Rattle.text_answers.specs.Printed.{spelled}
use Rattle.text_log.specs.Answers.{answer_text}
use lib.ListN.{length, take}
use Prim.Native.Nat.{ℕ, min}
use Rattle.text_numerals.proofs.PutLaws.{take_within}
use Rattle.c_lines.specs.Lines.{said_by, answer_line}
use Rattle.c_lines.proofs.answers.luzhanem_parts_line_pairs.Goals as goal

pub returns-then-r-ge-RESULTS : goal.returns-then-r-ge-RESULTS
unfolding said_by answer_line answer_text spelled
returns-then-r-ge-RESULTS c = rw (le-ltb c.args.r 32768 c.if-r-ge-RESULTS.true)
    c.put_refusal.ensures

pub returns : goal.returns
unfolding said_by
returns c = let start = c in let bs = start.args.bytes.now in
    let e : c.min.result ≡ min 256 (length bs) =
    omega (arith, c.min.ensures) in rw (
      lt-ltb start.args.r 32768 c.if-r-ge-RESULTS.false,
      sym (ap (λ (k : ℕ). take k bs) e ∙ take_within 256 bs),
    ) c.put_places.ensures
