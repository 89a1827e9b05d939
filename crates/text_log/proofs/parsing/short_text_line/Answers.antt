-- The length is tested first.
use native.Mathlib.Omega.{arith}
use lib.ListN.{length, drop, length-drop}
use borrow.Author.{Tests.{lt-leb}}
use Rattle.text_log.proofs.ReadingLaws.{other-entry}
use Rattle.text_log.proofs.parsing.short_text_line.Goals as goal

pub returns-then-line-gt128 : goal.returns-then-line-gt128
returns-then-line-gt128 c = let line = c.args.line.now in
    other-entry _ _ (rw (lt-leb (length (drop 1 line)) 127 (omega (arith, length-drop 1 line, c.if-line-gt128.true))))
