-- The line's end is tested as `ends` says.
use Prim.Native.Nat.{ℕ}
use native.Mathlib.Omega.{arith}
use lib.{ListN.drop_of_length-le, Seq.{drop-cons, drop-length}}
use borrow.Author.Rules.{rules}
use Rattle.text_trace.specs.{Grammar.ends, Parsing.{parsed_line, start_of}}
use Rattle.text_trace.proofs.whole_line.Goals as goal

pub returns-then-at-line : goal.returns-then-at-line
unfolding ends parsed_line start_of
returns-then-at-line c = record { means = rw (drop-cons {A = ℕ} _ _ 0 c.if-at-line.true); within = search rules }

pub returns : goal.returns
unfolding ends parsed_line start_of
returns c = record { means = rw (drop_of_length-le _ c.if-at-line.false, drop-length); within = omega arith }
