-- One digit, then those that follow.
use Rattle.std.proofs.Common.{sym, ◌∙◌, arith}
use Rattle.text_numerals.specs.{Fields.numeral_of}
use Rattle.text_numerals.proofs.ReadLaws.{number-end, number-other, number_digits}
use Rattle.text_numerals.proofs.number_at.Goals as goal

pub returns-in_err-get : goal.returns-in_err-get
unfolding numeral_of
returns-in_err-get c = let h = c.in_err-get.ensures.lookup in
    rw c.from_residual.ensures (sym (number-end c.args.more c.args.line.now c.args.at (omega arith)))

pub returns-in_err-first : goal.returns-in_err-first
unfolding numeral_of
returns-in_err-first c = let h = c.in_ok-get.ensures.lookup in
    rw c.from_residual-in_err-first.ensures (sym (number-other c.args.more c.args.line.now c.args.at h.3.0
    (rw (h.3.1 0) at c.in_err-first.ensures)))

pub digits_from-requires : goal.digits_from-requires
digits_from-requires c = c.in_ok-first.ensures.1.1

pub returns : goal.returns
returns c = let h = c.in_ok-get.ensures.lookup in let d = c.in_ok-first.ensures in
    c.digits_from.ensures ∙ sym (number_digits _ _ _ h.3.0 (rw (h.3.1 0) at d.0) _ (rw (h.3.1 0) at d.1.0))
