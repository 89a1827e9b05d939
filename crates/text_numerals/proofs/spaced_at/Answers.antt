-- One space, then the number.
use Rattle.std.proofs.Common.{◌≡◌, sym, ◌∙◌, arith, get_or}
use Rattle.text_numerals.specs.Fields.{numeral_of}
use Rattle.text_numerals.proofs.ReadLaws.{spaced-end, spaced-other, spaced-number}
use Rattle.text_numerals.proofs.spaced_at.Goals as goal

pub returns-in_err-get : goal.returns-in_err-get
unfolding numeral_of
returns-in_err-get c = let h = c.in_err-get.ensures.lookup in
    rw c.from_residual.ensures (sym (spaced-end c.args.more c.args.line.now c.args.at (omega arith)))

pub returns-then-branch-ne32 : goal.returns-then-branch-ne32
unfolding numeral_of
returns-then-branch-ne32 c = let h = c.in_ok-get.ensures.lookup in
    sym (spaced-other _ _ _ h.3.0 (λ (e : get_or c.args.line.now c.args.at 0 ≡ 32). c.if-branch-ne32.true (h.3.1 0 ∙ e)))

pub returns : goal.returns
returns c = let h = c.in_ok-get.ensures.lookup in
    c.number_at.ensures ∙ sym (spaced-number _ _ _ h.3.0 (sym (h.3.1 0) ∙ c.if-branch-ne32.false))
