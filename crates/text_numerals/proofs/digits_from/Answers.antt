-- The digits still allowed, from the number and place at hand on, make what those from the start make.
use Rattle.std.proofs.Common.{◌≡◌, ◌+◌, ◌-◌, ◌*◌, sym, ap, ◌∙◌, arith}
use Rattle.text_numerals.specs.{Decimal.fitting, Fields.numeral_of}
use Rattle.text_numerals.proofs.ReadLaws.{numeral-fits, digits-all, digits-stop, digits_more, digits-over}
use Rattle.text_numerals.proofs.digits_from.Goals as goal

pub returns-in_default : goal.returns-in_default
unfolding numeral_of
returns-in_default c = let l = c.loop-at in
    sym (l.invariant.same
    ∙ ap fitting (digits-stop c.args.line.now l.at l.value (c.args.from + c.args.more - l.at) (omega arith) c.in_default.ensures)
    ∙ numeral-fits _ _ l.invariant.small)

pub returns-in_err-checked_mul : goal.returns-in_err-checked_mul
unfolding numeral_of
returns-in_err-checked_mul c = let l = c.loop-at in
    let more = digits_more c.args.line.now l.at l.value (c.args.from + c.args.more - l.at) (omega arith) (omega arith) c.in-Some.ensures.0 in
    rw c.from_residual.ensures (sym (l.invariant.same ∙ ap fitting more
    ∙ digits-over _ _ _ (omega (arith, c.in_err-checked_mul.ensures))))

pub returns-in_err-value : goal.returns-in_err-value
unfolding numeral_of
returns-in_err-value c = let l = c.loop-at in let d = c.in-Some.ensures in
    let more = digits_more c.args.line.now l.at l.value (c.args.from + c.args.more - l.at) (omega arith) (omega arith) d.0 in
    rw c.from_residual-in_err-value.ensures (sym (l.invariant.same ∙ ap fitting more
    ∙ digits-over _ _ _ (omega (arith, d.1.0, c.in_ok-checked_mul.ensures, c.in_err-value.ensures))))

pub loop-at-preserved : goal.loop-at-preserved
loop-at-preserved c = let l = c.loop-at in let d = c.in-Some.ensures in
    let more = digits_more c.args.line.now l.at l.value (c.args.from + c.args.more - l.at) (omega arith) (omega arith) d.0 in
    let left : c.args.from + c.args.more - (l.at + 1) ≡ c.args.from + c.args.more - l.at - 1 = omega arith in
    let value : c.in_ok-value.value ≡ l.value * 10 + c.in-Some.d = omega (arith, c.in_ok-checked_mul.ensures, c.in_ok-value.ensures) in
    record {
      small = omega (arith, c.in_ok-value.ensures);
      same = rw (left, value, d.1.0) (l.invariant.same ∙ ap fitting more);
    }

pub returns : goal.returns
unfolding numeral_of
returns c = let l = c.loop-at in
    sym (l.invariant.same ∙ ap fitting (digits-all c.args.line.now c.args.from c.args.more l.at l.value c.min-end.result
    (omega arith) (omega arith) (omega arith) l.auto.at-end (omega arith) (omega arith)) ∙ numeral-fits _ _ l.invariant.small)
