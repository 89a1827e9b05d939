-- The numbers in the buffer, and those that the rest of the line may still have, make what was asked for.
use Rattle.std.proofs.Common.{◌≡◌, ◌+◌, ◌-◌, refl, sym, ap, ◌∙◌, arith, take}
use lib.ListN.{length-set}
use Rattle.text_numerals.specs.{Decimal.{prepended}, Fields.{values_of, number_count}}
use Rattle.text_numerals.proofs.ReadLaws.{field-missing, field-number, ahead-all, ahead_step, numbers-end, numbers-full}
use Rattle.text_numerals.proofs.ReadLaws.{numbers-missing, numbers_more}
use Rattle.text_numerals.proofs.numbers_from.Goals as goal

pub returns-then-n-first : goal.returns-then-n-first
unfolding values_of number_count prepended
returns-then-n-first c = let l = c.loop-at in record {
  means = sym (l.invariant.same
      ∙ ap (prepended (take l.n l.buffer)) (numbers-full _ _ _ (omega arith) c.loop-at-test.true));
  within = omega arith;
  same_length = l.invariant.same_length;
}

pub returns-in_err-number : goal.returns-in_err-number
unfolding values_of number_count prepended
returns-in_err-number c = let l = c.loop-at in
    let e = field-missing _ _ _ c.in_err-number.ensures refl in rw c.from_residual.ensures (record {
      means = sym (l.invariant.same ∙ ap (prepended (take l.n l.buffer)) (numbers-missing _ _ _
          (omega (arith, c.if-n-first.false)) c.loop-at-test.true e));
      within = omega arith;
      same_length = l.invariant.same_length;
    })

pub loop-at-preserved : goal.loop-at-preserved
loop-at-preserved c = let l = c.loop-at in
    let some = c.if-n-first.false in
    let less : c.args.first + c.args.most - (l.n + 1) ≡ c.args.first + c.args.most - l.n - 1 = omega arith in
    let e = field-number _ _ _ c.in_ok-number.ensures _ refl in record {
      within = omega (arith, l.invariant.within, some);
      same_length = simp length-set l.invariant.same_length;
      same = rw less (ahead_step _ l.n _ l.buffer _ _ l.invariant.same (omega (arith, l.invariant.within, some))
          (numbers_more _ _ _ (omega (arith, some)) c.loop-at-test.true _ _ e));
    }

pub returns : goal.returns
unfolding values_of number_count
returns c = let l = c.loop-at in record {
  means = sym (l.invariant.same ∙ ap (prepended (take l.n l.buffer)) (numbers-end _ _ _ c.loop-at-test.false)
      ∙ ahead-all (take l.n l.buffer));
  within = omega (arith, l.invariant.within);
  same_length = l.invariant.same_length;
}
