-- The octets so far, and those of the numbers that are left, make those of all numbers.
use Rattle.std.proofs.Common.{◌≡◌, ◌≤◌, refl, sym, ap, ◌∙◌, arith, length, take}
use lib.ListN.{length-set}
use Rattle.text_numerals.specs.{Decimal.prepended, Fields.{values_of, number_count}}
use Rattle.text_numerals.proofs.ReadLaws.{ahead_none, ahead_step, ahead-all}
use Rattle.text_log.proofs.ReadingLaws.{octets-end, octets-over, octets-more}
use Rattle.text_log.proofs.parsing.octets_of.Goals as goal

pub loop-i-init : goal.loop-i-init
loop-i-init c = record { same_length = refl; same = sym (ahead_none _) }

pub returns-then-n-gt255 : goal.returns-then-n-gt255
unfolding values_of number_count prepended
returns-then-n-gt255 c = let l = c.loop-i in record {
  means = sym (l.invariant.same ∙ ap (prepended (take l.i l.bytes)) (octets-over c.args.numbers.now l.i (omega arith) c.if-n-gt255.true));
  within = omega arith;
  same_length = l.invariant.same_length;
}

pub loop-i-preserved : goal.loop-i-preserved
loop-i-preserved c = let l = c.loop-i in record {
  same_length = simp length-set l.invariant.same_length;
  same = ahead_step _ l.i _ l.bytes _ _ l.invariant.same (omega (arith, l.invariant.same_length))
      (octets-more c.args.numbers.now l.i (omega arith) c.if-n-gt255.false);
}

pub returns : goal.returns
unfolding values_of number_count
returns c = let l = c.loop-i in let all : l.i ≡ length c.args.numbers.now = omega arith in
    let past : length c.args.numbers.now ≤ l.i = omega arith in rw (← all) (record {
      means = sym (l.invariant.same ∙ ap (prepended (take l.i l.bytes)) (octets-end c.args.numbers.now l.i past)
          ∙ ahead-all (take l.i l.bytes));
      within = omega (arith, l.invariant.same_length);
      same_length = l.invariant.same_length;
    })
