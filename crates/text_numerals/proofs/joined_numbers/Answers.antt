-- The first number, then those behind spaces.
use Rattle.std.proofs.Common.{refl, sym, ◌∙◌, arith}
use lib.ListN.{length-set}
use Rattle.text_numerals.specs.Fields.{values_of, number_count}
use Rattle.text_numerals.proofs.ReadLaws.{field-missing, field-number, first-number, no_number}
use Rattle.text_numerals.proofs.joined_numbers.Goals as goal

pub returns-in_err-number : goal.returns-in_err-number
unfolding values_of number_count
returns-in_err-number c = rw c.from_residual.ensures (record {
  means = sym (no_number _ _ (field-missing _ _ _ c.in_err-number.ensures refl));
  within = omega arith;
  same_length = refl;
})

pub returns : goal.returns
returns c = let e = c.numbers_from.ensures in record {
  means = e.means ∙ first-number c.args.buffer.now _ _ _ _ (omega (arith, c.requires))
      (field-number _ _ _ c.in_ok-number.ensures _ refl);
  within = e.within;
  same_length = e.same_length ∙ simp length-set;
}
