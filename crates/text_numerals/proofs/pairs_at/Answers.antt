-- The bytes in the buffer, and those of the pairs that are left, make those of all pairs.
use Rattle.std.proofs.Common.{◌≡◌, ◌+◌, ◌-◌, ◌*◌, ◌/◌, take, drop, refl, sym, arith, length}
use lib.ListN.{length-set}
use Rattle.text_numerals.specs.{Fields.{values_of, number_count}}
use Rattle.text_numerals.proofs.ReadLaws.{ahead_none, ahead_step, pairs_first, pairs-second, read-pairs-more}
use Rattle.text_numerals.proofs.ReadLaws.{pairs-refused, pairs-read, pair-refused, rest-of}
use Rattle.text_numerals.proofs.pairs_at.Goals as goal

pub returns-then-pairs-ne0 : goal.returns-then-pairs-ne0
unfolding values_of number_count
returns-then-pairs-ne0 c = record {
  means = sym (rw (← rest-of c.args.line.now c.min.result c.args.from c.min.ensures) (pairs-refused _ _ c.then-pairs-ne0.either));
  within = omega arith;
  same_length = refl;
}

pub loop-i-init : goal.loop-i-init
loop-i-init c = record { same_length = refl; same = sym (ahead_none _) }

pub returns-in_err-hex_digit : goal.returns-in_err-hex_digit
unfolding values_of number_count
returns-in_err-hex_digit c = let pairs = take (length c.args.line.now - c.min.result) (drop c.min.result c.args.line.now) in
    rw (c.from_residual.ensures, ← rest-of c.args.line.now c.min.result c.args.from c.min.ensures) (record {
      means = pair-refused _ _ _ _ c.loop-i.invariant.same (pairs_first pairs (2 * c.loop-i.i) (omega arith) c.in_err-hex_digit.ensures);
      within = omega arith;
      same_length = c.loop-i.invariant.same_length;
    })

pub returns-in_err-buffer : goal.returns-in_err-buffer
unfolding values_of number_count
returns-in_err-buffer c = let pairs = take (length c.args.line.now - c.min.result) (drop c.min.result c.args.line.now) in
    rw (c.from_residual-in_err-buffer.ensures, ← rest-of c.args.line.now c.min.result c.args.from c.min.ensures) (record {
      means = pair-refused _ _ _ _ c.loop-i.invariant.same (pairs-second pairs (2 * c.loop-i.i) (omega arith) c.in_err-buffer.ensures);
      within = omega arith;
      same_length = c.loop-i.invariant.same_length;
    })

pub loop-i-preserved : goal.loop-i-preserved
loop-i-preserved c = let l = c.loop-i in let x = c.in_ok-hex_digit.ensures in let y = c.in_ok-buffer.ensures in
    let pairs = take (length c.args.line.now - c.min.result) (drop c.min.result c.args.line.now) in
    let next : 2 * (l.i + 1) ≡ 2 * l.i + 2 = omega arith in
    let more = read-pairs-more pairs (2 * l.i) (omega arith) x.0 y.0 in record {
      same_length = simp length-set l.invariant.same_length;
      same = rw (x.1.0, y.1.0, next) (ahead_step _ l.i _ l.buffer _ _ l.invariant.same (omega arith) more);
    }

pub returns : goal.returns
unfolding values_of number_count
returns c = let l = c.loop-i in let pairs = take (length c.args.line.now - c.min.result) (drop c.min.result c.args.line.now) in
    rw (← rest-of c.args.line.now c.min.result c.args.from c.min.ensures) (record {
      means = pairs-read (length c.args.buffer.now) l.i (length pairs / 2) pairs l.buffer l.invariant.same (omega arith) (omega arith) (omega arith);
      within = omega arith;
      same_length = l.invariant.same_length;
    })
