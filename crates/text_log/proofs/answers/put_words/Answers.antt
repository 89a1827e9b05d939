-- The word of one pair more is put.
use Rattle.std.proofs.Common.{◌≡◌, ◌≤◌, ◌+◌, ◌-◌, ◌*◌, refl, arith, length}
use Rattle.text_log.proofs.AnswerTexts.{none-put, more-put, text-room-left, all-put}
use Rattle.text_log.proofs.answers.put_words.Goals as goal

pub loop-i-init : goal.loop-i-init
loop-i-init c = record { put = none-put _ _ _; same_length = refl }

pub put_spaced-next-requires : goal.put_spaced-next-requires
put_spaced-next-requires c = let l = c.loop-i in let more : 2 ≤ length c.args.bytes.now - 2 * l.i = omega arith in
    omega (arith, text-room-left _ _ c.requires more l.invariant.put, l.invariant.same_length)

pub loop-i-preserved : goal.loop-i-preserved
loop-i-preserved c = let l = c.loop-i in let more : 2 ≤ length c.args.bytes.now - 2 * l.i = omega arith in
    let next : 2 * (l.i + 1) ≡ 2 * l.i + 2 = omega arith in record {
      put = rw next (more-put _ _ _ c.requires more c.word-w.ensures l.invariant.put c.put_spaced-next.ensures);
      same_length = omega arith;
    }

pub returns : goal.returns
returns c = all-put _ _ (omega arith) c.loop-i.invariant.put
