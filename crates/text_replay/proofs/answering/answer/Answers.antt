-- `answer` meets its contract. Assumes nothing.
use mathlib.Core.Path.{refl}
use native.Mathlib.Omega.{arith}
use Rattle.text_replay.proofs.{Laws.{line-part-short, reply-end}, TurnLaws.answered-took}
use Rattle.text_replay.proofs.answering.answer.Goals as goal

pub put_reply-requires : goal.put_reply-requires
put_reply-requires c = let at-perform-line = c in
    let start = at-perform-line in omega (
      arith,
      line-part-short _ _ _ _ c.part.ensures,
      at-perform-line.perform_line-a.ensures.0,
      start.requires.0,
      start.requires.1.printable,
    )

pub put_byte-requires : goal.put_byte-requires
put_byte-requires c = let at-put-reply = c in let at_part = at-put-reply in
    let at-perform-line = at_part in
    let start = at-perform-line in omega (
      arith,
      (reply-end _ _ at-put-reply.put_reply.ensures).1,
      line-part-short _ _ _ _ at_part.part.ensures,
      at-perform-line.perform_line-a.ensures.0,
      start.requires.0,
      start.requires.1.printable,
    )

pub returns : goal.returns
returns c = let at-put-byte = c in let at-put-reply = at-put-byte in
    let at_part = at-put-reply in let at-perform-line = at_part in
    let start = at-perform-line in
    let put = at-put-reply.put_reply.ensures in let next = at-put-byte.put_byte.ensures in
    let s = at-perform-line.perform_line-a.ensures in let w = start.requires.0 in
    let n = line-part-short _ _ _ _ at_part.part.ensures in let e = reply-end _ _ put in
    let room = start.requires.1.printable in (
      record {
        pending = refl;
        at = refl;
        waiting = omega (arith, e.1, n, s.0, w, next.end);
        answer = record { starts = e.0; ends = omega (arith, e.1, n, s.0, w) };
      },
      answered-took _ start.args.p _ _ _ _ _ _ _ _ _ _ _ (omega (arith, e.1, put.end, n, s.0, w, room))
          at_part.part.ensures s.1.0 put next,
    )
