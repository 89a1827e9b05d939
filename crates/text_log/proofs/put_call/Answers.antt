-- The line, and its end directly after it.
use mathlib.Core.List.{[], ◌∷◌}
use native.Mathlib.Omega.{arith}
use Rattle.text_numerals.proofs.PutLaws.{then}
use Rattle.text_log.specs.Recorded.{request_line, recorded_line}
use Rattle.text_log.proofs.Texts.{length-request}
use Rattle.text_log.proofs.put_call.Goals as goal

pub put_byte-requires : goal.put_byte-requires
put_byte-requires c = let start = c in omega (
  arith,
  length-request start.args.request start.args.bytes.now start.args.room,
  c.put_request-next.ensures.end,
  start.requires,
)

pub returns : goal.returns
unfolding recorded_line
returns c = let start = c in
    let line = request_line start.args.request start.args.bytes.now start.args.room in
    let l = length-request start.args.request start.args.bytes.now start.args.room in let fits = start.requires in
    then line (10 ∷ []) (omega arith) c.put_request-next.ensures
    c.put_byte.ensures
