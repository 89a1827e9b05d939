-- All bytes are tested.
use Rattle.std.proofs.Common.{◌≤◌, rules, get_or}
use Rattle.std.specs.Prelude.{IsTrue, ◌↔◌, EachIndex}
use Rattle.text_log.proofs.Printable.{printable-is}
use Rattle.text_log.proofs.is_printable.Goals as goal

pub returns : goal.returns
returns c = let each : IsTrue c.all.result ↔ EachIndex c.args.bytes.now (λ k. (32 ≤ get_or c.args.bytes.now k 0)
    × (get_or c.args.bytes.now k 0 ≤ 126)) = search rules in printable-is _ _ each.0 each.1
