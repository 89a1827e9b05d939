-- `call_order::best::count_outside` meets its contract.
use mathlib.Core.{Path.{◌≡◌, sym, ◌∙◌}, Bool.not}
use lib.ListN.{length, get_or}
use Prim.Native.Nat.{ℕ, ◌<◌}
use Rattle.std.proofs.Common.{rules}
use Rattle.std.proofs.iter.Serving.{serving}
use Rattle.std.proofs.iter.runs.Made.{chains}
use Rattle.std.specs.List.{count_by}
use Rattle.limits.specs.Limits.{transaction_count}
use Rattle.buffers.specs.Marks.{contains}
use Rattle.call_order.proofs.ListLaws.{count-std, small-each}
use Rattle.call_order.proofs.best.count_outside.Goals as goal

pub count-requires-clause-can : goal.count-requires-clause-can
count-requires-clause-can c =
    let small : (k d : ℕ) → k < length c.filter.result.iter.rest.now
    → get_or c.filter.result.iter.rest.now k d < transaction_count = small-each c.args.list.numbers.now _ (cc) c.args.list.small in
    grind serving

pub returns : goal.returns
returns c =
    let counted : c.count.result ≡ count_by (λ t. not (contains c.args.octet t)) c.args.list.numbers.now = search (rules, chains) in
    counted ∙ sym (count-std _ c.args.list.numbers.now)
