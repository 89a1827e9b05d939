-- `call_order::table::none_waits` meets its contract.
use mathlib.Core.{Path.{sym, ◌∙◌}, Bool.not}
use lib.{ListN.{length, get_or}}
use Prim.Native.Nat.{ℕ, ◌<◌}
use Rattle.std.proofs.Common.{rules, tests}
use Rattle.std.proofs.iter.Serving.{serving}
use Rattle.std.proofs.lemmas.Iterator.{YieldsList-from_slice, Search.all_from_yields_List}
use Rattle.limits.specs.Limits.{transaction_count}
use Rattle.call_order.specs.OrderTable.{waits_in}
use Rattle.call_order.proofs.ListLaws.{all-std, small-each}
use Rattle.call_order.proofs.table.none_waits.Goals as goal

pub all-requires-clause-callable : goal.all-requires-clause-callable
all-requires-clause-callable c =
    let small : (k d : ℕ) → k < length c.iter.result.rest.now → get_or c.iter.result.rest.now k d < transaction_count =
    small-each c.args.list.numbers.now _ (cc) c.args.list.small in
    grind serving

pub returns : goal.returns
returns c = all_from_yields_List (λ t. not (waits_in c.args.state.now t)) _ _ c.all.result c.all.ensures.ran
    (YieldsList-from_slice c.args.list.numbers.now cc) (λ x b q k. search (rules, tests)) ∙ sym (all-std _ c.args.list.numbers.now)
