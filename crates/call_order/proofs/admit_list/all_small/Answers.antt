-- `call_order::admit_list::all_small` meets its contract.
use mathlib.Core.{Path.{sym, ◌∙◌}}
use lib.{Dec.leb}
use Rattle.std.proofs.Common.{rules, tests}
use Rattle.std.proofs.lemmas.Iterator.{YieldsList-from_slice, Search.all_from_yields_List}
use Rattle.limits.specs.Limits.{last_transaction}
use Rattle.call_order.proofs.ListLaws.{all-std}
use Rattle.call_order.proofs.admit_list.all_small.Goals as goal

pub returns : goal.returns
returns c = all_from_yields_List (λ t. leb t last_transaction) _ _ c.all.result c.all.ensures.ran
    (YieldsList-from_slice c.args.list.now cc) (λ x b q k. search (rules, tests)) ∙ sym (all-std _ c.args.list.now)
