-- `call_order::table::waits` meets its contract.
use mathlib.Core.Path.{refl, sym, ◌∙◌}
use native.Mathlib.Omega.{arith}
use Rattle.std.proofs.Common.{rules, tests}
use Rattle.std.proofs.lemmas.Iterator.{YieldsList-from_range, Search.any_from_yields_List}
use Rattle.limits.specs.Limits.{descriptor_count}
use Rattle.standings.specs.Table.{may_wait}
use Rattle.state.specs.{StoreMeaning.standing_at, Layout.transaction_of}
use Rattle.call_order.specs.OrderTable.{waits_in}
use Rattle.call_order.proofs.ListLaws.{some-std}
use Rattle.call_order.proofs.table.waits.Goals as goal

pub returns : goal.returns
unfolding waits_in
returns c = any_from_yields_List (λ d. may_wait (standing_at (transaction_of c.args.state.now c.args.t) d)) _ _
    c.any.result c.any.ensures.ran (YieldsList-from_range 0 descriptor_count descriptor_count refl (omega arith))
    (λ x b q k. search (rules, tests)) ∙ sym (some-std _ descriptor_count)
