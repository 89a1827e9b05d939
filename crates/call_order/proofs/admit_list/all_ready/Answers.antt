-- `call_order::admit_list::all_ready` meets its contract.
use mathlib.Core.{Path.{◌≡◌, sym, subst, ◌∙◌}}
use lib.{ListN.{length, get_or}}
use Prim.Native.Nat.{ℕ, ◌<◌}
use Rattle.std.proofs.Common.{rules, tests}
use Rattle.std.proofs.iter.{Serving.serving, runs.Made.zero_default}
use Rattle.std.proofs.lemmas.Iterator.{YieldsList-from_slice, Search.all_from_yields_List}
use Rattle.commit_windows.specs.WindowCheck.{OpenIn}
use Rattle.call_order.specs.OrderTable.{is_ready, AllOpen}
use Rattle.call_order.proofs.ListLaws.{all-std}
use Rattle.call_order.proofs.admit_list.all_ready.Goals as goal

pub all-requires-clause-callable : goal.all-requires-clause-callable
all-requires-clause-callable c =
    let same : c.iter.result.rest.now ≡ c.args.list.numbers.now = cc in
    let opened : (k d : ℕ) → k < length c.iter.result.rest.now → OpenIn c.args.state.now (get_or c.iter.result.rest.now k d) =
    λ k d l. rw (zero_default c.iter.result.rest.now k d l)
    (subst (AllOpen c.args.state.now) (sym same) c.requires k l) in
    grind serving

pub returns : goal.returns
returns c = all_from_yields_List (is_ready c.args.state.now) _ _ c.all.result c.all.ensures.ran
    (YieldsList-from_slice c.args.list.numbers.now cc) (λ x b q k. search (rules, tests)) ∙ sym (all-std _ c.args.list.numbers.now)
