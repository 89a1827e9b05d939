-- `call_order::admit_list::admit_list` meets its contract.
use Rattle.admission.proofs.Laws.{test-held}
use Rattle.state.specs.Layout.{transaction_of}
use Rattle.call_order.proofs.{Admitted.few-listed, ListLaws.{all-at, small_at}}
use mathlib.Core.Path.{ap}
use mathlib.Core.Bool.{not}
use Rattle.call_order.proofs.admit_list.admit_list.Goals as goal

pub invariant_of-members : goal.invariant_of-members
invariant_of-members c = record {
  few = few-listed c.args.list.now (test-held c.is_list.ensures (ap not c.if-not-is_list.false));
  small = test-held c.all_small.ensures (ap not c.if-not-all_small.false);
}

pub all_ready-requires : goal.all_ready-requires
all_ready-requires c = let list = c.args.list.now in let state = c.args.state.now in λ k l. record {
  ranges = c.requires;
  small = small_at list k (test-held c.all_small.ensures (ap not c.if-not-all_small.false)) l;
  begun = all-at (λ t. (transaction_of state t).begun) list k (test-held c.all_open.ensures (ap not c.if-not-all_open.false)) l;
}
