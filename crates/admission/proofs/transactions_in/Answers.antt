-- `admission::transactions_in` meets its contract.
use mathlib.Core.Path.{sym, ◌∙◌}
use Rattle.admission.proofs.Laws.{failed, test-held}
use Rattle.admission.proofs.Tests.{none_in, open-decides, open-fails, counters-hold, standings-hold, records-decide}
use Rattle.admission.proofs.Tests.{all-empty}
use mathlib.Core.Bool.{not}
use mathlib.Core.Path.{ap}
use Rattle.admission.proofs.transactions_in.Goals as goal

pub returns-then-none_begun : goal.returns-then-none_begun
returns-then-none_begun c = none_in _ (sym c.none_begun.ensures ∙ c.if-none_begun.true)

pub returns-then-not-open_at_most : goal.returns-then-not-open_at_most
returns-then-not-open_at_most c = open-fails _ (failed (c.open_at_most.ensures ∙ open-decides _) (ap not c.if-not-open_at_most.true))

pub returns-then-all_use_at_most : goal.returns-then-all_use_at_most
returns-then-all_use_at_most c =
    records-decide _ (test-held (c.open_at_most.ensures ∙ open-decides _) (ap not c.if-not-open_at_most.false)) _
    (all-empty _ (sym c.all_use_at_most.ensures ∙ c.if-all_use_at_most.true))

pub journals_in-requires : goal.journals_in-requires
journals_in-requires c =
    let both = test-held (c.open_at_most.ensures ∙ open-decides _) (ap not c.if-not-open_at_most.false) in
    (counters-hold _ both, standings-hold _ both)

pub returns : goal.returns
returns c =
    records-decide _ (test-held (c.open_at_most.ensures ∙ open-decides _) (ap not c.if-not-open_at_most.false)) _ c.journals_in.ensures
