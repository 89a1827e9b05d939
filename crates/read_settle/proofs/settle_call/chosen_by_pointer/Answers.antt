-- `settle_call::chosen_by_pointer` meets its contract: one choice among sixteen.
use mathlib.Core.{Bool.{Bool, false}, Path.{ap, ◌∙◌}}
use lib.ListN.{set, replicate}
use Rattle.standings.specs.Table.{pointer_settles}
use Rattle.read_settle.specs.Choices.{settles_for_pointer, chosen_by_pointer}
use Rattle.read_settle.proofs.ChoiceLaws.{one-chosen}
use Rattle.read_settle.proofs.settle_call.chosen_by_pointer.Goals as goal

pub returns : goal.returns
unfolding settles_for_pointer chosen_by_pointer
returns c = let d = c.args.d in
    ap (λ (b : Bool). set (replicate 16 false) d b) (c.pointer_settles.ensures
    ∙ ap pointer_settles c.standing_at-standing.ensures) ∙ one-chosen d _ c.requires.1
