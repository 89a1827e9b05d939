-- `commit_apply::writes::lands_at` meets its contract, by cases on the place.
use Rattle.spec.specs.Commits.{lands_at}
use Rattle.commit_apply.proofs.writes.lands_at.Goals as goal

pub returns-in-At : goal.returns-in-At
returns-in-At c = unfold lands_at in rw c.in-At.is c.from.ensures

pub returns-in-After : goal.returns-in-After
returns-in-After c = unfold lands_at in rw c.in-After.is (rw c.from-in-After.ensures)
