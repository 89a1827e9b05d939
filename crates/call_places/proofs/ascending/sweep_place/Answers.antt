-- `call_places::ascending::sweep_place` meets its contract. Assumes nothing.
use Rattle.call_places.proofs.AscendingLaws.{place-begun, place-joined}
use Rattle.call_places.proofs.ascending.sweep_place.Goals as goal

pub returns-then-s-p : goal.returns-then-s-p
returns-then-s-p c = let a = c.args in place-begun a.s a.p a.n c.if-s-p.true

pub returns : goal.returns
returns c = let a = c.args in
    place-joined a.s a.p a.n c.if-s-p.false
