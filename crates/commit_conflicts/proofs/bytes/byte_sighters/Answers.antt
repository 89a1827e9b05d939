-- `commit_conflicts::bytes::byte_sighters` meets its contract. The loop's invariant: those who have sighted a byte of the records
-- passed.
use Rattle.commit_apply.{proofs.WriteLaws.can-first}
use Rattle.commit_conflicts.proofs.ConflictLaws.{no_bytes, byte-hits-more}
use Rattle.commit_conflicts.proofs.bytes.byte_sighters.Goals as goal

pub loop-k-init : goal.loop-k-init
loop-k-init c = let a = c.args in
    λ logs e. no_bytes a.state.now a.marks.now a.watched logs a.t

pub landing_at-landed-requires : goal.landing_at-landed-requires
landing_at-landed-requires c = can-first c.requires.0
    c.loop-k-test.true

pub loop-k-preserved : goal.loop-k-preserved
loop-k-preserved c = let landing = c in let l = landing.loop-k in
    let start = landing in let a = start.args in
    λ logs e. byte-hits-more a.state.now a.marks.now a.watched start.requires.0
    landing.loop-k-test.true landing.landing_at-landed.ensures logs e _ _ _ (l.invariant logs e)
    c.markers-marked.ensures c.joined-found.ensures
