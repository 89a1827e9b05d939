-- `commit_conflicts::stale_by` meets its contract.
use Rattle.state.specs.Layout.{store_of}
use Rattle.spec.specs.Machine.{values}
use Rattle.commit_conflicts.proofs.ConflictLaws.{none-stale, stale-by-is}
use borrow.Author.Rules.{rules}
use Rattle.commit_conflicts.proofs.stale_by.Goals as goal

pub returns-then-watched-eq0 : goal.returns-then-watched-eq0
returns-then-watched-eq0 c = λ files logs undo size. let a = c.args in
    none-stale a.state.now files logs a.marks.now undo a.t _ c.watched-watched.ensures c.if-watched-eq0.true

pub returns : goal.returns
returns c = λ files logs undo size. let at-watched = c in
    let start = at-watched in let a = start.args in let state = a.state.now in
    let marks = a.marks.now in
    stale-by-is state files logs marks undo a.t _ at-watched.watched-watched.ensures start.requires.0.small _
    c.used_at-used.ensures _ _ _ _ _
    (c.byte_sighters-bytes.ensures logs size)
    (c.offset_sighters-offsets.ensures marks (values (store_of state) files))
    (c.length_sighters-lengths.ensures files logs marks size) c.joined.ensures c.joined-2.ensures
    (search rules)
