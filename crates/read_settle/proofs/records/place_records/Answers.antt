-- `records::place_records` meets its contract. The loop's invariant: the records below `k` are placed.
use mathlib.Core.Path.{◌≡◌, ap, ◌∙◌}
use native.Mathlib.Omega.{arith}
use Prim.Native.Nat.{◌≤◌, ◌<◌}
use Rattle.limits.specs.Limits.{file_bytes, descriptor_count, record_count}
use Rattle.standings.specs.Table.{place_number}
use Rattle.state.specs.{Journal.write_record_at, Layout.journal_of}
use Rattle.read_settle.proofs.RecordLaws.{after-preserved, after-placed, after-settled, placed-none, next-record}
use Rattle.read_settle.proofs.RecordLaws.{offset-preserved, one_placed, one-preserved}
use Rattle.read_settle.proofs.records.place_records.Goals.{After-record_at-w}
use Rattle.read_settle.proofs.records.place_records.Goals as goal
use Rattle.read_settle.proofs.records.place_records.Goals.{in-After+then-chosen-d, in-After+else-chosen-d, in_default}

-- The record of a turn is as it was before the first.
module _ (c : After-record_at-w) where
  few : c.loop-k.k < record_count
  few = omega (arith, c.requires.few)

  small : c.args.t < 9
  small = omega (arith, c.requires.small)

  looked-at : c.record_at-w.result ≡ write_record_at (journal_of c.args.state.now) c.args.t c.loop-k.k
  looked-at = c.record_at-w.ensures ∙ next-record _ _ _ _ _ c.loop-k.invariant small few

  low-descriptor : c.record_at-w.result.descriptor < descriptor_count
  low-descriptor = rw looked-at (c.requires.descriptors c.loop-k.k (omega arith))

  low-place : place_number c.record_at-w.result.place ≤ file_bytes
  low-place = rw looked-at (c.requires.places c.loop-k.k (omega arith))

pub loop-k-init : goal.loop-k-init
loop-k-init c = placed-none _ _ _ c.requires.long

pub bounds-chosen-d : goal.bounds-chosen-d
bounds-chosen-d c = omega (arith, c.from-d.ensures, low-descriptor (goal.at.bounds-chosen-d c).After-record_at-w)

pub overflow_add-c : goal.overflow_add-c
overflow_add-c c = let s = (goal.at.overflow_add-c c).After-record_at-w in
    let low : c.from-d.result < 16 = omega (arith, c.from-d.ensures, low-descriptor s) in omega (
      arith,
      ap place_number c.in-After.is,
      low-place s,
      c.offset_at-c.ensures,
      offset-preserved _ _ _ _ _ c.loop-k.invariant c.from-d.result,
      c.requires.committed c.from-d.result low,
    )

pub loop-k-preserved : goal.loop-k-preserved
loop-k-preserved c = let s = (goal.at.loop-k-preserved c).After-record_at-w in let so_far = c.loop-k.invariant in
    let w = c.record_at-w.result in
    let state = one-preserved _ _ _ _ _ so_far (small s) (few s) w c.record_at-w.ensures in
    let placed = one_placed _ _ _ _ _ so_far (small s) (few s) w c.record_at-w.ensures in
    elim c.match-w.branch [
      | in-After+then-chosen-d v ↦ placed _ _ (v.state-is ∙ v.put_record.ensures) (after-settled _ _ w _ v.from-d.ensures _
          v.in-After.is v.if-chosen-d.true _ (v.offset_at-c.ensures ∙ offset-preserved _ _ _ _ _ so_far _))
      | in-After+else-chosen-d v ↦ state _ v.state-is (after-preserved _ _ w _ v.from-d.ensures v.if-chosen-d.false)
      | in_default v ↦ state _ v.state-is (after-placed _ _ w _ v.in_default.is)
    ]
