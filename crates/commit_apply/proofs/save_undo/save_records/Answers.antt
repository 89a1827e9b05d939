-- The write records passed are saved.
use native.Mathlib.Omega.{arith}
use Prim.Native.Nat.{◌<◌}
use Rattle.commit_apply.proofs.SaveUndoLaws.{none-preserved, next-lands, next-descriptor, more-preserved}
use Rattle.commit_apply.proofs.save_undo.save_records.Goals as goal

pub loop-k-init : goal.loop-k-init
loop-k-init c = none-preserved c.requires c.told-state

pub landed_record-w-requires : goal.landed_record-w-requires
landed_record-w-requires c = next-lands c.requires c.loop-k.invariant (omega arith)

pub put_record-requires : goal.put_record-requires
put_record-requires c = let next : c.loop-k.k < c.args.used.records = omega arith in (
  omega arith,
  omega (arith, c.requires.records),
  next-descriptor c.requires c.loop-k.invariant next _ c.landed_record-w.ensures,
)

pub loop-k-preserved : goal.loop-k-preserved
loop-k-preserved c =
    more-preserved c.requires c.loop-k.invariant (omega arith) _ c.landed_record-w.ensures _ c.put_record.ensures
