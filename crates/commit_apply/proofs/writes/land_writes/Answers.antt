-- The files are those of the records landed so far, and the bytes that these landed on stand at the front of
-- the undo buffer.
use mathlib.Core.{List.List, Path.{◌≡◌, ap, ◌∙◌}}
use lib.ListN.{length}
use Prim.Native.Nat.{ℕ, ◌+◌, ◌*◌, ◌≤◌, ◌<◌}
use native.Mathlib.Omega.{arith}
use Rattle.limits.specs.Limits.{file_bytes, log_bytes}
use Rattle.buffers.{specs.Parts.{cut, file_part}, proofs.PartLaws.{length_cut, cut-cut, length-file}}
use Rattle.commit_apply.specs.declared.writes.LandedWrite.{LandedWrite}
use Rattle.commit_apply.proofs.WriteLaws.{can-first, data-in, land-more, start-more, none-landed, none-started}
use Rattle.commit_apply.proofs.SaveUndoLaws.{none_old, old-more}
use Rattle.commit_apply.proofs.writes.land_writes.Goals.{After-part}
use Rattle.commit_apply.proofs.writes.land_writes.Goals as goal

-- The bytes of the write lie in its log, and those that it lands on in the files.
module _ (c : After-part) where
  abbrev w : LandedWrite
  w = c.landing_at-w.result

  in-log : c.loop-k.done + w.length ≤ log_bytes
  in-log = let next : c.loop-k.k < c.args.used.records = omega arith in
      omega (arith, data-in c.requires.0 next, c.landing_at-w.ensures.length, c.loop-k.invariant.1)

  in-logs : log_bytes * c.args.t + c.loop-k.done + w.length ≤ length c.args.logs.now
  in-logs = omega (arith, in-log, c.requires.0.small, c.requires.2)

  in-file : file_bytes * w.file + w.place + w.length ≤ length c.loop-k.files
  in-file = let lands = c.landing_at-w.ensures in omega (arith, lands.file_in, lands.inside, c.loop-k.invariant.2)

  old-part : c.part.result.now ≡ cut c.loop-k.files (file_bytes * w.file + w.place) w.length
  old-part = unfold file_part in c.part.ensures ∙ ap (λ (l : List ℕ). cut l w.place w.length) c.file_part-file.ensures
      ∙ cut-cut c.loop-k.files (file_bytes * w.file) file_bytes w.place w.length c.landing_at-w.ensures.inside

pub loop-k-init : goal.loop-k-init
loop-k-init c = let pre = c.requires in
    (none-landed _ _ _ _ _ _, none-started _ _, pre.1, none_old _ _ _ _ _, pre.3)

pub landing_at-w-requires : goal.landing_at-w-requires
landing_at-w-requires c = can-first c.requires.0 (omega arith)

pub part-requires : goal.part-requires
part-requires c = let lands = c.landing_at-w.ensures in
    let e = ap length c.file_part-file.ensures ∙ length-file _ _ c.loop-k.invariant.2 lands.file_in in
    omega (arith, lands.inside)

pub copy_to-requires : goal.copy_to-requires
copy_to-requires c = let s = (goal.at.copy_to-requires c).After-part in
    let e = ap length (old-part s) ∙ length_cut _ _ _ (in-file s) in omega (arith, in-log s, c.loop-k.invariant.4)

pub overflow_add-log : goal.overflow_add-log
overflow_add-log c = omega (arith, in-log (goal.at.overflow_add-log c).After-part, c.requires.0.small)

pub part-requires-in-loop-k : goal.part-requires-in-loop-k
part-requires-in-loop-k c = in-logs (goal.at.part-requires-in-loop-k c).After-part

pub land-requires : goal.land-requires
land-requires c = let lands = c.landing_at-w.ensures in
    let e = ap length c.part-in-loop-k.ensures ∙ length_cut _ _ _ (in-logs (goal.at.land-requires c).After-part) in
    (c.loop-k.invariant.2, (lands.file_in, omega (arith, lands.inside)))

pub overflow_add-done : goal.overflow_add-done
overflow_add-done c = omega (arith, in-log (goal.at.overflow_add-done c).After-part)

pub loop-k-preserved : goal.loop-k-preserved
loop-k-preserved c = let s = (goal.at.loop-k-preserved c).After-part in let a = c.args in let l = c.loop-k in
    let lands = c.landing_at-w.ensures in let next = start-more lands a.logs.now _ l.invariant.1 in (
      land-more lands a.logs.now _ l.invariant.1 a.files.now l.files _ _ l.invariant.0 (in-logs s) (in-file s)
          c.part-in-loop-k.ensures c.land.ensures,
      omega arith,
      c.land.auto.files ∙ l.invariant.2,
      old-more lands a.logs.now _ l.invariant.1 (in-logs s) l.invariant.3 (in-file s)
          (omega (arith, in-log s, c.requires.3)) _ _ _ _ (old-part s) c.copy_to.ensures c.part-in-loop-k.ensures c.land.ensures,
      c.copy_to.auto.dst ∙ l.invariant.4,
    )
