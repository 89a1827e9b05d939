-- Whether the advances passed fit.
use mathlib.Core.{Bool.not, Path.{◌≡◌, ap, ◌∙◌}}
use lib.Dec.{leb}
use Prim.Native.Nat.{ℕ, ◌+◌, ◌≤◌, ◌<◌}
use native.Mathlib.Omega.{arith}
use Rattle.limits.specs.Limits.{file_bytes, descriptor_count}
use Rattle.buffers.proofs.BelowLaws.{none_yet, one_more}
use Rattle.state.specs.{StoreMeaning.standing_at, Layout.{store_of, transaction_of}}
use Rattle.standings.specs.Table.{advance}
use Rattle.commit_apply.proofs.OffsetLaws.{placed-all, room_fits}
use Rattle.commit_apply.proofs.offsets.places_fit.Goals as goal

pub loop-d-init : goal.loop-d-init
loop-d-init c = none_yet _

pub loop-d-preserved : goal.loop-d-preserved
loop-d-preserved c = let few : c.loop-d.d < descriptor_count = omega arith in
    let z = standing_at (transaction_of c.args.state.now c.args.t) c.loop-d.d in let room = c.offset_at-room.ensures in
    let limit : c.offset_at-room.result ≤ file_bytes = omega (arith, c.requires.1 c.loop-d.d few) in
    one_more _ _ _ _ c.loop-d.invariant (ap not c.may_wait_to.ensures
    ∙ room_fits z c.offset_at-room.result (c.from.result + 1) limit (omega (arith, c.from.ensures))
    ∙ ap (λ (n : ℕ). leb (n + advance z) file_bytes) room)

pub returns : goal.returns
returns c = let a = c.args in let e : c.loop-d.d ≡ 16 = omega arith in
    rw e at c.loop-d.invariant ∙ placed-all (store_of a.state.now) (transaction_of a.state.now a.t)
