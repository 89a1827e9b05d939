-- `read_settle::settle_one` meets its contract.
use mathlib.Core.Path.{◌≡◌, sym, ap, ◌∙◌}
use native.Mathlib.Omega.{arith}
use lib.ListN.{get_or}
use Prim.Native.Nat.{◌+◌, ◌-◌, ◌≤◌}
use Rattle.limits.specs.Limits.{file_bytes}
use Rattle.standings.specs.Table.{advance}
use Rattle.state.specs.{declared.Descriptor.Descriptor, StoreMeaning.standing_at, Layout.{transaction_of, store_of}}
use Rattle.state.proofs.LayoutLaws.{descriptor-of}
use Rattle.read_settle.proofs.{ChoiceLaws.alone-chosen, OneSettled.{one-past, one-fits, one-settled}}
use Rattle.read_settle.proofs.settle_one.Goals.{After-advance}
use Rattle.read_settle.proofs.settle_one.Goals as goal

-- What was read of the descriptor.
module _ (c : After-advance) where
  low : c.offset_at-c.result ≤ file_bytes
  low = rw c.offset_at-c.ensures (c.requires.ready.committed c.args.d c.requires.few)

  advances : c.advance.result ≡ advance (standing_at (transaction_of c.args.state.now c.args.t) c.args.d)
  advances = c.advance.ensures ∙ ap (λ (q : Descriptor). advance q.standing) (c.descriptor_at-q.ensures
      ∙ sym (descriptor-of c.args.state.now c.args.t c.args.d c.requires.few))

  -- Where the test passed, it stays within the file.
  within : c.advance.result ≤ file_bytes - c.offset_at-c.result → get_or (store_of c.args.state.now).offsets c.args.d 0
      + advance (standing_at (transaction_of c.args.state.now c.args.t) c.args.d) ≤ file_bytes
  within h = omega (arith, h, advances, c.offset_at-c.ensures, low)

pub returns-then-c-advance : goal.returns-then-c-advance
returns-then-c-advance c = let s = (goal.at.returns-then-c-advance c).After-advance in
    one-past _ _ _ c.requires.ready c.requires.few (omega (arith, c.if-c-advance.true, advances s, c.offset_at-c.ensures, low s))

pub put_descriptor-requires : goal.put_descriptor-requires
put_descriptor-requires c = let s = (goal.at.put_descriptor-requires c).After-advance in (
  c.requires.ready.small,
  c.requires.few,
  one-fits _ _ _ c.requires.ready c.requires.few (within s c.if-c-advance.false) _ _ _ c.descriptor_at-q.ensures
      c.offset_at-c.ensures c.settled.ensures,
)

pub returns : goal.returns
returns c = let s = (goal.at.returns c).After-advance in
    one-settled _ _ _ c.requires.ready c.requires.few (within s c.if-c-advance.false) _ _ _ c.descriptor_at-q.ensures
    c.offset_at-c.ensures c.settled.ensures _ _ (rw (alone-chosen c.args.d c.requires.few, c.used_at-used.ensures) at
    c.place_records.ensures) c.put_descriptor.ensures
