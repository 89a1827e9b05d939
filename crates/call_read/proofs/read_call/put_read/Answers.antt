-- `read_call::put_read` meets its contract.
-- Where it moves on to.
use mathlib.Core.Path.{◌≡◌, ◌∙◌, ap}
use Prim.Native.Nat.{ℕ}
use Rattle.buffers.specs.Bits.{with_bit}
use Rattle.standings.specs.Table.{after_read}
use Rattle.state.specs.{StoreMeaning.standing_at, Layout.transaction_of}
use Rattle.call_read.proofs.GivingLaws.{read_fits, moved-full, moved-short}
use Rattle.call_read.proofs.read_call.put_read.Goals as goal

pub put_descriptor-requires : goal.put_descriptor-requires
put_descriptor-requires c =
    let a = c.args in let p = c.requires in
    let goes : c.after_read-standing.result ≡ after_read a.extent.length (standing_at (transaction_of a.state.now a.t) a.d) =
    c.after_read-standing.ensures ∙ ap (after_read _) c.standing_at-z.ensures in (p.small, p.few, read_fits p _ goes)

pub returns-then-extent-n : goal.returns-then-extent-n
returns-then-extent-n c =
    let a = c.args in
    let goes : c.after_read-standing.result ≡ after_read a.extent.length (standing_at (transaction_of a.state.now a.t) a.d) =
    c.after_read-standing.ensures ∙ ap (after_read _) c.standing_at-z.ensures in
    moved-short _ _ _ _ _ c.requires _ goes _ c.put_descriptor.ensures c.if-extent-n.true _ _
    c.lengthmarks_at-sighted.ensures (c.added.ensures ∙ ap (λ (f : ℕ). with_bit f c.lengthmarks_at-sighted.result)
    c.from.ensures) _ c.put_lengthmarks.ensures

pub returns-else-extent-n : goal.returns-else-extent-n
returns-else-extent-n c =
    let a = c.args in
    let goes : c.after_read-standing.result ≡ after_read a.extent.length (standing_at (transaction_of a.state.now a.t) a.d) =
    c.after_read-standing.ensures ∙ ap (after_read _) c.standing_at-z.ensures in
    moved-full _ _ _ _ _ c.requires _ goes _ c.put_descriptor.ensures c.if-extent-n.false
