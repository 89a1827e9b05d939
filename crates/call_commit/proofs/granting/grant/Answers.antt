-- `call_commit::granting::grant` meets its contract.
use mathlib.Core.{Path.{◌≡◌, ap, ◌∙◌, subst}, List.List}
use Prim.Native.Nat.{ℕ}
use Rattle.buffers.specs.Parts.{pasted}
use Rattle.counters.specs.declared.Used.{Used}
use Rattle.state.{specs.{declared.Transaction.Transaction, Layout.{transaction_of, store_of}}}
use Rattle.spec.specs.Calls.{land_files}
use Rattle.commit_apply.specs.{Apply.{with_offsets_of, bytes_set_in, lengths_landed_in, Means}, SaveUndo.{old_bytes_in, GrantPreserved}}
use Rattle.call_commit.proofs.CommitRules.{still-own, granted-follows}
use Rattle.call_commit.proofs.granting.grant.Goals as goal

pub set_offsets-requires : goal.set_offsets-requires
set_offsets-requires c =
    let still = still-own _ _ _ _ _ _ c.requires.lands.small c.save_undo.ensures c.put_lengths.ensures in
    (c.requires.lands.small, rw (still, c.put_lengths.ensures.store, c.save_undo.ensures.store) c.requires.fits)

pub returns : goal.returns
returns c = let a = c.args in let own = c.used_at-used.ensures in
    let still : transaction_of c.put_lengths.new.state a.t ≡ transaction_of a.state.now a.t
    = still-own _ _ _ _ _ _ c.requires.lands.small c.save_undo.ensures c.put_lengths.ensures in
    let saved = c.save_undo.new.state in let longer = c.put_lengths.new.state in let set = c.set_offsets.new.state in
    let old : ℕ → List ℕ = old_bytes_in a.state.now a.files.now a.logs.now a.t in
    granted-follows a.state.now a.files.now a.logs.now a.marks.now a.undo.now a.t _ c.requires _ c.stale_by-octet.ensures _
    (c.lengths_after-lengths.ensures ∙ ap (λ (u : Used). lengths_landed_in a.state.now a.t u.records) own) saved
    (subst (λ (u : Used). GrantPreserved a.state.now saved a.t u) own c.save_undo.ensures) longer c.put_lengths.ensures set
    (subst (λ (x : Transaction). Means longer set (with_offsets_of x (store_of longer))) still c.set_offsets.ensures) _
    c.reset.ensures _ c.put_stale_in.ensures _ (c.land_writes.ensures.0
    ∙ ap (λ (u : Used). land_files (bytes_set_in a.state.now a.logs.now a.t u.records) a.files.now) own) _
    (c.land_writes.ensures.1 ∙ ap (λ (u : Used). pasted a.undo.now 0 (old u.records)) own) _ c.unmark.ensures
