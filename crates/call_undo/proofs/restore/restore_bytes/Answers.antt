-- The first k writes, put back into the files as they are, give what all writes give, put back into the files
-- as they were lent.
use native.Mathlib.Omega.{arith}
use mathlib.Core.{List.List, Path.{◌≡◌, sym, ap, ◌∙◌}}
use lib.ListN.{length}
use Prim.Native.Nat.{ℕ, suc, ◌+◌, ◌-◌, ◌≤◌, ◌<◌}
use Rattle.buffers.proofs.PartLaws.{length_cut}
use Rattle.counters.specs.declared.Used.{Used}
use Rattle.state.specs.{declared.StoreMeaning.StoreMeaning, Journal.last_grant, Layout.{store_of, journal_of}}
use Rattle.admission.specs.Admission.{lengths_before}
use Rattle.spec_undo.specs.OldBytes.{Span, restored}
use Rattle.call_undo.proofs.RestoreLaws.{first_spans, all-spans, none_left, lengths-next, back-next, grant-in}
use Rattle.call_undo.proofs.RestoreLaws.{restored-descriptor-in, inside, lengths-in}
use Rattle.call_undo.proofs.restore.restore_bytes.Goals.{After-landed_at-w}
use Rattle.call_undo.proofs.restore.restore_bytes.Goals as goal

-- The write that is put back, and its part of the undo log.
module _ (c : After-landed_at-w) where
  abbrev store : StoreMeaning
  store = store_of c.args.state.now

  abbrev journal : List ℕ
  journal = journal_of c.args.state.now

  abbrev turn : ℕ
  turn = c.loop-k.k - 1

  next : suc turn ≡ c.loop-k.k
  next = omega (arith, c.loop-k-test.true)

  earlier : turn < store.undo.used.records
  earlier = omega (arith, next, ap (λ (u : Used). u.records) c.undo_used-used.ensures)

  starts : c.loop-k.end ≡ lengths_before journal last_grant turn + c.landed_at-w.result.length
  starts = c.loop-k.invariant.0 ∙ lengths-next store journal turn _ next _ c.landed_at-w.ensures

  within : let n = c.landed_at-w.result.length in c.loop-k.end - n + n ≤ length c.args.undo.now
  within = let most = lengths-in store journal c.requires.0 c.requires.1 c.loop-k.k
      (omega (arith, ap (λ (u : Used). u.records) c.undo_used-used.ensures)) in
      omega (arith, starts, c.loop-k.invariant.0, c.requires.3)

pub loop-k-init : goal.loop-k-init
loop-k-init c = let a = c.args in let s = store_of a.state.now in let j = journal_of a.state.now in
    let used = c.undo_used-used.ensures in
    let records : c.undo_used-used.result.records ≡ s.undo.used.records = ap (λ (u : Used). u.records) used in
    let total = (grant-in s j c.requires.0 c.requires.1).total in (
      c.from-end.ensures ∙ ap (λ (u : Used). u.bytes) used ∙ sym total ∙ ap (lengths_before j last_grant) (sym records),
      ap (λ (ss : List Span). restored ss a.undo.now a.files.now) (ap (first_spans s j) records ∙ all-spans s j),
      c.requires.2,
    )

pub landed_at-w-requires : goal.landed_at-w-requires
landed_at-w-requires c = let s = store_of c.args.state.now in let j = journal_of c.args.state.now in
    let turn : ℕ = c.loop-k.k - 1 in
    let earlier : turn < s.undo.used.records =
    omega (arith, c.loop-k-test.true, ap (λ (u : Used). u.records) c.undo_used-used.ensures) in
    let few = (grant-in s j c.requires.0 c.requires.1).records in
    (omega (arith, earlier), restored-descriptor-in s j c.requires.0 c.requires.1 turn earlier)

pub overflow_sub-end : goal.overflow_sub-end
overflow_sub-end c = omega (arith, starts (goal.at.overflow_sub-end c).After-landed_at-w)

pub part-requires : goal.part-requires
part-requires c = within (goal.at.part-requires c).After-landed_at-w

pub land-requires : goal.land-requires
land-requires c = let s = (goal.at.land-requires c).After-landed_at-w in
    let e = ap length c.part.ensures ∙ length_cut _ _ _ (within s) in
    let lands = inside (store s) (journal s) c.requires.0 c.requires.1 (turn s) (earlier s) _ c.landed_at-w.ensures in
    (c.loop-k.invariant.2, (lands.0, omega (arith, lands.1)))

pub loop-k-preserved : goal.loop-k-preserved
loop-k-preserved c = let s = (goal.at.loop-k-preserved c).After-landed_at-w in let l = c.loop-k in
    let start : l.end - c.landed_at-w.result.length ≡ lengths_before (journal s) last_grant (turn s)
    = omega (arith, starts s) in (
      start,
      back-next (store s) (journal s) (turn s) _ (next s) _ c.landed_at-w.ensures _ start c.args.undo.now l.files _ _
          c.part.ensures c.land.ensures ∙ l.invariant.1,
      c.land.auto.files ∙ l.invariant.2,
    )

pub returns : goal.returns
returns c = let l = c.loop-k in let a = c.args in
    let s = store_of a.state.now in let j = journal_of a.state.now in
    let done : l.k ≡ 0 = omega (arith, c.loop-k-test.false) in
    sym (none_left s j a.undo.now l.files)
    ∙ ap (λ (n : ℕ). restored (first_spans s j n) a.undo.now l.files) (sym done) ∙ l.invariant.1
