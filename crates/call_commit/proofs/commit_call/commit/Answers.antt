-- `call_commit::commit_call::commit` meets its contract.
use Rattle.std.proofs.lemmas.Result.{err_from_is_err_and}
use borrow.Author.Rules.{rules}
use mathlib.Core.{Bool.{true, false, not}, List.{List, []}, Path.{◌≡◌, refl, sym, ap, ◌∙◌, subst}}
use lib.{ListN.{length, take}, Seq.take_all}
use native.Mathlib.Omega.{arith}
use Prim.Native.Nat.{ℕ, ◌-◌, ◌<◌}
use Rattle.limits.specs.Limits.{transaction_count, buffer_bytes}
use Rattle.windows.{specs.Windows.minute_in, proofs.WindowLaws.minute-most}
use Rattle.state.specs.declared.Transaction.{Transaction}
use Rattle.state.specs.declared.outcomes.Refusal.TheVariants.{NotOpen, AppendPastEnd, FileClosed, NoSuchMinute}
use Rattle.state.specs.{StoreMeaning.transaction, Layout.{store_of}}
use Rattle.state.proofs.LayoutLaws.{length-journal, transaction-of}
use Rattle.admission.{specs.Admission.{lengths_before, admission}, proofs.Laws.{in-range, failed, test-held}}
use Rattle.spec.specs.{Machine.Machine, Calls.{call, admitted, commit_turn}, Promises.machine_of}
use Rattle.refinement.proofs.{Shapes.shaped, Decoded.decoded-open}
use Rattle.refinement.proofs.TurnLaws.{Passed, Entered, gate-refused, gate-passes, is-closed, entered, admitted-closed}
use Rattle.refinement.proofs.TurnLaws.{turned-follows}
use Rattle.commit_apply.{specs.Apply.{places_fit, CanLandIn}, proofs.Landed.can-land}
use Rattle.commit_windows.specs.WindowCheck.{has_byte_for_closed}
use Rattle.call_commit.proofs.CommitRules.{commit-on, commit-no-minute, commit-stale, commit-closed, commit-past}
use Rattle.call_commit.proofs.CommitRules.{commit-granted, stale-follows}
use Rattle.call_commit.proofs.commit_call.commit.Goals.{In_ok-admit, Else-not-minute_in, Else-is_stale, Else-has_byte_for_closed}
use Rattle.call_commit.proofs.commit_call.commit.Goals as goal

-- The part of the logs that is lent on is all of them.
whole : (l : List ℕ) → take (length l - 0) l ≡ l
whole l = take_all (length l - 0) l (omega arith)

-- What tests 1 to 3 tell, once they are passed.
module _ (c : In_ok-admit) where
  abbrev machine : Machine
  machine = machine_of c.args.state.now c.args.files.now c.args.logs.now c.args.marks.now c.args.undo.now

  passed : Passed machine c.args.t
  passed = gate-passes _ machine c.args.t (rw c.of.ensures at c.admit.ensures) c.in_ok-admit.was

-- What the tests after them tell: the transaction is open and the minute one of the day; it is not stale; no
-- file that it has a byte for is closed.
daily : (c : Else-not-minute_in) → minute_in c.args.minute ≡ true
daily c = test-held c.minute_in.ensures (ap not c.if-not-minute_in.false)

here : (c : Else-not-minute_in) → Entered
    (machine_of c.args.state.now c.args.files.now c.args.logs.now c.args.marks.now c.args.undo.now) c.args.t
here c = let a = c.args in
    let p = gate-passes _ (machine_of a.state.now a.files.now a.logs.now a.marks.now a.undo.now) a.t
    (rw c.of.ensures at c.admit.ensures) c.in_ok-admit.was in
    entered p _ refl c.is_begun.ensures (ap not c.if-not-is_begun.false)

fresh : (c : Else-is_stale) → c.args.t < transaction_count → (transaction (store_of c.args.state.now) c.args.t).stale ≡ false
fresh c small = ap (λ (x : Transaction). x.stale) (transaction-of c.args.state.now c.args.t small) ∙ sym c.is_stale.ensures
    ∙ c.if-is_stale.false

unlocked : (c : Else-has_byte_for_closed) → length c.args.logs.now ≡ buffer_bytes
    → has_byte_for_closed c.args.state.now c.args.logs.now c.args.t c.args.minute ≡ false
unlocked c long = sym (c.has_byte_for_closed.ensures c.args.logs.now long) ∙ c.if-has_byte_for_closed.false

pub returns-in_err-admit : goal.returns-in_err-admit
unfolding call admitted admission
returns-in_err-admit c =
    let p = err_from_is_err_and c.from_residual.result c.from_residual.ensures.1 in rw (p.1, p.2) (let a = c.args in
    let m : Machine = machine_of a.state.now a.files.now a.logs.now a.marks.now a.undo.now in
    turned-follows _ [] _ _ _ _ _ _ (gate-refused _ m a.t (rw c.of.ensures at c.admit.ensures) _ _ []
    (commit_turn a.t a.minute m) c.in_err-admit.was))

pub is_begun-requires : goal.is_begun-requires
is_begun-requires c = (passed (goal.at.is_begun-requires c).In_ok-admit).through.small

pub returns-then-not-is_begun : goal.returns-then-not-is_begun
unfolding call
returns-then-not-is_begun c = let s = (goal.at.returns-then-not-is_begun c).In_ok-admit in let p = passed s in
    let a = c.args in let m = machine s in
    let closed = is-closed a.state.now a.t p.through.small c.is_begun.ensures (ap not c.if-not-is_begun.true) in
    turned-follows NotOpen [] _ _ _ _ _ _ (admitted-closed m a.t p.tests closed [] (commit_turn a.t a.minute m))

-- 22
pub returns-then-not-minute_in : goal.returns-then-not-minute_in
returns-then-not-minute_in c = let s = (goal.at.returns-then-not-minute_in c).In_ok-admit in let a = c.args in
    let o = entered (passed s) _ refl c.is_begun.ensures (ap not c.if-not-is_begun.false) in
    turned-follows NoSuchMinute [] _ _ _ _ _ _ (commit-on a.t a.minute (machine s) o.admits ∙ commit-no-minute a.t a.minute
    (machine s) (failed c.minute_in.ensures (ap not c.if-not-minute_in.true)))

-- 13
pub is_stale-requires : goal.is_stale-requires
is_stale-requires c = (here (goal.at.is_stale-requires c).Else-not-minute_in).through.small

pub unmark-requires : goal.unmark-requires
unmark-requires c = let o = here (goal.at.unmark-requires c).Else-not-minute_in in (o.through.small, o.through.lengths.marks)

pub reset-requires : goal.reset-requires
reset-requires c = (here (goal.at.reset-requires c).Else-not-minute_in).through.small

pub returns-then-is_stale : goal.returns-then-is_stale
returns-then-is_stale c = let s = (goal.at.returns-then-is_stale c).Else-not-minute_in in let o = here s in let a = c.args in
    let m = machine (goal.at.returns-then-is_stale c).In_ok-admit in
    let stale = ap (λ (x : Transaction). x.stale) (transaction-of a.state.now a.t o.through.small) ∙ sym c.is_stale.ensures
    ∙ c.if-is_stale.true in
    stale-follows _ _ _ a.marks.now _ _ _ a.t _ c.told-state o.through.small
    (commit-on a.t a.minute m o.admits ∙ commit-stale a.t a.minute m (daily s) stale) c.reset.ensures c.unmark.ensures

-- 21
pub overflow_cast-minute : goal.overflow_cast-minute
overflow_cast-minute c = let l = minute-most _ (daily (goal.at.overflow_cast-minute c).Else-not-minute_in) in search rules

pub has_byte_for_closed-requires : goal.has_byte_for_closed-requires
has_byte_for_closed-requires c = let o = here (goal.at.has_byte_for_closed-requires c).Else-not-minute_in in record {
  ranges = o.through.ranges;
  small = o.through.small;
  begun = ap (λ (x : Transaction). x.begun) (sym (transaction-of c.args.state.now c.args.t o.through.small)) ∙ o.begun;
}

pub returns-then-has_byte_for_closed : goal.returns-then-has_byte_for_closed
returns-then-has_byte_for_closed c = let at = goal.at.returns-then-has_byte_for_closed c in
    let s = at.Else-not-minute_in in let o = here s in let a = c.args in let m = machine at.In_ok-admit in
    let shut = sym (c.has_byte_for_closed.ensures m.logs o.through.lengths.logs) ∙ c.if-has_byte_for_closed.true in
    turned-follows FileClosed [] _ _ _ _ _ _ (commit-on a.t a.minute m o.admits
    ∙ commit-closed a.t a.minute m (daily s) (fresh at.Else-is_stale o.through.small) shut)

-- 12
pub places_fit-requires : goal.places_fit-requires
places_fit-requires c = let o = here (goal.at.places_fit-requires c).Else-not-minute_in in
    (o.through.small, (in-range _ _ o.through.ranges).offsets)

pub returns-then-not-places_fit : goal.returns-then-not-places_fit
returns-then-not-places_fit c = let at = goal.at.returns-then-not-places_fit c in let s = at.Else-not-minute_in in
    let o = here s in let a = c.args in let m = machine at.In_ok-admit in
    let past = ap (places_fit m.store) (transaction-of a.state.now a.t o.through.small)
    ∙ failed c.places_fit.ensures (ap not c.if-not-places_fit.true) in
    turned-follows AppendPastEnd [] _ _ _ _ _ _ (commit-on a.t a.minute m o.admits ∙ commit-past a.t a.minute m (daily s)
    (fresh at.Else-is_stale o.through.small) (unlocked at.Else-has_byte_for_closed o.through.lengths.logs) past)

pub grant-octet-requires : goal.grant-octet-requires
grant-octet-requires c = let at = goal.at.grant-octet-requires c in let o = here at.Else-not-minute_in in
    let m = machine at.In_ok-admit in let r = c.args.state.now in let t = c.args.t in
    let own = transaction-of r t o.through.small in
    let fit = test-held c.places_fit.ensures (ap not c.if-not-places_fit.false) in
    let opened = decoded-open m t (shaped r) (length-journal r) o.through o.begun in
    let lands = can-land m.store m.journal m.files m.logs t (ap (places_fit m.store) own ∙ fit) opened
    (in-range m.store m.journal o.through.ranges) in record {
      files_length = o.through.lengths.files;
      logs_length = ap length (whole c.args.logs.now) ∙ o.through.lengths.logs;
      marks_length = o.through.lengths.marks;
      undo_length = o.through.lengths.undo;
      own = refl;
      fits = fit;
      lands = subst (λ (x : Transaction). CanLandIn r t x.used.records) own lands;
      bytes = subst (λ (x : Transaction). lengths_before m.journal t x.used.records ≡ x.used.bytes) own opened.ranges.total;
    }

pub returns : goal.returns
returns c = let at = goal.at.returns c in let s = at.Else-not-minute_in in let o = here s in let a = c.args in
    let m = machine at.In_ok-admit in
    let fit = ap (places_fit m.store) (transaction-of a.state.now a.t o.through.small)
    ∙ test-held c.places_fit.ensures (ap not c.if-not-places_fit.false) in
    rw (commit-on a.t a.minute m o.admits ∙ commit-granted a.t a.minute m (daily s) (fresh at.Else-is_stale o.through.small)
    (unlocked at.Else-has_byte_for_closed o.through.lengths.logs) fit)
    (rw (whole a.logs.now) at c.grant-octet.ensures)
