-- `call_places::places` meets its contract.
use Rattle.std.proofs.lemmas.Result.{err_from_is_err_and}
use Rattle.std.specs.declared.result.Result.TheVariants.{Ok}
use mathlib.Core.{Bool.{Bool, true, not}, List.List, Path.{◌≡◌, refl, sym, ap, subst, ◌∙◌}}
use Prim.Native.Nat.{ℕ}
use native.Mathlib.Omega.{arith}
use Rattle.counters.specs.declared.Used.{Used}
use Rattle.state.specs.{StoreMeaning.transaction, declared.Transaction.Transaction}
use Rattle.state.specs.Layout.{journal_of, transaction_of}
use Rattle.state.specs.declared.outcomes.Refusal.TheVariants.{NotOpen, NoSuchTarget, NoPlaceYet, ListTooLong}
use Rattle.state.proofs.LayoutLaws.{length-journal, transaction-of}
use Rattle.admission.specs.Admission.{admission, gate_number}
use Rattle.admission.specs.Admission.{Gate}
use Rattle.spec.specs.{Machine.{Machine, sizes}, Calls.{call, admitted, places_turn}, Promises.machine_of}
use Rattle.refinement.proofs.{Shapes.shaped, Decoded.{Opened, decoded-open}}
use Rattle.refinement.proofs.TurnLaws.{shared_with, gate-refused, gate-passed, gate-let-through, is_open, is-closed}
use Rattle.refinement.proofs.TurnLaws.{admission-open, admitted-closed, turned-follows}
use Rattle.read_lookup.{specs.Lookup.{recorded_in, CountedRecords}, proofs.RunLaws.records-counted}
use Rattle.call_places.specs.{PlacesCall.covered_at, Ascending.WithinFile}
use Rattle.call_places.proofs.MachineLaws.{within-file}
use Rattle.call_places.proofs.PlacesRules.{intervals-few, places-no-file, places-waiting, places-too-long, places-meets}
use Rattle.call_places.proofs.places_call.places.Goals as goal

-- What the tests that passed establish, of an open transaction.
record Begun (m : Machine) (t : ℕ) : Type 0 where
  pub admits : admission (sizes m) m.store m.journal t ≡ 0
  pub opened : Opened m.store m.journal m.logs t

module _ (state files logs marks undo : List ℕ) (t : ℕ) where
  -- What the caller lent.
  abbrev lent : Machine
  lent = machine_of state files logs marks undo

  begun : {g : Gate} → gate_number g ≡ shared_with lent t 0 → g ≡ Ok tt → {r : Bool} → r ≡ (transaction_of state t).begun
      → r ≡ true → Begun lent t
  begun {g} says pass reads held = let through = gate-let-through g lent t says pass in
      let b = is_open state t through.small reads (ap not held) in record {
        admits = admission-open lent t (gate-passed g lent t says pass) b;
        opened = decoded-open lent t (shaped state) (length-journal state) through b;
      }

  -- Its counters, as they were read.
  module _ (b : Begun lent t) {used : Used} (read : used ≡ (transaction_of state t).used) where
    used-is : used ≡ (transaction lent.store t).used
    used-is = read ∙ sym (ap (λ (x : Transaction). x.used) (transaction-of state t b.opened.small))

    records-is : used.records ≡ (transaction lent.store t).used.records
    records-is = ap (λ (u : Used). u.records) used-is

    in-counts : CountedRecords (journal_of state) t used
    in-counts = subst (λ (u : Used). CountedRecords lent.journal t u) (sym used-is)
        (records-counted (transaction lent.store t) lent.journal t b.opened.small b.opened.ranges)

    in-file : WithinFile (recorded_in state) t used.records
    in-file = subst (λ (u : Used). WithinFile (recorded_in state) t u.records) (sym used-is)
        (within-file (transaction lent.store t) lent.journal lent.store.filenumbers t b.opened.ranges)

pub returns-in_err-admit : goal.returns-in_err-admit
unfolding call admitted admission
returns-in_err-admit c =
    let p = err_from_is_err_and c.from_residual.result c.from_residual.ensures.1 in rw (p.1, p.2) (
    let a = c.args in
    let m = lent a.state.now a.files.now a.logs.now a.marks.now a.undo.now a.t in let out = a.out.now in
    turned-follows _ out _ _ _ _ _ _ (gate-refused _ m a.t (rw c.of.ensures at c.admit.ensures) _ _ out
    (places_turn a.t a.f out m) c.in_err-admit.was))

pub is_begun-requires : goal.is_begun-requires
is_begun-requires c = let a = c.args in
    let m = lent a.state.now a.files.now a.logs.now a.marks.now a.undo.now a.t in
    (gate-let-through _ m a.t (rw c.of.ensures at c.admit.ensures) c.in_ok-admit.was).small

pub returns-then-not-is_begun : goal.returns-then-not-is_begun
unfolding call
returns-then-not-is_begun c = let a = c.args in
    let m = lent a.state.now a.files.now a.logs.now a.marks.now a.undo.now a.t in let out = a.out.now in
    let passed = gate-passed _ m a.t (rw c.of.ensures at c.admit.ensures) c.in_ok-admit.was in
    let through = gate-let-through _ m a.t (rw c.of.ensures at c.admit.ensures) c.in_ok-admit.was in
    let closed = is-closed a.state.now a.t through.small c.is_begun.ensures (ap not c.if-not-is_begun.true) in
    turned-follows NotOpen out _ _ _ _ _ _ (admitted-closed m a.t passed closed out (places_turn a.t a.f out m))

pub returns-then-f-gt-LAST_FILE : goal.returns-then-f-gt-LAST_FILE
returns-then-f-gt-LAST_FILE c = let a = c.args in
    let m = lent a.state.now a.files.now a.logs.now a.marks.now a.undo.now a.t in let out = a.out.now in
    let b = begun a.state.now a.files.now a.logs.now a.marks.now a.undo.now a.t (rw c.of.ensures at c.admit.ensures)
    c.in_ok-admit.was c.is_begun.ensures c.if-not-is_begun.false in
    turned-follows NoSuchTarget out _ _ _ _ _ _ (places-no-file a.t a.f out m b.admits c.if-f-gt-LAST_FILE.true)

pub used_at-requires : goal.used_at-requires
used_at-requires c = let a = c.args in
    let m = lent a.state.now a.files.now a.logs.now a.marks.now a.undo.now a.t in
    (gate-let-through _ m a.t (rw c.of.ensures at c.admit.ensures) c.in_ok-admit.was).small

pub invariant_of-records : goal.invariant_of-records
invariant_of-records c = let a = c.args in
    let b = begun a.state.now a.files.now a.logs.now a.marks.now a.undo.now a.t (rw c.of.ensures at c.admit.ensures)
    c.in_ok-admit.was c.is_begun.ensures c.if-not-is_begun.false in
    record { counted = in-counts a.state.now a.files.now a.logs.now a.marks.now a.undo.now a.t b c.used_at.ensures }

pub returns-then-is_waiting : goal.returns-then-is_waiting
returns-then-is_waiting c = let a = c.args in
    let m = lent a.state.now a.files.now a.logs.now a.marks.now a.undo.now a.t in let out = a.out.now in
    let b = begun a.state.now a.files.now a.logs.now a.marks.now a.undo.now a.t (rw c.of.ensures at c.admit.ensures)
    c.in_ok-admit.was c.is_begun.ensures c.if-not-is_begun.false in
    let records = records-is a.state.now a.files.now a.logs.now a.marks.now a.undo.now a.t b c.used_at.ensures in
    turned-follows NoPlaceYet out _ _ _ _ _ _ (places-waiting a.t a.f out m b.admits c.if-f-gt-LAST_FILE.false _ records
    (sym c.is_waiting.ensures ∙ c.if-is_waiting.true))

pub invariant_of-pass : goal.invariant_of-pass
invariant_of-pass c = let a = c.args in
    let b = begun a.state.now a.files.now a.logs.now a.marks.now a.undo.now a.t (rw c.of.ensures at c.admit.ensures)
    c.in_ok-admit.was c.is_begun.ensures c.if-not-is_begun.false in record {
      within = in-file a.state.now a.files.now a.logs.now a.marks.now a.undo.now a.t b c.used_at.ensures;
      swept = c.sweep_records.ensures;
    }

pub returns-then-out-n : goal.returns-then-out-n
returns-then-out-n c = let a = c.args in
    let m = lent a.state.now a.files.now a.logs.now a.marks.now a.undo.now a.t in let out = a.out.now in
    let b = begun a.state.now a.files.now a.logs.now a.marks.now a.undo.now a.t (rw c.of.ensures at c.admit.ensures)
    c.in_ok-admit.was c.is_begun.ensures c.if-not-is_begun.false in
    let records = records-is a.state.now a.files.now a.logs.now a.marks.now a.undo.now a.t b c.used_at.ensures in
    turned-follows ListTooLong out _ _ _ _ _ _ (places-too-long a.t a.f out m b.admits c.if-f-gt-LAST_FILE.false _ records
    b.opened (sym c.is_waiting.ensures ∙ c.if-is_waiting.false) (omega (arith, c.if-out-n.true, c.count-n.ensures)))

pub write_intervals-requires : goal.write_intervals-requires
write_intervals-requires c = record { room = omega (arith, c.if-out-n.false, c.count-n.ensures) }

pub overflow_cast-result : goal.overflow_cast-result
overflow_cast-result c = let a = c.args in omega (
  arith,
  c.count-n.ensures,
  intervals-few (covered_at (recorded_in a.state.now) a.t c.used_at.result.records a.f),
)

pub returns : goal.returns
returns c = let a = c.args in
    let m = lent a.state.now a.files.now a.logs.now a.marks.now a.undo.now a.t in let out = a.out.now in
    let b = begun a.state.now a.files.now a.logs.now a.marks.now a.undo.now a.t (rw c.of.ensures at c.admit.ensures)
    c.in_ok-admit.was c.is_begun.ensures c.if-not-is_begun.false in
    let records = records-is a.state.now a.files.now a.logs.now a.marks.now a.undo.now a.t b c.used_at.ensures in (
      rw c.write_intervals.ensures (places-meets a.t a.f out m b.admits c.if-f-gt-LAST_FILE.false _ records b.opened
          (sym c.is_waiting.ensures ∙ c.if-is_waiting.false) (omega (arith, c.if-out-n.false, c.count-n.ensures)) _
          c.count-n.ensures),
      λ r e h. refl,
    )
