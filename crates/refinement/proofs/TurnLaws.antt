-- The rules of a call after each of its tests: refused, or let through.
use Rattle.std.specs.declared.result.Result.TheVariants.{Ok, Err}
use mathlib.Core.{Bool.{Bool, true, false, cond, not}, List.{List, []}, Path.{◌≡◌, refl, sym, ap, ◌∙◌}}
use native.Mathlib.Omega.{arith}
use Prim.Native.Nat.{ℕ, ◌<◌}
use Rattle.limits.specs.Limits.{transaction_count}
use Rattle.state.specs.declared.{StoreMeaning.StoreMeaning, outcomes.{Refusal.Refusal, Answer.TheVariants.{Done}}}
use Rattle.state.specs.{declared.Transaction.Transaction, StoreMeaning.{transaction, with_transaction}}
use Rattle.state.{specs.Layout.{transaction_of, store_of}, proofs.LayoutLaws.transaction-of}
use Rattle.state.specs.Outcomes.{Said, done_answer, number, said}
use Rattle.buffers.specs.Marks.{without_marks}
use Rattle.admission.specs.Admission.{Gate}
use Rattle.admission.specs.{Admission.{shared, admission, admission_of_begin, gate_number}, FirstRefusal.unless}
use Rattle.admission.proofs.Laws.{failed, test-held, number-suc, Admitted, shared-zero, shared-passed, shared-refused}
use Rattle.spec.specs.{Items.{Prog, done, result, asked}, Transactions.Txn, Messages.{Op, buffer_of, on}}
use Rattle.spec.specs.Steps.{Stepped, refuse, accept, check, step, refuses_stale, refused_stale}
use Rattle.spec.specs.Machine.{Machine, with_store, with_journal, with_logs, with_marking, sizes, file_of, values, txn_of, with_txn}
use Rattle.spec.specs.Machine.{journalled}
use Rattle.spec.specs.Calls.{Turn, answer_with, refuse_turn, reset, passing, admitted, marked, logged, served, step_turn, call}
use Rattle.spec.specs.Promises.{Meets, machine_of, LeftAsFound}

-- ---- the shared tests

-- What the tests that passed tell of what the caller lent.
abbrev pub LetThrough : Machine → ℕ → Type 0
LetThrough m t = Admitted (sizes m) m.store m.journal t

-- The shared tests 1 to 3, before what comes after them.
abbrev pub shared_with : Machine → ℕ → ℕ → ℕ
shared_with m t later = shared (sizes m) m.store m.journal t later

pub passing-number : (r : Refusal) (buffer : List ℕ) (m : Machine) (next : Turn) → passing (number r) buffer m next
    ≡ refuse_turn (number r) buffer m
passing-number r buffer m next = unfold passing in rw (number-suc r).1

module _ (g : Gate) (n : ℕ) (says : gate_number g ≡ n) where
  pub gate-number : (r : Refusal) → g ≡ Err r → number r ≡ n
  gate-number r e = unfold gate_number in sym (ap gate_number e) ∙ says

  pub gate-zero : g ≡ Ok tt → n ≡ 0
  gate-zero e = unfold gate_number in sym says ∙ ap gate_number e

  pub gate-turned : (r : Refusal) (buffer : List ℕ) (m : Machine) (next : Turn) → g ≡ Err r
      → passing n buffer m next ≡ refuse_turn (number r) buffer m
  gate-turned r buffer m next e =
      ap (λ (k : ℕ). passing k buffer m next) (sym (gate-number r e)) ∙ passing-number r buffer m next

-- A call of transaction t that tests 1 to 3 have let through.
pub record Passed (m : Machine) (t : ℕ) : Type 0 where
  pub tests : shared_with m t 0 ≡ 0
  pub through : LetThrough m t

-- One of an open transaction.
pub record Entered (m : Machine) (t : ℕ) : Type 0 where
  pub through : LetThrough m t
  pub begun : (transaction m.store t).begun ≡ true
  pub admits : admission (sizes m) m.store m.journal t ≡ 0

-- What the gate says of tests 1 to 3 holds before any later test.
module _ (g : Gate) (m : Machine) (t : ℕ) (says : gate_number g ≡ shared_with m t 0) where
  pub gate-refused : (later : ℕ) (r : Refusal) (buffer : List ℕ) (next : Turn) → g ≡ Err r
      → passing (shared_with m t later) buffer m next ≡ refuse_turn (number r) buffer m
  gate-refused later r buffer next e = unfold gate_number in let n = number-suc r in
      ap (λ (k : ℕ). passing k buffer m next) (shared-refused (sizes m) m.store m.journal t later (number r)
      (sym (ap gate_number e) ∙ says) (let q = n.1 in omega arith)) ∙ passing-number r buffer m next

  pub gate-passed : g ≡ Ok tt → shared_with m t 0 ≡ 0
  gate-passed e = unfold gate_number in sym says ∙ ap gate_number e

  pub gate-let-through : g ≡ Ok tt → LetThrough m t
  gate-let-through e = (shared-zero (sizes m) m.store m.journal t 0 (gate-passed e)).0

  pub gate-passes : g ≡ Ok tt → Passed m t
  gate-passes e = record { tests = gate-passed e; through = gate-let-through e }

-- Then the call's own test, open or not.
module _ (m : Machine) (t : ℕ) (passes : shared_with m t 0 ≡ 0) where
  pub admission-open : (transaction m.store t).begun ≡ true → admission (sizes m) m.store m.journal t ≡ 0
  admission-open e = unfold admission unless in shared-passed (sizes m) m.store m.journal t _ passes ∙ rw e

  admission-closed : (transaction m.store t).begun ≡ false → admission (sizes m) m.store m.journal t ≡ 4
  admission-closed e = unfold admission unless in shared-passed (sizes m) m.store m.journal t _ passes ∙ rw e

  pub begin-of-open : (transaction m.store t).begun ≡ true → admission_of_begin (sizes m) m.store m.journal t ≡ 5
  begin-of-open e = unfold admission_of_begin unless in shared-passed (sizes m) m.store m.journal t _ passes ∙ rw e

  pub begin-of-closed : (transaction m.store t).begun ≡ false → admission_of_begin (sizes m) m.store m.journal t ≡ 0
  begin-of-closed e = unfold admission_of_begin unless in shared-passed (sizes m) m.store m.journal t _ passes ∙ rw e

  pub admitted-closed : (transaction m.store t).begun ≡ false → (buffer : List ℕ) (next : Turn) → admitted t buffer m next
      ≡ refuse_turn 4 buffer m
  admitted-closed e buffer next = unfold admitted passing in ap (λ (n : ℕ). passing n buffer m next) (admission-closed e)

-- Whether the transaction is open, as the code reads it.
module _ (state : List ℕ) (t : ℕ) (small : t < transaction_count) {r : Bool} (reads : r ≡ (transaction_of state t).begun) where
  pub is_open : not r ≡ false → (transaction (store_of state) t).begun ≡ true
  is_open h = ap (λ (x : Transaction). x.begun) (transaction-of state t small) ∙ test-held reads h

  pub is-closed : not r ≡ true → (transaction (store_of state) t).begun ≡ false
  is-closed h = ap (λ (x : Transaction). x.begun) (transaction-of state t small) ∙ failed reads h

pub entered : {m : Machine} {t : ℕ} → Passed m t → (state : List ℕ) → m.store ≡ store_of state
    → {r : Bool} → r ≡ (transaction_of state t).begun → not r ≡ false → Entered m t
entered {m} {t} p state e reads h =
    let begun = ap (λ (s : StoreMeaning). (transaction s t).begun) e ∙ is_open state t p.through.small reads h in
    record { through = p.through; begun = begun; admits = admission-open m t p.tests begun }

pub passing-on : (n : ℕ) (buffer : List ℕ) (m : Machine) (next : Turn) → n ≡ 0 → passing n buffer m next ≡ next
passing-on n buffer m next e = unfold passing in rw e

-- A call that was refused and left the state alone, where the rules refuse it.
pub turned-follows : (r : Refusal) (buffer state files logs marks undo : List ℕ) (w : Turn)
    → w ≡ refuse_turn (number r) buffer (machine_of state files logs marks undo)
    → Meets w (Err r) (machine_of state files logs marks undo) buffer × LeftAsFound (Err r) state state
turned-follows r buffer state files logs marks undo w e = unfold refuse_turn said in
    (rw e (record { outcome = refl; machine = refl; reader = refl }), λ q f n. refl)

-- A call that answers plainly is no refusal.
pub done-follows : (before after : List ℕ) → LeftAsFound (Ok Done) before after
done-follows before after r e n = cc

-- ---- Begin and Abort: a transaction replaced, its marks cleared

pub reset-meets : (t : ℕ) (x : Transaction) (m : Machine) (w : Turn) → w ≡ answer_with done_answer (reset t x m)
    → (s : StoreMeaning) (marks : List ℕ) → s ≡ with_transaction t x m.store → marks ≡ without_marks t m.marks
    → Meets w (Ok Done) (with_store s (with_marking marks m)) []
reset-meets t x m w e s marks f g = unfold answer_with reset said in rw (e, f) (record {
  outcome = refl;
  machine = ap (λ (l : List ℕ). with_store (with_transaction t x m.store) (with_marking l m)) g;
  reader = refl;
})

-- ---- one transaction's step

pub check-held : (b : Bool) (n : ℕ) (p : Prog Stepped) → b ≡ true → check b n p ≡ p
check-held b n p e = unfold check in rw e

pub check-failed : (b : Bool) (n : ℕ) (p : Prog Stepped) → b ≡ false → check b n p ≡ done (refuse n)
check-failed b n p e = unfold check in rw e

module _ (t : ℕ) (o : Op) (m : Machine) (passes : admission (sizes m) m.store m.journal t ≡ 0) where
  abbrev pub program : Prog Stepped
  program = step (file_of m.store) o (txn_of m.store m.journal m.logs t)

  abbrev stale : Bool
  stale = (transaction m.store t).stale

  on-turn : call (on t o) m ≡ served t o m (asked (values m.store m.files) program)
      (refused_stale stale o (result (values m.store m.files) program))
  unfolding call admitted step_turn
  on-turn = passing-on (admission (sizes m) m.store m.journal t) (buffer_of o) m (step_turn t o m) passes

  -- A read call of a stale transaction.
  pub on-refused-stale : refuses_stale stale o ≡ true → call (on t o) m ≡ refuse_turn 18 (buffer_of o) m
  on-refused-stale e = unfold refused_stale served in let v = values m.store m.files in
      on-turn ∙ ap (λ (b : Bool). served t o m (asked v program) (cond b (refuse 18) (result v program))) e

  -- One that is not refused with 18.
  module _ (heard : refuses_stale stale o ≡ false) where
    pub on-stepped : call (on t o) m ≡ served t o m (asked (values m.store m.files) program)
        (result (values m.store m.files) program)
    on-stepped = unfold refused_stale in let v = values m.store m.files in
        on-turn ∙ ap (λ (b : Bool). served t o m (asked v program) (cond b (refuse 18) (result v program))) heard

    -- A step that asks for nothing and refuses, or accepts.
    pub on-refused : (n : ℕ) → program ≡ done (refuse n) → call (on t o) m ≡ refuse_turn n (buffer_of o) m
    unfolding served result
    on-refused n e = on-stepped ∙ ap (λ (p : Prog Stepped). served t o m (asked (values m.store m.files) p)
        (result (values m.store m.files) p)) e

    pub on-accepted : (y : Txn) (a : Said) (buffer : List ℕ) → program ≡ done (accept y a buffer)
        → call (on t o) m ≡ record {
          reply = record { answer = a; buffer = buffer };
          after = with_store (with_txn t y [] m.store)
              (with_journal (journalled t y.writes m.journal) (with_logs (logged t o m.store m.logs) m));
        }
    unfolding served result asked marked
    on-accepted y a buffer e = on-stepped ∙ ap (λ (p : Prog Stepped). served t o m (asked (values m.store m.files) p)
        (result (values m.store m.files) p)) e
