-- The rule of a call that looks, after the tests that GetFilePointer and Read have in common.
use Rattle.std.specs.declared.result.Result.TheVariants.{Ok, Err}
use mathlib.Core.{Bool.{Bool, true, false, not, ◌&&◌, and-false}, List.List, Path.{◌≡◌, refl, sym, ap, ◌∙◌}}
use borrow.Author.Tests.{leb-true}
use lib.{Dec.leb, ListN.length}
use native.Mathlib.Omega.{arith}
use Prim.Native.Nat.{ℕ, ◌≤◌, ◌<◌}
use Rattle.limits.specs.Limits.{last_descriptor, transaction_count}
use Rattle.state.specs.declared.{outcomes.{Refusal.Refusal}, Transaction.Transaction}
use Rattle.state.specs.{declared.StoreMeaning.StoreMeaning, StoreMeaning.transaction}
use Rattle.state.specs.Layout.{transaction_of, store_of, journal_of, state_length}
use Rattle.state.{proofs.LayoutLaws.{length-journal, transaction-of}, specs.Outcomes.number}
use Rattle.admission.{specs.{Admission.{admission, gate_number}, FirstRefusal.unless}, proofs.Laws.{number-suc, in-range}}
use Rattle.admission.specs.Admission.{Gate}
use Rattle.spec.specs.{Items.done, Messages.{Op, buffer_of, on}, Steps.{refuse, descriptor_of_op, is_read_call, refuses_stale}}
use Rattle.spec.specs.{Machine.{Machine, sizes}, Calls.{Turn, refuse_turn, call}, Promises.{Meets, machine_of, LeftAsFound}}
use Rattle.refinement.proofs.{Shapes.{shaped, eight, put-read}, Decoded.{Opened, decoded-open}}
use Rattle.refinement.proofs.TurnLaws.{LetThrough, turned-follows, program, on-refused-stale, on-refused, shared_with}
use Rattle.refinement.proofs.TurnLaws.{gate-passed, gate-let-through, gate-number, gate-zero, is_open, admission-open}
use Rattle.std.specs.Prelude.{Result, Ok, ⊤}
use Rattle.read_settle.specs.{Choices.settled_transaction}
use Rattle.read_settle.{specs.{Records.Placeable, Outcome.SettledIn}, proofs.Settled.placeable}

-- Refusals 6, 18 and 7; 0 stands for none.
abbrev pub read_refusal : Bool → ℕ → ℕ → ℕ → ℕ
read_refusal stale d n room = unless (leb d last_descriptor) 6 (unless (not stale) 18 (unless (leb n room) 7 0))

-- What passing them tells.
pub record AdmitsRead (stale : Bool) (d n room : ℕ) : Type 0 where
  pub low : d ≤ last_descriptor
  pub fresh : stale ≡ false
  pub roomy : n ≤ room

pub admits-read : (stale : Bool) (d n room : ℕ) → read_refusal stale d n room ≡ 0 → AdmitsRead stale d n room
unfolding unless
admits-read stale d n room e = passed (leb d last_descriptor) stale (leb n room) refl refl refl e
  where
    passed : (a b c : Bool) → leb d last_descriptor ≡ a → stale ≡ b → leb n room ≡ c
        → unless a 6 (unless (not b) 18 (unless c 7 0)) ≡ 0 → AdmitsRead stale d n room
    passed false b c ea eb ec e = absurd (let f : ◌≡◌ {A = ℕ} 6 0 = e in omega arith)
    passed true true c ea eb ec e = absurd (let f : ◌≡◌ {A = ℕ} 18 0 = e in omega arith)
    passed true false false ea eb ec e = absurd (let f : ◌≡◌ {A = ℕ} 7 0 = e in omega arith)
    passed true false true ea eb ec e = record { low = leb-true d last_descriptor ea; fresh = eb; roomy = leb-true n room ec }

-- A call that looks, refused with one of them.
module _ (t : ℕ) (o : Op) (m : Machine) (passes : admission (sizes m) m.store m.journal t ≡ 0) (d n room : ℕ) where
  abbrev stale : Bool
  stale = (transaction m.store t).stale

  pub read-test-refused : is_read_call o ≡ true → descriptor_of_op o ≡ d → (leb d last_descriptor ≡ false → program t o m passes
      ≡ done (refuse 6)) → (leb d last_descriptor ≡ true → leb n room ≡ false → program t o m passes ≡ done (refuse 7))
      → (r : Refusal) → number r ≡ read_refusal stale d n room → call (on t o) m ≡ refuse_turn (number r) (buffer_of o) m
  unfolding unless
  read-test-refused look through low short r e = refused (leb d last_descriptor) stale (leb n room) refl refl refl e
    where
      both : (a b : Bool) → leb d last_descriptor ≡ a → stale ≡ b → refuses_stale stale o ≡ (b && a)
      both a b ea eb = unfold refuses_stale in rw (look, through, ea, eb)

      refused : (a b c : Bool) → leb d last_descriptor ≡ a → stale ≡ b → leb n room ≡ c → number r ≡ unless a 6
          (unless (not b) 18 (unless c 7 0)) → call (on t o) m ≡ refuse_turn (number r) (buffer_of o) m
      refused false b c ea eb ec e = on-refused t o m passes (both false b ea eb ∙ and-false b) 6 (low ea)
          ∙ ap (λ (k : ℕ). refuse_turn k (buffer_of o) m) (sym e)
      refused true true c ea eb ec e = on-refused-stale t o m passes (both true true ea eb)
          ∙ ap (λ (k : ℕ). refuse_turn k (buffer_of o) m) (sym e)
      refused true false false ea eb ec e =
          on-refused t o m passes (both true false ea eb) 7 (short ea ec) ∙ ap (λ (k : ℕ). refuse_turn k (buffer_of o) m) (sym e)
      refused true false true ea eb ec e = absurd (omega (arith, (number-suc r).1, e))

-- ---- what such a call knows once it may look

pub record ReadAdmitted (state files logs marks undo : List ℕ) (t d n room : ℕ) : Type 0 where
  pub long : length state ≡ state_length
  pub passes : admission (sizes (machine_of state files logs marks undo)) (store_of state) (journal_of state) t ≡ 0
  pub through : LetThrough (machine_of state files logs marks undo) t
  pub held : Opened (store_of state) (journal_of state) logs t
  pub may : AdmitsRead (transaction (store_of state) t).stale d n room

-- The gate speaks of the flag that the code has read.
gate-says : (state : List ℕ) (t : ℕ) → t < transaction_count → (stale : Bool) → stale ≡ (transaction_of state t).stale
    → (d n room k : ℕ) → k ≡ read_refusal stale d n room → k ≡ read_refusal (transaction (store_of state) t).stale d n room
gate-says state t small flag own d n room k says = says ∙ ap (λ (b : Bool). read_refusal b d n room) (own
    ∙ ap (λ (y : Transaction). y.stale) (sym (transaction-of state t small)))

read-admitted : (state files logs marks undo : List ℕ) (t d n room : ℕ) → length state ≡ state_length
    → admission (sizes (machine_of state files logs marks undo)) (store_of state) (journal_of state) t ≡ 0
    → LetThrough (machine_of state files logs marks undo) t → (transaction (store_of state) t).begun ≡ true
    → read_refusal (transaction (store_of state) t).stale d n room ≡ 0 → ReadAdmitted state files logs marks undo t d n room
read-admitted state files logs marks undo t d n room long passes through begun may = record {
  long = long;
  passes = passes;
  through = through;
  held = decoded-open (machine_of state files logs marks undo) t (shaped state) (length-journal state) through begun;
  may = admits-read _ _ _ _ may;
}

-- What the code's tests told of a call: the gate let it through, and the transaction is begun.
module _ (state files logs marks undo : List ℕ) (t : ℕ) {gate : Gate}
    (gates : gate_number gate ≡ shared_with (machine_of state files logs marks undo) t 0) (let_in : gate ≡ Ok tt)
    {begun : Bool} (reads : begun ≡ (transaction_of state t).begun) (is_begun : begun ≡ true) where
  abbrev m : Machine
  m = machine_of state files logs marks undo

  through : LetThrough m t
  through = gate-let-through _ m t gates let_in

  begun-is : (transaction m.store t).begun ≡ true
  begun-is = is_open state t through.small reads (ap not is_begun)

  pub tests-admit : admission (sizes m) m.store m.journal t ≡ 0
  tests-admit = admission-open m t (gate-passed _ m t gates let_in) begun-is

  -- and the verdict on whether it may look
  module _ {stale : Bool} (own : stale ≡ (transaction_of state t).stale) (d n room : ℕ) (verdict : Gate)
      (verdicts : gate_number verdict ≡ read_refusal stale d n room) where
    says : gate_number verdict ≡ read_refusal (transaction (store_of state) t).stale d n room
    says = gate-says state t through.small stale own d n room _ verdicts

    pub tests-refuse : (r : Refusal) → verdict ≡ Err r → number r ≡ read_refusal (transaction m.store t).stale d n room
    tests-refuse r e = gate-number _ _ says r e

    pub read-allowed : length state ≡ state_length → verdict ≡ Ok tt → ReadAdmitted state files logs marks undo t d n room
    read-allowed long e = read-admitted state files logs marks undo t d n room long tests-admit through begun-is
        (gate-zero _ _ says e)

-- A call that was refused after settling had left the record alone.
pub turned_left : (r : Refusal) (buffer state files logs marks undo : List ℕ) (w : Turn)
    → w ≡ refuse_turn (number r) buffer (machine_of state files logs marks undo) → (now : List ℕ) → now ≡ state
    → Meets w (Err r) (machine_of now files logs marks undo) buffer × LeftAsFound (Err r) state now
turned_left r buffer state files logs marks undo w e now same = rw same (turned-follows r buffer state files logs marks undo w e)

-- ---- settling, as the code does it, in the terms of the rules

-- The choice is made by the transaction.
abbrev pub SettledAs : (Transaction → List Bool) → ℕ → List ℕ → List ℕ → Result ⊤ Refusal → Type 0
SettledAs choice t state now v = let x = transaction (store_of state) t in SettledIn (choice x) t x state now v

module _ {state files logs marks undo : List ℕ} {t d n room : ℕ} (l : ReadAdmitted state files logs marks undo t d n room) where
  own_is : transaction_of state t ≡ transaction (store_of state) t
  own_is = sym (transaction-of state t l.held.small)

  pub all-placeable : Placeable state t (transaction_of state t).used.records
  all-placeable = placeable state logs t l.held (transaction_of state t).used.records (ap (λ (y : Transaction).
      y.used.records) own_is) l.long (in-range (store_of state) (journal_of state) l.through.ranges).offsets

  pub settled-as : (choice : Transaction → List Bool) (now : List ℕ) (v w : Result ⊤ Refusal) → SettledIn
      (choice (transaction_of state t)) t (transaction_of state t) state now v → v ≡ w → SettledAs choice t state now w
  settled-as choice now v w s ev = rw (own_is, ev) at s

module _ (choice : Transaction → List Bool) {t : ℕ} {state now : List ℕ} (s : SettledAs choice t state now (Ok tt))
    (small : t < transaction_count) where
  pub transaction-now : let x = transaction (store_of state) t in transaction_of now t
      ≡ settled_transaction (choice x) (store_of state).offsets x
  transaction-now = sym (transaction-of now t small) ∙ ap (λ (s : StoreMeaning). transaction s t) (s.store refl)
      ∙ put-read (store_of state) t _ (eight state t small)
