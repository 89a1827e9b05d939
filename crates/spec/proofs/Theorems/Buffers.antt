-- Which calls touch which buffer.
use mathlib.Core.{Bool.{Bool, true, false, cond}, List.{List, [], ◌∷◌, ◌++◌}, Path.{◌≡◌, refl, sym, ap, ◌∙◌, subst⁻¹}}
use borrow.Author.Tests.{eq-eqb}
use lib.{Dec.{leb, eqb}, ListN.{get_or, set, replicate}}
use native.Mathlib.Omega.{arith}
use Prim.Native.Nat.{ℕ, zero, suc, ◌+◌, ◌*◌, ◌≤◌}
use Rattle.limits.specs.Limits.{file_bytes, last_transaction, log_bytes}
use Rattle.buffers.{specs.{Marks.{has_mark, with_mark, without_marks}, Parts.{pasted, tabulate}}, proofs.MarkLaws.has-without-marks}
use Rattle.buffers.proofs.TableLaws.{get_d_tabulate}
use Rattle.windows.specs.Windows.{fresh_window}
use Rattle.standings.specs.Table.{advance, pointer_settles, offset_of}
use Rattle.state.specs.declared.{Descriptor.Descriptor, Transaction.Transaction}
use Rattle.state.specs.StoreMeaning.{transaction, no_descriptor, no_transaction, begun, ended, with_begun, with_transaction}
use Rattle.state.specs.Outcomes.{Said, done_answer, pointer, granted, refused}
use Rattle.admission.{specs.{Admission.admission, FirstRefusal.unless}, proofs.Laws.shared-zero}
use Rattle.spec.specs.Items.{Item, byte, offset, file_length, Values, Prog, done, and_then, result, asked}
use Rattle.spec.specs.Transactions.{Txn, settle, Settled, past, all, settling}
use Rattle.spec.specs.Messages.{Op, seek, write, get_file_pointer, read, buffer_of, Call, begin, on, commit, abort, places}
use Rattle.spec.specs.Messages.{set_window, undo_commit, best_order}
use Rattle.spec.specs.Steps.{Stepped, refuse, accept, check, or_given_back, seek_step, write_step, pointer_step, step}
use Rattle.spec.specs.{Commits.{Setting, commit_refusal}, Machine.{Machine, sizes, file_of, values, txn_of, with_txn}}
use Rattle.spec.specs.Calls.{Turn, answer_with, refuse_turn, passing, fresh, fresh_store, fresh_machine, reset, begin_turn}
use Rattle.spec.specs.Calls.{abort_turn, logged, marked, served, step_turn, after_commit, commit_granted, commit_decided}
use Rattle.spec.specs.Calls.{commit_turn, admitted, call, places_turn, window_turn, undo_turn, order_turn}
use Rattle.spec.specs.{Undo.{saving_undo, undone}, Buffers.{Emptied, Vacant, AllZero, Buffers}}
use Rattle.spec.proofs.{Abstract.Programs.asked-and_then, Theorems.Answers.{IsAnswer, answer-not-refused}}
use Rattle.spec.proofs.Theorems.Refusals.{refused-same, admission-leaving, passing-zero, passing-stale}

-- A buffer that a call's own turn leaves is left by the call.
module _ {A : Type 0} (part : Machine → A) where
  passing-leaves : (k : ℕ) (buffer : List ℕ) (m : Machine) (w : Turn) → part w.after ≡ part m
      → part (passing k buffer m w).after ≡ part m
  unfolding passing refuse_turn
  passing-leaves zero buffer m w e = e
  passing-leaves (suc k) buffer m w e = refl

  -- A Commit that is not granted leaves it, if an ending does.
  refused-leaves : (t n : ℕ) (x : Txn) (ss : List Setting) (m : Machine) → part (reset t ended m) ≡ part m
      → part (commit_decided t x ss m (suc n)).after ≡ part m
  unfolding commit_decided
  refused-leaves t n x ss m e = pick (eqb (suc n) 13)
    where
      pick : (b : Bool) → part (cond b (reset t ended m) m) ≡ part m
      pick true = e
      pick false = refl

served-logs : (t : ℕ) (o : Op) (m : Machine) (is : List Item) (s : Stepped)
    → ((u d : ℕ) (bytes : List ℕ) → on t o ≡ on u (write d bytes) → ⊥) → (served t o m is s).after.logs ≡ m.logs
unfolding served refuse_turn logged
served-logs t (seek d v) m is (refuse n) e = refl
served-logs t (seek d v) m is (accept y a b) e = refl
served-logs t (write d bytes) m is s e = absurd (e t d bytes refl)
served-logs t (get_file_pointer d) m is (refuse n) e = refl
served-logs t (get_file_pointer d) m is (accept y a b) e = refl
served-logs t (read d n buffer) m is (refuse k) e = refl
served-logs t (read d n buffer) m is (accept y a b) e = refl

served-files : (t : ℕ) (o : Op) (m : Machine) (is : List Item) (s : Stepped) → (served t o m is s).after.files ≡ m.files
unfolding served refuse_turn
served-files t o m is (refuse n) = refl
served-files t o m is (accept y a b) = refl

decided-logs : (t : ℕ) (x : Txn) (ss : List Setting) (m : Machine) (n : ℕ) → (commit_decided t x ss m n).after.logs ≡ m.logs
unfolding reset
decided-logs t x ss m zero = unfold commit_decided commit_granted saving_undo in refl
decided-logs t x ss m (suc n) = refused-leaves (λ z. z.logs) t n x ss m refl

call-logs : (c : Call) (m : Machine) → ((t d : ℕ) (bytes : List ℕ) → c ≡ on t (write d bytes) → ⊥) → (call c m).after.logs
    ≡ m.logs
unfolding call admitted begin_turn abort_turn step_turn commit_turn answer_with reset
call-logs (begin t) m e = passing-leaves (λ x. x.logs) _ [] m (begin_turn t m) refl
call-logs (on t o) m e = passing-leaves (λ x. x.logs) _ (buffer_of o) m (step_turn t o m) (served-logs t o m _ _ e)
call-logs (commit t minute) m e = passing-leaves (λ x. x.logs) _ [] m (commit_turn t minute m) (decided-logs t _ _ m _)
call-logs (abort t) m e = passing-leaves (λ x. x.logs) _ [] m (abort_turn t m) refl
call-logs (places t f out) m e = passing-leaves (λ x. x.logs) _ out m (places_turn t f out m) (unfold places_turn in refl)
call-logs (set_window f start end) m e = passing-leaves (λ x. x.logs) _ [] m (window_turn f start end m)
    (unfold window_turn in refl)
call-logs undo_commit m e = passing-leaves (λ x. x.logs) _ [] m (undo_turn m) (unfold undo_turn undone in refl)
call-logs (best_order ts minute budget) m e = passing-leaves (λ x. x.logs) _ [] m (order_turn ts minute budget m)
    (unfold order_turn in refl)

call-files : (c : Call) (m : Machine) → ((t minute : ℕ) → c ≡ commit t minute → ⊥) → (c ≡ undo_commit → ⊥)
    → (call c m).after.files ≡ m.files
unfolding call admitted begin_turn abort_turn step_turn answer_with reset
call-files (begin t) m e k = passing-leaves (λ x. x.files) _ [] m (begin_turn t m) refl
call-files (on t o) m e k = passing-leaves (λ x. x.files) _ (buffer_of o) m (step_turn t o m) (served-files t o m _ _)
call-files (commit t minute) m e k = absurd (e t minute refl)
call-files (abort t) m e k = passing-leaves (λ x. x.files) _ [] m (abort_turn t m) refl
call-files (places t f out) m e k = passing-leaves (λ x. x.files) _ out m (places_turn t f out m) (unfold places_turn in refl)
call-files (set_window f start end) m e k = passing-leaves (λ x. x.files) _ [] m (window_turn f start end m)
    (unfold window_turn in refl)
call-files undo_commit m e k = absurd (k refl)
call-files (best_order ts minute budget) m e k = passing-leaves (λ x. x.files) _ [] m (order_turn ts minute budget m)
    (unfold order_turn in refl)

served-undo : (t : ℕ) (o : Op) (m : Machine) (is : List Item) (s : Stepped) → (served t o m is s).after.undo ≡ m.undo
unfolding served refuse_turn
served-undo t o m is (refuse n) = refl
served-undo t o m is (accept y a b) = refl

call-undo : (c : Call) (m : Machine) → ((t minute : ℕ) → c ≡ commit t minute → ⊥) → (call c m).after.undo ≡ m.undo
unfolding call admitted begin_turn abort_turn step_turn answer_with reset
call-undo (begin t) m e = passing-leaves (λ x. x.undo) _ [] m (begin_turn t m) refl
call-undo (on t o) m e = passing-leaves (λ x. x.undo) _ (buffer_of o) m (step_turn t o m) (served-undo t o m _ _)
call-undo (commit t minute) m e = absurd (e t minute refl)
call-undo (abort t) m e = passing-leaves (λ x. x.undo) _ [] m (abort_turn t m) refl
call-undo (places t f out) m e = passing-leaves (λ x. x.undo) _ out m (places_turn t f out m) (unfold places_turn in refl)
call-undo (set_window f start end) m e = passing-leaves (λ x. x.undo) _ [] m (window_turn f start end m)
    (unfold window_turn in refl)
call-undo undo_commit m e = passing-leaves (λ x. x.undo) _ [] m (undo_turn m) (unfold undo_turn undone in refl)
call-undo (best_order ts minute budget) m e = passing-leaves (λ x. x.undo) _ [] m (order_turn ts minute budget m)
    (unfold order_turn in refl)

-- A settling sights offsets alone, and so does a GetFilePointer.
marked_append : (t : ℕ) (is js : List Item) (marks : List ℕ) → marked t (is ++ js) marks ≡ marked t js (marked t is marks)
unfolding marked
marked_append t [] js marks = refl
marked_append t (byte q ∷ is) js marks = marked_append t is js (with_mark t q marks)
marked_append t (offset d ∷ is) js marks = marked_append t is js marks
marked_append t (file_length f ∷ is) js marks = marked_append t is js marks

module _ (t : ℕ) (v : Values) (marks : List ℕ) where
  settling-marks : (ds : List ℕ) (x : Txn) → marked t (asked v (settling ds x)) marks ≡ marks
  unfolding settling asked marked
  settling-marks [] x = refl
  settling-marks (d ∷ ds) x = pick (leb (v (offset d) + advance (x.standing d)) file_bytes)
      (settling-marks ds (settle d (v (offset d)) x))
    where
      pick : (b : Bool) → marked t (asked v (settling ds (settle d (v (offset d)) x))) marks ≡ marks
          → marked t (asked v (cond b (settling ds (settle d (v (offset d)) x)) (done past))) marks ≡ marks
      pick true e = e
      pick false e = refl

  check-marks : (b : Bool) (n : ℕ) (p : Prog Stepped) → marked t (asked v p) marks ≡ marks
      → marked t (asked v (check b n p)) marks ≡ marks
  unfolding check asked marked
  check-marks true n p e = e
  check-marks false n p e = refl

  done-marks : (s : Stepped) → marked t (asked v (done s)) marks ≡ marks
  done-marks s = unfold asked marked in refl

  step-marks : (file : ℕ → ℕ) (o : Op) (x : Txn) → ((d n : ℕ) (buffer : List ℕ) → o ≡ read d n buffer → ⊥)
      → marked t (asked v (step file o x)) marks ≡ marks
  unfolding step seek_step write_step pointer_step
  step-marks file (seek d n) x e = check-marks _ 6 _ (check-marks _ 8 _ (done-marks _))
  step-marks file (write d bytes) x e =
      check-marks _ 6 _ (check-marks _ 9 _ (check-marks _ 10 _ (check-marks _ 11 _ (done-marks _))))
  step-marks file (get_file_pointer d) x e = check-marks _ 6 _ (settled (cond (pointer_settles (x.standing d)) (d ∷ []) []))
    where
      next : Txn → Prog Stepped
      next y = done (accept y (pointer (offset_of (y.standing d))) [])

      after : (z : Settled) → marked t (asked v (or_given_back next z)) marks ≡ marks
      after past = unfold or_given_back in done-marks _
      after (all y) = unfold or_given_back in done-marks _

      settled : (ds : List ℕ) → marked t (asked v (and_then (settling ds x) (or_given_back next))) marks ≡ marks
      settled ds = ap (λ (is : List Item). marked t is marks) (asked-and_then v (settling ds x) (or_given_back next))
          ∙ marked_append t (asked v (settling ds x)) (asked v (or_given_back next (result v (settling ds x)))) marks
          ∙ ap (marked t (asked v (or_given_back next (result v (settling ds x))))) (settling-marks ds x)
          ∙ after (result v (settling ds x))
  step-marks file (read d n buffer) x e = absurd (e d n buffer refl)

served-marks : (t : ℕ) (o : Op) (m : Machine) (is : List Item) (s : Stepped) → marked t is m.marks ≡ m.marks
    → (served t o m is s).after.marks ≡ m.marks
unfolding served refuse_turn
served-marks t o m is (refuse n) e = refl
served-marks t o m is (accept y a b) e = e

pub on-marks : (t : ℕ) (o : Op) (m : Machine) → ((d n : ℕ) (buffer : List ℕ) → o ≡ read d n buffer → ⊥)
    → (call (on t o) m).after.marks ≡ m.marks
unfolding call admitted step_turn
on-marks t o m e = passing-leaves (λ x. x.marks) _ (buffer_of o) m (step_turn t o m) (served-marks t o m _ _ (step-marks t
    (values m.store m.files) m.marks (file_of m.store) o (txn_of m.store m.journal m.logs t) e))

call-marks : (c : Call) (m : Machine) → ((t d n : ℕ) (buffer : List ℕ) → c ≡ on t (read d n buffer) → ⊥)
    → ((t : ℕ) → c ≡ begin t → ⊥)
    → ((t minute : ℕ) → c ≡ commit t minute → ⊥) → ((t : ℕ) → c ≡ abort t → ⊥) → (call c m).after.marks ≡ m.marks
unfolding call admitted
call-marks (begin t) m r b c a = absurd (b t refl)
call-marks (on t o) m r b c a = on-marks t o m (λ d n buffer e. r t d n buffer (ap (on t) e))
call-marks (commit t minute) m r b c a = absurd (c t minute refl)
call-marks (abort t) m r b c a = absurd (a t refl)
call-marks (places t f out) m r b c a = passing-leaves (λ x. x.marks) _ out m (places_turn t f out m) (unfold places_turn in refl)
call-marks (set_window f start end) m r b c a =
    passing-leaves (λ x. x.marks) _ [] m (window_turn f start end m) (unfold window_turn answer_with in refl)
call-marks undo_commit m r b c a = passing-leaves (λ x. x.marks) _ [] m (undo_turn m) (unfold undo_turn undone answer_with in refl)
call-marks (best_order ts minute budget) m r b c a =
    passing-leaves (λ x. x.marks) _ [] m (order_turn ts minute budget m) (unfold order_turn in refl)

-- The files of descriptors.
served-numbers : (t : ℕ) (o : Op) (m : Machine) (is : List Item) (s : Stepped) → (served t o m is s).after.store.filenumbers
    ≡ m.store.filenumbers
unfolding served refuse_turn with_txn with_transaction
served-numbers t o m is (refuse n) = refl
served-numbers t o m is (accept y a b) = refl

decided-numbers : (t : ℕ) (x : Txn) (ss : List Setting) (m : Machine) (n : ℕ)
    → (commit_decided t x ss m n).after.store.filenumbers ≡ m.store.filenumbers
unfolding reset with_transaction
decided-numbers t x ss m zero = unfold commit_decided commit_granted saving_undo in refl
decided-numbers t x ss m (suc n) = refused-leaves (λ z. z.store.filenumbers) t n x ss m refl

call-numbers : (c : Call) (m : Machine) → (call c m).after.store.filenumbers ≡ m.store.filenumbers
unfolding call admitted begin_turn abort_turn step_turn commit_turn answer_with reset with_transaction
call-numbers (begin t) m = passing-leaves (λ x. x.store.filenumbers) _ [] m (begin_turn t m) refl
call-numbers (on t o) m = passing-leaves (λ x. x.store.filenumbers) _ (buffer_of o) m (step_turn t o m) (served-numbers t o m _ _)
call-numbers (commit t minute) m = passing-leaves (λ x. x.store.filenumbers) _ [] m (commit_turn t minute m)
    (decided-numbers t _ _ m _)
call-numbers (abort t) m = passing-leaves (λ x. x.store.filenumbers) _ [] m (abort_turn t m) refl
call-numbers (places t f out) m = passing-leaves (λ x. x.store.filenumbers) _ out m (places_turn t f out m)
    (unfold places_turn in refl)
call-numbers (set_window f start end) m =
    passing-leaves (λ x. x.store.filenumbers) _ [] m (window_turn f start end m) (unfold window_turn in refl)
call-numbers undo_commit m = passing-leaves (λ x. x.store.filenumbers) _ [] m (undo_turn m) (unfold undo_turn undone in refl)
call-numbers (best_order ts minute budget) m =
    passing-leaves (λ x. x.store.filenumbers) _ [] m (order_turn ts minute budget m) (unfold order_turn in refl)

-- The marks of a transaction that is replaced, or committed.
cleared : (t : ℕ) (marks : List ℕ) (q : ℕ) → has_mark (without_marks t marks) t q ≡ false
cleared t marks q = has-without-marks t t q marks ∙ rw (eq-eqb t t refl)

-- A transaction that has sighted no length, and has nothing in it.
abbrev Blank : Transaction → Type 0
Blank x = (x.lengthmarks ≡ 0) × Emptied x

module _ {A : Type 0} (a : A) where
  all_same : (n i : ℕ) → get_or (replicate n a) i a ≡ a
  all_same zero i = refl
  all_same (suc n) zero = refl
  all_same (suc n) (suc i) = all_same n i

blank_none : Blank no_transaction
blank_none = (refl, record { records = refl; bytes = refl; untouched = λ d. refl; clean = λ d. refl; not_stale = refl })

blank-ended : (is_open : Bool) → Blank (with_begun is_open ended)
blank-ended is_open = unfold ended in let same = all_same no_descriptor 16 in (
  refl,
  record {
    records = refl;
    bytes = refl;
    untouched = λ d. ap (λ (q : Descriptor). q.standing) (same d);
    clean = λ d. ap (λ (q : Descriptor). q.dirty) (same d);
    not_stale = refl;
  },
)

replaced : (t : ℕ) (x : Transaction) (ts : List Transaction) → Blank x → Blank (get_or (set ts t x) t no_transaction)
replaced t x [] e = blank_none
replaced zero x (y ∷ ts) e = e
replaced (suc t) x (y ∷ ts) e = replaced t x ts e

reset-cleared : (t : ℕ) (x : Transaction) (m : Machine) → Blank x → Vacant t (reset t x m)
reset-cleared t x m e = unfold reset with_transaction in let b = replaced t x m.store.transactions e in
    (record { bytes = cleared t m.marks; lengths = b.0 }, b.1)

granted-cleared : (t : ℕ) (x : Txn) (ss : List Setting) (m : Machine) → t ≤ last_transaction
    → Vacant t (commit_granted t x ss m).after
unfolding commit_granted saving_undo after_commit ended
granted-cleared t x ss m l = let e : get_or (tabulate (after_commit t ss m) 8) t no_transaction ≡ ended =
    get_d_tabulate (after_commit t ss m) 8 t no_transaction (omega arith) ∙ rw (eq-eqb t t refl) in
    let b = subst⁻¹ Blank e (blank-ended false) in (record { bytes = cleared t m.marks; lengths = b.0 }, b.1)

-- What Fresh gives.
closed_all : (n t : ℕ) → (get_or (replicate n ended) t no_transaction).begun ≡ false
unfolding ended
closed_all zero t = refl
closed_all (suc n) zero = refl
closed_all (suc n) (suc t) = closed_all n t

fresh-zeros : (numbers logs undo : List ℕ) → AllZero (fresh_machine numbers logs undo)
fresh-zeros numbers logs undo = unfold fresh_machine fresh_store in record {
  bytes = refl;
  marks = refl;
  offsets = refl;
  lengths = refl;
  windows = all_same fresh_window 8;
  closed = closed_all 8;
  nothing_to_undo = refl;
}

-- An answered call's turn is its own.
pub answered-turn : (k : ℕ) (m : Machine) (w : Turn) (a : Said) → IsAnswer a → (passing k [] m w).reply.answer ≡ a
    → passing k [] m w ≡ w
answered-turn k m w a h e = unfold passing in ap (λ (n : ℕ). passing n [] m w) (passing-zero k [] m w a h e)

answered : (k : ℕ) (m : Machine) (w : Turn) (a : Said) → IsAnswer a → (passing k [] m w).reply.answer ≡ a
    → (passing k [] m w).after ≡ w.after
answered k m w a h e = ap (λ (x : Turn). x.after) (answered-turn k m w a h e)

-- Where an accepted Write puts its bytes.
served-written : (t d : ℕ) (bytes : List ℕ) (m : Machine) (is : List Item) (s : Stepped)
    → (served t (write d bytes) m is s).reply.answer ≡ done_answer
    → (served t (write d bytes) m is s).after.logs ≡ pasted m.logs (log_bytes * t + (transaction m.store t).used.bytes) bytes
unfolding served refuse_turn logged
served-written t d bytes m is (refuse n) e = absurd (answer-not-refused done_answer n tt (sym e))
served-written t d bytes m is (accept y a b) e = refl

call-written : (m : Machine) (t d : ℕ) (bytes : List ℕ) → (call (on t (write d bytes)) m).reply.answer ≡ done_answer
    → (call (on t (write d bytes)) m).after.logs ≡ pasted m.logs (log_bytes * t + (transaction m.store t).used.bytes) bytes
unfolding call admitted buffer_of step_turn
call-written m t d bytes e = let z = answered-turn _ m (step_turn t (write d bytes) m) done_answer tt e in
    rw (ap (λ (w : Turn). w.after) z) (served-written t d bytes m _ _ (sym (ap (λ (w : Turn). w.reply.answer) z) ∙ e))

decided-cleared : (t : ℕ) (x : Txn) (ss : List Setting) (m : Machine) (daily stale shut placed : Bool) (n : ℕ)
    → t ≤ last_transaction → (commit_decided t x ss m (commit_refusal daily stale shut placed)).reply.answer ≡ granted n
    → Vacant t (commit_decided t x ss m (commit_refusal daily stale shut placed)).after
unfolding commit_decided commit_refusal
decided-cleared t x ss m false stale shut placed n l e = absurd (answer-not-refused (granted n) 22 tt (sym e))
decided-cleared t x ss m true true shut placed n l e = absurd (answer-not-refused (granted n) 13 tt (sym e))
decided-cleared t x ss m true false true placed n l e = absurd (answer-not-refused (granted n) 21 tt (sym e))
decided-cleared t x ss m true false false true n l e = granted-cleared t x ss m l
decided-cleared t x ss m true false false false n l e = absurd (answer-not-refused (granted n) 12 tt (sym e))

decided-stale : (t : ℕ) (x : Txn) (ss : List Setting) (m : Machine) (daily stale shut placed : Bool)
    → (commit_decided t x ss m (commit_refusal daily stale shut placed)).reply.answer ≡ refused 13
    → Vacant t (commit_decided t x ss m (commit_refusal daily stale shut placed)).after
unfolding commit_decided commit_refusal commit_granted ended
decided-stale t x ss m false stale shut placed e = let z : ◌≡◌ {A = ℕ} 22 13 = refused-same 22 13 e in absurd (omega arith)
decided-stale t x ss m true true shut placed e = reset-cleared t ended m (blank-ended false)
decided-stale t x ss m true false true placed e = let z : ◌≡◌ {A = ℕ} 21 13 = refused-same 21 13 e in absurd (omega arith)
decided-stale t x ss m true false false true e = absurd (answer-not-refused _ 13 tt e)
decided-stale t x ss m true false false false e = let z : ◌≡◌ {A = ℕ} 12 13 = refused-same 12 13 e in absurd (omega arith)

-- A granted Commit is of a number up to 7.
granted-small : (m : Machine) (t minute n : ℕ) → (call (commit t minute) m).reply.answer ≡ granted n → t ≤ last_transaction
granted-small m t minute n e = unfold call admitted admission in
    let z = passing-zero (admission (sizes m) m.store m.journal t) [] m (commit_turn t minute m) (granted n) tt e in
    let a = shared-zero (sizes m) m.store m.journal t (unless (transaction m.store t).begun 4 0) z in
    omega (arith, a.0.small)

pub buffers : (m : Machine) → Buffers m
unfolding call admitted begin_turn abort_turn commit_turn answer_with begun ended fresh fresh_machine fresh_store
buffers m = record {
  logs = λ c. call-logs c m;
  written = call-written m;
  fresh_zeros = λ numbers e. subst⁻¹ AllZero (answered _ m _ done_answer tt e) (fresh-zeros numbers m.logs m.undo);
  fresh_logs = λ numbers. passing-leaves (λ x. x.logs) _ [] m _ refl;
  file_numbers = λ c. call-numbers c m;
  fresh_numbers = λ numbers e. ap (λ (x : Machine). x.store.filenumbers) (answered _ m _ done_answer tt e);
  files = λ c. call-files c m;
  undo = λ c. call-undo c m;
  fresh_undo = λ numbers. passing-leaves (λ x. x.undo) _ [] m _ refl;
  listing = λ t f out. passing-leaves (λ x. x) _ out m (places_turn t f out m) (unfold places_turn in refl);
  marks = λ c. call-marks c m;
  begun =
      λ t e. rw (answered _ m (begin_turn t m) done_answer tt e) (reset-cleared t begun m (unfold begun in blank-ended true));
  aborted = λ t e. rw (answered _ m (abort_turn t m) done_answer tt e) (reset-cleared t ended m (blank-ended false));
  committed = λ t minute n e. let l = granted-small m t minute n e in
      rw (answered _ m (commit_turn t minute m) (granted n) tt e) (decided-cleared t _ _ m _ _ _ _ n l
      (sym (ap (λ (w : Turn). w.reply.answer) (answered-turn _ m (commit_turn t minute m) (granted n) tt e)) ∙ e));
  stale = λ t minute e. let z =
      passing-stale _ m (commit_turn t minute m) (admission-leaving _ m.store m.journal t) e in
      rw (ap (λ (w : Turn). w.after) z) (decided-stale t _ _ m _ _ _ _ (sym (ap (λ (w : Turn). w.reply.answer) z) ∙ e));
}
