-- A sound store meets neither 1 nor 2.
use Rattle.limits.specs.Limits.{last_file, last_transaction}
use Rattle.windows.specs.Windows.{minute_in}
use Rattle.spec.specs.{Transactions.Txn, Places.{places_refusal, places_reply, places_of}, Items.Item}
use Rattle.spec.specs.Messages.{Op, buffer_of, places, set_window, undo_commit, best_order, Call, begin, on, commit, abort}
use Rattle.spec.specs.{OrderReply.{Asked, order_refusal, order_replied, order_reply}, Steps.{Stepped, refuse, accept}}
use Rattle.spec.specs.{Commits.{Setting, commit_refusal}, Machine.{Machine, file_of, values, txn_of}}
use Rattle.spec.specs.Calls.{Turn, answer_with, refuse_turn, passing, begin_turn, abort_turn, served, step_turn, commit_granted}
use Rattle.spec.specs.Calls.{commit_decided, commit_turn, admitted, call, places_turn, window_turn, undo_turn, asked_of}
use Rattle.spec.specs.Calls.{order_turn}
use mathlib.Core.{Bool.{Bool, true, false, not, ◌&&◌}, List.{List, []}, Path.{◌≡◌, refl, subst, subst⁻¹}}
use lib.Dec.{leb}
use native.Mathlib.Omega.{arith}
use Prim.Native.Nat.{ℕ, zero, suc, ◌≤◌}
use Rattle.state.specs.{StoreMeaning.transaction, Outcomes.{Said, refused}}
use Rattle.admission.specs.Admission.{window_refusal, admission, admission_of_begin, admission_of_window, none_begun, admission_of_undo}
use Rattle.admission.specs.FirstRefusal.{unless}
use Rattle.spec.proofs.Refinement.{Relation.Sound, Admissions.{first-is, shared-is}}
use Rattle.spec.proofs.Theorems.{Answers.{IsAnswer, answer-not-refused, Right, right-step}, Refusals.refused-same}

-- A refusal, if it is one, with a number of at least 3.
abbrev Late : Said → Type 0
Late a = (n : ℕ) → a ≡ refused n → 3 ≤ n

late-answer : (a : Said) → IsAnswer a → Late a
late-answer a h = λ n e. absurd (answer-not-refused a n h e)

late-passing : (k : ℕ) (buffer : List ℕ) (m : Machine) (w : Turn) → ((j : ℕ) → k ≡ suc j → 3 ≤ k) → Late w.reply.answer
    → Late (passing k buffer m w).reply.answer
unfolding passing refuse_turn
late-passing zero buffer m w h l = l
late-passing (suc k) buffer m w h l = λ n e. subst (λ (j : ℕ). 3 ≤ j) (refused-same (suc k) n e) (h k refl)

late-served : (t : ℕ) (o : Op) (m : Machine) (is : List Item) (s : Stepped) → Right s → Late (served t o m is s).reply.answer
unfolding served refuse_turn
late-served t o m is (refuse k) h = λ n e. let z : k ≡ n = refused-same k n e in omega (arith, h.0)
late-served t o m is (accept y a b) h = late-answer _ h

late-decided : (t : ℕ) (x : Txn) (ss : List Setting) (m : Machine) (daily stale shut placed : Bool)
    → Late (commit_decided t x ss m (commit_refusal daily stale shut placed)).reply.answer
unfolding commit_decided commit_refusal commit_granted
late-decided t x ss m false stale shut placed = λ n e. let z : 22 ≡ n = refused-same 22 n e in omega arith
late-decided t x ss m true true shut placed = λ n e. let z : 13 ≡ n = refused-same 13 n e in omega arith
late-decided t x ss m true false true placed = λ n e. let z : 21 ≡ n = refused-same 21 n e in omega arith
late-decided t x ss m true false false true = late-answer _ tt
late-decided t x ss m true false false false = λ n e. let z : 12 ≡ n = refused-same 12 n e in omega arith

late-unless : (b c : Bool) (k : ℕ) → 3 ≤ k → (j : ℕ) → unless b 3 (unless c k 0) ≡ suc j → 3 ≤ unless b 3 (unless c k 0)
unfolding unless
late-unless true true k h j e = absurd (let z : ◌≡◌ {A = ℕ} 0 (suc j) = e in omega arith)
late-unless true false k h j e = h
late-unless false c k h j e = omega arith

module _ (m : Machine) (sound : Sound m) (t : ℕ) where
  late-admitted : (buffer : List ℕ) (w : Turn) → Late w.reply.answer → Late (admitted t buffer m w).reply.answer
  late-admitted buffer w l = unfold admitted admission in
      late-passing _ buffer m w (subst⁻¹ (λ (k : ℕ). (j : ℕ) → k ≡ suc j → 3 ≤ k) (shared-is m t sound (unless (transaction
      m.store t).begun 4 0)) (late-unless (leb t last_transaction) (transaction m.store t).begun 4 (omega arith))) l

  late-begin : Late (call (begin t) m).reply.answer
  unfolding call begin_turn answer_with admission_of_begin
  late-begin = late-passing _ [] m (begin_turn t m) (subst⁻¹ (λ (k : ℕ). (j : ℕ) → k ≡ suc j → 3 ≤ k)
      (shared-is m t sound (unless (not (transaction m.store t).begun) 5 0))
      (late-unless (leb t last_transaction) (not (transaction m.store t).begun) 5 (omega arith))) (late-answer _ tt)

-- F-1's call.
AtLeast3 : ℕ → Type 0
AtLeast3 k = (j : ℕ) → k ≡ suc j → 3 ≤ k

late-one : (b : Bool) (n later : ℕ) → 3 ≤ n → AtLeast3 later → AtLeast3 (unless b n later)
unfolding unless AtLeast3
late-one true n later h l = l
late-one false n later h l = λ j e. h

late-placed : (file_of : ℕ → ℕ) (f : ℕ) (out : List ℕ) (x : Txn) (n : ℕ) → AtLeast3 n → Late (places_reply file_of f out x n).answer
unfolding places_reply AtLeast3
late-placed file_of f out x zero h = late-answer _ tt
late-placed file_of f out x (suc k) h = λ n e. subst (λ (j : ℕ). 3 ≤ j) (refused-same (suc k) n e) (h k refl)

places-late : (file_of : ℕ → ℕ) (f : ℕ) (out : List ℕ) (x : Txn) → AtLeast3 (places_refusal file_of f out x)
unfolding places_refusal AtLeast3
places-late file_of f out x = late-one _ 6 _ (omega arith) (late-one _ 15 _ (omega arith)
    (late-one _ 16 0 (omega arith) (λ j e. absurd (let z : ◌≡◌ {A = ℕ} 0 (suc j) = e in omega arith))))

-- F-11's.
late-window : (m : Machine) → Sound m → (f start end : ℕ) → Late (call (set_window f start end) m).reply.answer
unfolding call window_turn answer_with admission_of_window window_refusal AtLeast3
late-window m s f start end = late-passing _ [] m (window_turn f start end m) (subst⁻¹ AtLeast3
    (first-is m (unless (leb f last_file) 6 (unless (minute_in start && minute_in end) 22 0)) s) (late-one _ 6 _ (omega arith)
    (late-one _ 22 0 (omega arith) (λ j e. absurd (let z : ◌≡◌ {A = ℕ} 0 (suc j) = e in omega arith))))) (late-answer _ tt)

-- F-13's.
late-back : (m : Machine) → Sound m → Late (call undo_commit m).reply.answer
unfolding call undo_turn answer_with admission_of_undo AtLeast3
late-back m s = late-passing _ [] m (undo_turn m) (subst⁻¹ AtLeast3
    (first-is m (unless (none_begun m.store) 23 (unless m.store.undo.valid 24 0)) s) (late-one _ 23 _ (omega arith)
    (late-one _ 24 0 (omega arith) (λ j e. absurd (let z : ◌≡◌ {A = ℕ} 0 (suc j) = e in omega arith))))) (late-answer _ tt)

-- F-14's.
order-late : (a : Asked) (ts : List ℕ) (minute budget : ℕ) → AtLeast3 (order_refusal a ts minute budget)
unfolding order_refusal AtLeast3
order-late a ts minute budget = late-one _ 26 _ (omega arith)
    (late-one _ 3 _ (omega arith) (late-one _ 4 _ (omega arith) (late-one _ 22 _ (omega arith) (late-one _ 25 _
    (omega arith) (late-one _ 27 0 (omega arith) (λ j e. absurd (let z : ◌≡◌ {A = ℕ} 0 (suc j) = e in omega arith)))))))

late-ordered : (a : Asked) (ts : List ℕ) (budget n : ℕ) → AtLeast3 n → Late (order_replied a ts budget n).answer
unfolding order_replied AtLeast3
late-ordered a ts budget zero h = late-answer _ tt
late-ordered a ts budget (suc k) h = λ n e. subst (λ (j : ℕ). 3 ≤ j) (refused-same (suc k) n e) (h k refl)

late-order : (m : Machine) → Sound m → (ts : List ℕ) (minute budget : ℕ)
    → Late (call (best_order ts minute budget) m).reply.answer
unfolding call order_turn order_reply AtLeast3
late-order m s ts minute budget = late-passing _ [] m (order_turn ts minute budget m)
    (subst⁻¹ AtLeast3 (first-is m 0 s) (λ j e. absurd (let z : ◌≡◌ {A = ℕ} 0 (suc j) = e in omega arith)))
    (late-ordered (asked_of minute m) ts budget _ (order-late (asked_of minute m) ts minute budget))

late-call : (c : Call) (m : Machine) → Sound m → Late (call c m).reply.answer
unfolding call abort_turn answer_with step_turn commit_turn places_turn places_of
late-call (begin t) m s = late-begin m s t
late-call (on t o) m s = late-admitted m s t (buffer_of o) (step_turn t o m) (late-served t o m _ _
    (right-step (file_of m.store) o (txn_of m.store m.journal m.logs t) (values m.store m.files) _))
late-call (commit t minute) m s = late-admitted m s t [] (commit_turn t minute m) (late-decided t _ _ m _ _ _ _)
late-call (abort t) m s = late-admitted m s t [] (abort_turn t m) (late-answer _ tt)
late-call (places t f out) m s = late-admitted m s t out (places_turn t f out m) (late-placed _ f out _ _ (places-late _ f out _))
late-call (set_window f start end) m s = late-window m s f start end
late-call undo_commit m s = late-back m s
late-call (best_order ts minute budget) m s = late-order m s ts minute budget

pub never-early : (c : Call) (m : Machine) → Sound m → ((call c m).reply.answer ≡ refused 2 → ⊥)
    × ((call c m).reply.answer ≡ refused 1 → ⊥)
never-early c m s =
    (λ e. let z : 3 ≤ 2 = late-call c m s 2 e in omega arith, λ e. let z : 3 ≤ 1 = late-call c m s 1 e in omega arith)
