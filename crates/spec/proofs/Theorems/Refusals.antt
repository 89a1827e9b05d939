-- Refusals (demand 1): what a refused call leaves.
use Rattle.spec.specs.{Transactions.Txn, Places.{places_refusal, places_reply, places_of}, Items.Item}
use Rattle.spec.specs.{Steps.{Stepped, refuse, accept}, Commits.{Setting, commit_refusal}}
use Rattle.spec.specs.Messages.{Op, buffer_of, buffer_of_call, Call, begin, on, commit, abort, places, set_window, undo_commit}
use Rattle.spec.specs.{Messages.{best_order, refusal_of}, OrderReply.{Asked, order_refusal, order_replied, order_reply}}
use Rattle.spec.specs.{Machine.{Machine, sizes, file_of, values, txn_of}, Refusals.Refusals}
use Rattle.spec.specs.Corollaries.{RefusalsKnown, RefusalsOfCode}
use Rattle.spec.specs.Calls.{Turn, answer_with, refuse_turn, passing, fresh, reset, begin_turn, abort_turn, served, step_turn}
use Rattle.spec.specs.Calls.{commit_granted, commit_decided, commit_turn, admitted, call, places_turn, window_turn, undo_turn}
use Rattle.spec.specs.Calls.{order_turn, asked_of}
use mathlib.Core.{Bool.{Bool, true, false}, List.{List, []}, Path.{◌≡◌, refl, sym, ap, ◌∙◌}}
use native.Mathlib.Omega.{arith}
use Prim.Native.Nat.{ℕ, zero, suc}
use Rattle.state.specs.{declared.{StoreMeaning.StoreMeaning, outcomes.Refusal.TheVariants.Stale}, StoreMeaning.ended}
use Rattle.state.specs.Outcomes.{number, Said, refused}
use Rattle.admission.specs.Admission.{first_tests, shared, window_refusal, admission_of_window, admission_of_undo, admission}
use Rattle.admission.specs.declared.Sizes.{Sizes}
use Rattle.admission.specs.{Admission.{admission_of_begin, admission_of_fresh}, FirstRefusal.unless}
use Rattle.spec.proofs.Theorems.Answers.{IsAnswer, answer-not-refused, Leaving, Right, right-step}
use Rattle.spec.proofs.Theorems.RefusalOrder.{call-says, fresh-says, refusal-rows, fresh-row, call_known, fresh-known}
pub use Rattle.spec.proofs.Theorems.Answers.{refused-same}

-- A turn that leaves everything where it refuses with a number other than 13.
pub record Leaves (m : Machine) (buffer : List ℕ) (w : Turn) : Type 0 where
  pub leaves : (n : ℕ) → w.reply.answer ≡ refused n → (n ≡ 13 → ⊥) → (w.after ≡ m) × (w.reply.buffer ≡ buffer)

leaves-passing : (k : ℕ) (buffer : List ℕ) (m : Machine) (w : Turn) → Leaving k → Leaves m buffer w
    → Leaves m buffer (passing k buffer m w)
unfolding passing refuse_turn
leaves-passing zero buffer m w h l = l
leaves-passing (suc k) buffer m w h l = record { leaves = λ n e d. (refl, refl) }

leaves-answer : (m : Machine) (buffer : List ℕ) (w : Turn) → IsAnswer w.reply.answer → Leaves m buffer w
leaves-answer m buffer w h = record { leaves = λ n e d. absurd (answer-not-refused w.reply.answer n h e) }

leaves-served : (t : ℕ) (o : Op) (m : Machine) (is : List Item) (s : Stepped) → Right s
    → Leaves m (buffer_of o) (served t o m is s)
unfolding served refuse_turn
leaves-served t o m is (refuse k) h = record { leaves = λ n e d. (refl, refl) }
leaves-served t o m is (accept y a b) h = leaves-answer m (buffer_of o) _ h

leaves-decided : (t : ℕ) (x : Txn) (ss : List Setting) (m : Machine) (daily stale shut placed : Bool)
    → Leaves m [] (commit_decided t x ss m (commit_refusal daily stale shut placed))
unfolding commit_decided commit_refusal commit_granted
leaves-decided t x ss m false stale shut placed = record { leaves = λ n e d. (refl, refl) }
leaves-decided t x ss m true true shut placed = record { leaves = λ n e d. absurd (d (sym (refused-same 13 n e))) }
leaves-decided t x ss m true false true placed = record { leaves = λ n e d. (refl, refl) }
leaves-decided t x ss m true false false true = leaves-answer m [] _ tt
leaves-decided t x ss m true false false false = record { leaves = λ n e d. (refl, refl) }

-- The shared tests refuse with a number other than 13.
unless-leaving : (b : Bool) (n later : ℕ) → Leaving n → Leaving later → Leaving (unless b n later)
unfolding unless
unless-leaving true n later h l = l
unless-leaving false n later h l = h

first-leaving : (z : Sizes) (s : StoreMeaning) (j : List ℕ) (later : ℕ) → Leaving later → Leaving (first_tests z s j later)
unfolding first_tests
first-leaving z s j later h = unless-leaving _ 1 _ (λ e. omega arith) (unless-leaving _ 2 _ (λ e. omega arith) h)

shared-leaving : (z : Sizes) (s : StoreMeaning) (j : List ℕ) (t later : ℕ) → Leaving later → Leaving (shared z s j t later)
shared-leaving z s j t later h = unfold shared in first-leaving z s j _ (unless-leaving _ 3 _ (λ e. omega arith) h)

none-leaving : Leaving 0
none-leaving e = omega arith

pub admission-leaving : (z : Sizes) (s : StoreMeaning) (j : List ℕ) (t : ℕ) → Leaving (admission z s j t)
unfolding admission
admission-leaving z s j t = shared-leaving z s j t _ (unless-leaving _ 4 0 (λ e. omega arith) none-leaving)

begin-leaving : (z : Sizes) (s : StoreMeaning) (j : List ℕ) (t : ℕ) → Leaving (admission_of_begin z s j t)
unfolding admission_of_begin
begin-leaving z s j t = shared-leaving z s j t _ (unless-leaving _ 5 0 (λ e. omega arith) none-leaving)

window-leaving : (z : Sizes) (s : StoreMeaning) (j : List ℕ) (f start end : ℕ) → Leaving (admission_of_window z s j f start end)
window-leaving z s j f start end = unfold admission_of_window window_refusal in
    first-leaving z s j _ (unless-leaving _ 6 _ (λ e. omega arith) (unless-leaving _ 22 0 (λ e. omega arith) none-leaving))

back-leaving : (z : Sizes) (s : StoreMeaning) (j : List ℕ) → Leaving (admission_of_undo z s j)
back-leaving z s j = unfold admission_of_undo in
    first-leaving z s j _ (unless-leaving _ 23 _ (λ e. omega arith) (unless-leaving _ 24 0 (λ e. omega arith) none-leaving))

leaves-admitted : (t : ℕ) (buffer : List ℕ) (m : Machine) (w : Turn) → Leaves m buffer w → Leaves m buffer (admitted t buffer m w)
unfolding admitted
leaves-admitted t buffer m w l = leaves-passing (admission (sizes m) m.store m.journal t) buffer m w
    (admission-leaving (sizes m) m.store m.journal t) l

-- F-1's call.
placed-leaving : (file_of : ℕ → ℕ) (f : ℕ) (out : List ℕ) (x : Txn) → Leaving (places_refusal file_of f out x)
unfolding places_refusal
placed-leaving file_of f out x = unless-leaving _ 6 _ (λ e. omega arith)
    (unless-leaving _ 15 _ (λ e. omega arith) (unless-leaving _ 16 0 (λ e. omega arith) none-leaving))

leaves-placed : (m : Machine) (file_of : ℕ → ℕ) (f : ℕ) (out : List ℕ) (x : Txn) (n : ℕ) → Leaving n
    → Leaves m out (record { reply = places_reply file_of f out x n; after = m })
unfolding places_reply
leaves-placed m file_of f out x zero h = leaves-answer m out _ tt
leaves-placed m file_of f out x (suc n) h = record { leaves = λ k e d. (refl, refl) }

placed-not-13 : (file_of : ℕ → ℕ) (f : ℕ) (out : List ℕ) (x : Txn) (n : ℕ) → Leaving n
    → (places_reply file_of f out x n).answer ≡ refused 13 → ⊥
unfolding places_reply
placed-not-13 file_of f out x zero h e = answer-not-refused _ 13 tt e
placed-not-13 file_of f out x (suc n) h e = h (refused-same (suc n) 13 e)

-- F-14's.
ordered-leaving : (a : Asked) (ts : List ℕ) (minute budget : ℕ) → Leaving (order_refusal a ts minute budget)
unfolding order_refusal
ordered-leaving a ts minute budget = unless-leaving _ 26 _ (λ e. omega arith)
    (unless-leaving _ 3 _ (λ e. omega arith) (unless-leaving _ 4 _ (λ e. omega arith) (unless-leaving _ 22 _
    (λ e. omega arith) (unless-leaving _ 25 _ (λ e. omega arith) (unless-leaving _ 27 0 (λ e. omega arith) none-leaving)))))

leaves-ordered : (m : Machine) (a : Asked) (ts : List ℕ) (budget n : ℕ) → Leaving n
    → Leaves m [] (record { reply = order_replied a ts budget n; after = m })
unfolding order_replied
leaves-ordered m a ts budget zero h = leaves-answer m [] _ tt
leaves-ordered m a ts budget (suc n) h = record { leaves = λ k e d. (refl, refl) }

ordered-not-13 : (a : Asked) (ts : List ℕ) (budget n : ℕ) → Leaving n → (order_replied a ts budget n).answer ≡ refused 13 → ⊥
unfolding order_replied
ordered-not-13 a ts budget zero h e = answer-not-refused _ 13 tt e
ordered-not-13 a ts budget (suc n) h e = h (refused-same (suc n) 13 e)

leaves-call : (c : Call) (m : Machine) → Leaves m (buffer_of_call c) (call c m)
unfolding call buffer_of_call begin_turn abort_turn answer_with step_turn commit_turn places_turn places_of window_turn undo_turn order_turn
    order_reply
leaves-call (begin t) m = leaves-passing (admission_of_begin (sizes m) m.store m.journal t) [] m _
    (begin-leaving (sizes m) m.store m.journal t) (leaves-answer m [] _ tt)
leaves-call (on t o) m = leaves-admitted t (buffer_of o) m _ (leaves-served t o m _ _
    (right-step (file_of m.store) o (txn_of m.store m.journal m.logs t) (values m.store m.files) _))
leaves-call (commit t minute) m = leaves-admitted t [] m _ (leaves-decided t _ _ m _ _ _ _)
leaves-call (abort t) m = leaves-admitted t [] m _ (leaves-answer m [] _ tt)
leaves-call (places t f out) m = leaves-admitted t out m _ (leaves-placed m _ f out _ _ (placed-leaving _ f out _))
leaves-call (set_window f start end) m = leaves-passing (admission_of_window (sizes m) m.store m.journal f start end) []
    m _ (window-leaving (sizes m) m.store m.journal f start end) (leaves-answer m [] _ tt)
leaves-call undo_commit m = leaves-passing (admission_of_undo (sizes m) m.store m.journal) [] m _
    (back-leaving (sizes m) m.store m.journal) (leaves-answer m [] _ tt)
leaves-call (best_order ts minute budget) m = leaves-passing (first_tests (sizes m) m.store m.journal 0) [] m _
    (first-leaving (sizes m) m.store m.journal 0 none-leaving)
    (leaves-ordered m (asked_of minute m) ts budget _ (ordered-leaving (asked_of minute m) ts minute budget))

-- A refusal 13 is a Commit's, which then leaves what an Abort leaves.
not-13 : (k : ℕ) (buffer : List ℕ) (m : Machine) (w : Turn) → Leaving k → (w.reply.answer ≡ refused 13 → ⊥)
    → (passing k buffer m w).reply.answer ≡ refused 13 → ⊥
unfolding passing refuse_turn
not-13 zero buffer m w h f e = f e
not-13 (suc k) buffer m w h f e = h (refused-same (suc k) 13 e)

served-not-13 : (t : ℕ) (o : Op) (m : Machine) (is : List Item) (s : Stepped) → Right s → (served t o m is s).reply.answer
    ≡ refused 13 → ⊥
unfolding served refuse_turn
served-not-13 t o m is (refuse k) h e = h.1 (refused-same k 13 e)
served-not-13 t o m is (accept y a b) h e = answer-not-refused a 13 h e

decided-ends : (t : ℕ) (x : Txn) (ss : List Setting) (m : Machine) (daily stale shut placed : Bool)
    → (commit_decided t x ss m (commit_refusal daily stale shut placed)).reply.answer ≡ refused 13
    → (commit_decided t x ss m (commit_refusal daily stale shut placed)).after ≡ reset t ended m
unfolding commit_decided commit_refusal commit_granted
decided-ends t x ss m false stale shut placed e = let z : ◌≡◌ {A = ℕ} 22 13 = refused-same 22 13 e in absurd (omega arith)
decided-ends t x ss m true true shut placed e = refl
decided-ends t x ss m true false true placed e = let z : ◌≡◌ {A = ℕ} 21 13 = refused-same 21 13 e in absurd (omega arith)
decided-ends t x ss m true false false true e = absurd (answer-not-refused _ 13 tt e)
decided-ends t x ss m true false false false e = let z : ◌≡◌ {A = ℕ} 12 13 = refused-same 12 13 e in absurd (omega arith)

passing-ends : (k : ℕ) (m : Machine) (w z : Turn) → (w.reply.answer ≡ refused 13 → w.after ≡ z.after)
    → (passing k [] m w).reply.answer ≡ refused 13 → (passing k [] m w).after ≡ (passing k [] m z).after
unfolding passing refuse_turn
passing-ends zero m w z f e = f e
passing-ends (suc k) m w z f e = refl

ends-call : (c : Call) (m : Machine) → (call c m).reply.answer ≡ refused 13
    → (t : ℕ) × (minute : ℕ) × (c ≡ commit t minute) × ((call c m).after ≡ (call (abort t) m).after)
unfolding call begin_turn abort_turn answer_with step_turn commit_turn admitted places_turn places_of window_turn undo_turn order_turn
    order_reply
ends-call (begin t) m e = absurd (not-13 (admission_of_begin (sizes m) m.store m.journal t) [] m _
    (begin-leaving (sizes m) m.store m.journal t) (answer-not-refused _ 13 tt) e)
ends-call (on t o) m e = absurd (not-13 (admission (sizes m) m.store m.journal t) (buffer_of o) m _
    (admission-leaving (sizes m) m.store m.journal t) (served-not-13 t o m _ _
    (right-step (file_of m.store) o (txn_of m.store m.journal m.logs t) (values m.store m.files) _)) e)
ends-call (commit t minute) m e =
    (t, minute, refl, passing-ends (admission (sizes m) m.store m.journal t) m _ _ (decided-ends t _ _ m _ _ _ _) e)
ends-call (abort t) m e = absurd (not-13 (admission (sizes m) m.store m.journal t) [] m _
    (admission-leaving (sizes m) m.store m.journal t) (answer-not-refused _ 13 tt) e)
ends-call (places t f out) m e = absurd (not-13 (admission (sizes m) m.store m.journal t) out m _
    (admission-leaving (sizes m) m.store m.journal t) (placed-not-13 _ f out _ _ (placed-leaving _ f out _)) e)
ends-call (set_window f start end) m e = absurd (not-13 (admission_of_window (sizes m) m.store m.journal f start end) []
    m _ (window-leaving (sizes m) m.store m.journal f start end) (answer-not-refused _ 13 tt) e)
ends-call undo_commit m e = absurd (not-13 (admission_of_undo (sizes m) m.store m.journal) [] m _
    (back-leaving (sizes m) m.store m.journal) (answer-not-refused _ 13 tt) e)
ends-call (best_order ts minute budget) m e =
    absurd (not-13 (first_tests (sizes m) m.store m.journal 0) [] m _ (first-leaving (sizes m) m.store m.journal
    0 none-leaving) (ordered-not-13 (asked_of minute m) ts budget _ (ordered-leaving (asked_of minute m) ts minute budget)) e)

leaves-fresh : (numbers : List ℕ) (m : Machine) → Leaves m [] (fresh numbers m)
unfolding fresh answer_with admission_of_fresh
leaves-fresh numbers m = leaves-passing _ [] m _ (unless-leaving _ 1 _ (λ e. omega arith)
    (unless-leaving _ 14 0 (λ e. omega arith) none-leaving)) (leaves-answer m [] _ tt)

fresh-not-13 : (numbers : List ℕ) (m : Machine) (n : ℕ) → (fresh numbers m).reply.answer ≡ refused n → n ≡ number Stale → ⊥
unfolding fresh answer_with admission_of_fresh
fresh-not-13 numbers m n e f = not-13 _ [] m _ (unless-leaving _ 1 _ (λ e. omega arith)
    (unless-leaving _ 14 0 (λ e. omega arith) none-leaving)) (answer-not-refused _ 13 tt) (e ∙ ap refused f)

-- A call that answers met no early refusal, and one refused with 13 met it in its own turn.
pub passing-zero : (k : ℕ) (buffer : List ℕ) (m : Machine) (w : Turn) (a : Said) → IsAnswer a
    → (passing k buffer m w).reply.answer ≡ a → k ≡ 0
unfolding passing refuse_turn
passing-zero zero buffer m w a h e = refl
passing-zero (suc k) buffer m w a h e = absurd (answer-not-refused a (suc k) h (sym e))

pub passing-stale : (k : ℕ) (m : Machine) (w : Turn) → Leaving k → (passing k [] m w).reply.answer ≡ refused 13 → passing k [] m w
    ≡ w
unfolding passing refuse_turn
passing-stale zero m w h e = refl
passing-stale (suc k) m w h e = absurd (h (refused-same (suc k) 13 e))

pub refusals-hold : Refusals
refusals-hold m = record {
  first = λ c. call-says c m;
  fresh_first = λ numbers. fresh-says numbers m;
  leaves = λ c. (leaves-call c m).leaves;
  fresh_leaves = λ numbers n e. ((leaves-fresh numbers m).leaves n e (fresh-not-13 numbers m n e)).0;
  ends = λ c. ends-call c m;
}

pub refusals-known : (m : Machine) → RefusalsKnown m
refusals-known m = record {
  rows = λ c. refusal-rows c m;
  fresh_row = λ numbers. fresh-row numbers m;
  known = λ c. call_known c m;
  fresh_known = λ numbers. fresh-known numbers m;
}

pub refusals-of-code : RefusalsOfCode
refusals-of-code = unfold refusal_of in record {
  first = λ c m o after reader k. ap refusal_of k.outcome ∙ (refusals-hold m).first c;
  fresh_first = λ numbers m o after k. ap refusal_of k.outcome ∙ (refusals-hold m).fresh_first numbers;
  calls = λ c m o after reader n k e. let f = sym k.outcome ∙ e in let d = refusals-hold m in record {
    first = sym (d.first c) ∙ ap refusal_of f;
    known = call_known c m n f;
    leaves = λ h. let l = d.leaves c n f h in (k.machine ∙ l.0, k.reader ∙ l.1);
    ends = λ h. let w = d.ends c (f ∙ ap refused h) in (w.0, w.1, w.2, k.machine ∙ w.3);
  };
  fresh = λ numbers m o after n k e. let f = sym k.outcome ∙ e in let d = refusals-hold m in
      (fresh-known numbers m n f, k.machine ∙ d.fresh_leaves numbers n f);
}
