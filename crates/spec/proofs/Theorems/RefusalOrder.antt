-- Refusals (demand 1): a call is refused with the number of the first of its tests that fails, and with no other.
use mathlib.Core.{Bool.{Bool, true, false, cond, not, ◌&&◌, ◌||◌, or-true}, List.{List, [], ◌∷◌, ◌++◌, map}}
use mathlib.Core.{Option.{Option, none, some, some-injective}, Path.{◌≡◌, refl, sym, ap, ap₂, ◌∙◌, subst}}
use borrow.Author.Tests.{eq-eqb}
use lib.{Dec.{leb, eqb}, ListN.length}
use native.Mathlib.Omega.{arith}
use Prim.Native.Nat.{ℕ, zero, suc, ◌+◌, ◌*◌, ◌<◌}
use Rattle.limits.specs.Limits.{last_file, file_bytes, last_transaction, most_orders}
use Rattle.windows.specs.Windows.{minute_in}
use Rattle.standings.specs.{declared.Standing.Standing, Table.{advance, pointer_settles, offset_of}}
use Rattle.state.specs.{StoreMeaning.transaction, Outcomes.{Said, done_answer, pointer, refused}}
use Rattle.admission.specs.Admission.{first_tests, shared, admission, admission_of_begin, admission_of_fresh, window_refusal}
use Rattle.admission.specs.{Admission.{admission_of_window, admission_of_undo}, FirstRefusal.unless}
use Rattle.spec_orders.specs.Orders.{is_in, all_in, is_list}
use Rattle.spec.specs.Items.{Item, offset, Values, Prog, done, and_then, result}
use Rattle.spec.specs.Transactions.{Txn, settle, those, Settled, past, all, settling}
use Rattle.spec.specs.{Places.{covered, unplaced, intervals_of, places_refusal, places_reply, places_of}, Reading.gather}
use Rattle.spec.specs.Steps.{Stepped, refuse, accept, check, or_given_back, seek_step, write_step, pointer_step, settled_by_read}
use Rattle.spec.specs.Steps.{read_settled, read_step, step, is_read_call, descriptor_of_op, refuses_stale, refused_stale}
use Rattle.spec.specs.Commits.{Setting, commit_refusal}
use Rattle.spec.specs.Messages.{Op, seek, write, get_file_pointer, read, buffer_of, Call, begin, on, commit, abort, places}
use Rattle.spec.specs.Messages.{set_window, undo_commit, best_order, refusal_of}
use Rattle.spec.specs.OrderReply.{Asked, order_refusal, order_replied, order_reply}
use Rattle.spec.specs.Machine.{Machine, sizes, file_of, values, txn_of}
use Rattle.spec.specs.Calls.{Turn, answer_with, refuse_turn, passing, fresh_machine, fresh, begin_turn, abort_turn, served}
use Rattle.spec.specs.Calls.{step_turn, commit_granted, commit_decided, commit_turn, admitted, call, places_turn, window_turn}
use Rattle.spec.specs.Calls.{undo_turn, order_turn, asked_of}
use Rattle.spec.specs.RefusalOrder.{Test, test, first_failing, first_two, first_four, settles, step_tests, tests_of, fresh_tests}
use Rattle.spec.specs.Corollaries.{refusals_of, refusals_of_fresh}
use Rattle.spec.proofs.Abstract.{Programs.{result-and_then, Every, every_append}, Lists.put_other}

-- ---- chains of tests

-- An answer is no refusal.
nothing-fails : refusal_of done_answer ≡ first_failing []
nothing-fails = unfold refusal_of first_failing in refl

-- Where refusals are numbers and 0 stands for none, one test in front.
module _ (says : ℕ → Said) (refuses : (n : ℕ) → says (suc n) ≡ refused (suc n)) where
  in-front : (ok : Bool) (n later : ℕ) (tests : List Test) → refusal_of (says later) ≡ first_failing tests
      → refusal_of (says (unless ok (suc n) later)) ≡ first_failing (test (suc n) ok ∷ tests)
  unfolding unless first_failing refusal_of
  in-front true n later tests e = e
  in-front false n later tests e = ap refusal_of (refuses n)

  two-in-front : (m : Machine) (later : ℕ) (tests : List Test) → refusal_of (says later) ≡ first_failing tests
      → refusal_of (says (first_tests (sizes m) m.store m.journal later)) ≡ first_failing (first_two m tests)
  two-in-front m later tests e = unfold first_tests first_two in in-front _ 0 _ _ (in-front _ 1 later tests e)

module _ (buffer : List ℕ) (m : Machine) (w : Turn) where
  abbrev says : ℕ → Said
  says k = (passing k buffer m w).reply.answer

  pub passing-refuses : (n : ℕ) → says (suc n) ≡ refused (suc n)
  passing-refuses n = unfold passing refuse_turn in refl

  four-in-front : (t : ℕ) (tests : List Test) → refusal_of w.reply.answer ≡ first_failing tests
      → refusal_of (admitted t buffer m w).reply.answer ≡ first_failing (first_four t m tests)
  four-in-front t tests e = unfold admitted admission shared first_four passing in let h = passing-refuses in
      two-in-front says h m _ _ (in-front says h _ 2 _ _ (in-front says h _ 3 0 tests e))

-- ---- Seek, Write, GetFilePointer and Read

step_says : Stepped → Option ℕ
step_says (refuse n) = some n
step_says (accept y a b) = refusal_of a

served-says : (t : ℕ) (o : Op) (m : Machine) (is : List Item) (s : Stepped)
    → refusal_of (served t o m is s).reply.answer ≡ step_says s
unfolding served refuse_turn step_says refusal_of
served-says t o m is (refuse n) = refl
served-says t o m is (accept y a b) = refl

-- A list of descriptors without a repeat.
abbrev Apart : ℕ → List ℕ → Type 0
Apart d = Every (λ (e : ℕ). e ≡ d → ⊥)

abbrev Distinct : List ℕ → Type 0
Distinct [] = Unit {0}
Distinct (d ∷ ds) = Apart d ds × Distinct ds

-- One number more, or none.
module _ (P : ℕ → Type 0) (n : ℕ) (h : P n) where
  one_more : (b : Bool) → Every P (cond b (n ∷ []) [])
  one_more true = (h, tt)
  one_more false = tt

distinct_more : (b : Bool) (n : ℕ) (ds : List ℕ) → Every (λ (e : ℕ). e < n) ds → Distinct ds → Distinct (ds ++ cond b (n ∷ []) [])
distinct_more true n [] h g = (tt, tt)
distinct_more false n [] h g = tt
distinct_more b n (d ∷ ds) h g = (
  every_append (λ (e : ℕ). e ≡ d → ⊥) ds (cond b (n ∷ []) []) g.0
      (one_more (λ (e : ℕ). e ≡ d → ⊥) n (λ q. omega (arith, h.0)) b),
  distinct_more b n ds h.1 g.1,
)

raised : (n : ℕ) (ds : List ℕ) → Every (λ (e : ℕ). e < n) ds → Every (λ (e : ℕ). e < suc n) ds
raised n [] h = tt
raised n (d ∷ ds) h = (omega (arith, h.0), raised n ds h.1)

those-below : (p : ℕ → Bool) (n : ℕ) → Every (λ (e : ℕ). e < n) (those p n)
unfolding those
those-below p zero = tt
those-below p (suc n) = every_append (λ (e : ℕ). e < suc n) (those p n) (cond (p n) (n ∷ []) [])
    (raised n (those p n) (those-below p n)) (one_more (λ (e : ℕ). e < suc n) n (omega arith) (p n))

those-distinct : (p : ℕ → Bool) (n : ℕ) → Distinct (those p n)
unfolding those
those-distinct p zero = tt
those-distinct p (suc n) = distinct_more (p n) n (those p n) (those-below p n) (those-distinct p n)

-- Whether settling passes.
ends : Settled → Bool
ends past = false
ends (all y) = true

module _ (v : Values) where
  same-settles : (d c : ℕ) (x : Txn) (ds : List ℕ) → Apart d ds → settles v (settle d c x) ds ≡ settles v x ds
  unfolding settles all_in settle
  same-settles d c x [] h = refl
  same-settles d c x (e ∷ ds) h = ap₂ (λ (z : Standing) (b : Bool). leb (v (offset e) + advance z) file_bytes && b)
      (put_other d _ x.standing e h.0) (same-settles d c x ds h.1)

  settling-ends : (ds : List ℕ) (x : Txn) → Distinct ds → ends (result v (settling ds x)) ≡ settles v x ds
  unfolding settling settles all_in result ends
  settling-ends [] x h = refl
  settling-ends (d ∷ ds) x h = pick (leb (v (offset d) + advance (x.standing d)) file_bytes)
      (settling-ends ds (settle d (v (offset d)) x) h.1 ∙ same-settles d (v (offset d)) x ds h.0)
    where
      pick : (b : Bool) → ends (result v (settling ds (settle d (v (offset d)) x))) ≡ settles v x ds
          → ends (result v (cond b (settling ds (settle d (v (offset d)) x)) (done past))) ≡ (b && settles v x ds)
      pick true e = e
      pick false e = refl

  done-says : (y : Txn) (b : List ℕ) → step_says (result v (done (accept y done_answer b))) ≡ first_failing []
  done-says y b = unfold result step_says in nothing-fails

  check-says : (ok : Bool) (n : ℕ) (next : Prog Stepped) (tests : List Test) → step_says (result v next) ≡ first_failing tests
      → step_says (result v (check ok n next)) ≡ first_failing (test n ok ∷ tests)
  unfolding check result step_says first_failing
  check-says true n next tests e = e
  check-says false n next tests e = refl

  -- 6 and 18 of a read call.
  look-says : (stale ok : Bool) (next : Prog Stepped) (tests : List Test) → step_says (result v next) ≡ first_failing tests
      → step_says (cond (true && stale && ok) (refuse 18) (result v (check ok 6 next)))
      ≡ first_failing (test 6 ok ∷ test 18 (not stale) ∷ tests)
  unfolding check result step_says first_failing
  look-says true true next tests e = refl
  look-says true false next tests e = refl
  look-says false true next tests e = e
  look-says false false next tests e = refl

  back-says : (next : Txn → Prog Stepped) → ((y : Txn) → step_says (result v (next y)) ≡ none) → (s : Settled)
      → step_says (result v (or_given_back next s)) ≡ first_failing (test 12 (ends s) ∷ [])
  unfolding or_given_back result step_says first_failing ends
  back-says next h past = refl
  back-says next h (all y) = h y

  settling-says : (ds : List ℕ) (x : Txn) (next : Txn → Prog Stepped) → Distinct ds
      → ((y : Txn) → step_says (result v (next y)) ≡ none)
      → step_says (result v (and_then (settling ds x) (or_given_back next))) ≡ first_failing (test 12 (settles v x ds) ∷ [])
  settling-says ds x next h g = ap step_says (result-and_then v (settling ds x) (or_given_back next)) ∙ back-says next g
      (result v (settling ds x)) ∙ ap (λ (b : Bool). first_failing (test 12 b ∷ [])) (settling-ends ds x h)

  pointer-distinct : (b : Bool) (d : ℕ) → Distinct (cond b (d ∷ []) [])
  pointer-distinct true d = (tt, tt)
  pointer-distinct false d = tt

  pointer-says : (d : ℕ) (y : Txn) → step_says (result v (done (accept y (pointer (offset_of (y.standing d))) []))) ≡ none
  pointer-says d y = unfold result step_says refusal_of in refl

  read-says : (f : ℕ → ℕ) (d n : ℕ) (buffer : List ℕ) (y : Txn) → step_says (result v (read_settled f d n buffer y)) ≡ none
  unfolding read_settled result step_says refusal_of
  read-says f d n buffer y = ap step_says (result-and_then v (gather f y.writes (f d) _ n) _)

step-says : (t : ℕ) (o : Op) (m : Machine) → step_says (refused_stale (transaction m.store t).stale o
    (result (values m.store m.files) (step (file_of m.store) o (txn_of m.store m.journal m.logs t))))
    ≡ first_failing (step_tests t o m)
unfolding step seek_step write_step pointer_step read_step settled_by_read step_tests refused_stale refuses_stale is_read_call descriptor_of_op
step-says t (seek d n) m = let v = values m.store m.files in check-says v _ 6 _ _ (check-says v _ 8 _ _ (done-says v _ []))
step-says t (write d bytes) m = let v = values m.store m.files in
    check-says v _ 6 _ _ (check-says v _ 9 _ _ (check-says v _ 10 _ _ (check-says v _ 11 _ _ (done-says v _ []))))
step-says t (get_file_pointer d) m = let v = values m.store m.files in
    let x = txn_of m.store m.journal m.logs t in let ds = cond (pointer_settles (x.standing d)) (d ∷ []) [] in
    look-says v (transaction m.store t).stale _ _ _
    (settling-says v ds x _ (pointer-distinct v (pointer_settles (x.standing d)) d) (pointer-says v d))
step-says t (read d n buffer) m = let v = values m.store m.files in let f = file_of m.store in
    let x = txn_of m.store m.journal m.logs t in
    look-says v (transaction m.store t).stale _ _ _ (check-says v (leb n (length buffer)) 7 _ _
    (settling-says v (settled_by_read f d x) x (read_settled f d n buffer) (those-distinct _ 16) (read-says v f d n buffer)))

-- ---- the other calls

decided-says : (t : ℕ) (x : Txn) (ss : List Setting) (m : Machine) (daily stale shut placed : Bool)
    → refusal_of (commit_decided t x ss m (commit_refusal daily stale shut placed)).reply.answer
    ≡ first_failing (test 22 daily ∷ test 13 (not stale) ∷ test 21 (not shut) ∷ test 12 placed ∷ [])
unfolding commit_decided commit_refusal commit_granted refusal_of first_failing
decided-says t x ss m false stale shut placed = refl
decided-says t x ss m true true shut placed = refl
decided-says t x ss m true false true placed = refl
decided-says t x ss m true false false true = refl
decided-says t x ss m true false false false = refl

places-refuses : (f : ℕ → ℕ) (g : ℕ) (out : List ℕ) (x : Txn) (n : ℕ) → (places_reply f g out x (suc n)).answer ≡ refused (suc n)
places-refuses f g out x n = unfold places_reply in refl

order-refuses : (a : Asked) (ts : List ℕ) (budget n : ℕ) → (order_replied a ts budget (suc n)).answer ≡ refused (suc n)
order-refuses a ts budget n = unfold order_replied in refl

places-says : (f : ℕ → ℕ) (g : ℕ) (out : List ℕ) (x : Txn) → refusal_of (places_of f g out x).answer
    ≡ first_failing (test 6 (leb g last_file) ∷ test 15 (not (unplaced f g x.writes))
    ∷ test 16 (leb (4 * length (intervals_of (covered f g x.writes))) (length out)) ∷ [])
unfolding places_of places_refusal
places-says f g out x = let says : ℕ → Said = λ n. (places_reply f g out x n).answer in let h = places-refuses f g out x in
    in-front says h _ 5 _ _
    (in-front says h _ 14 _ _ (in-front says h _ 15 0 [] (unfold places_reply refusal_of first_failing in refl)))

order-says : (a : Asked) (ts : List ℕ) (minute budget : ℕ) → refusal_of (order_reply a ts minute budget).answer
    ≡ first_failing (test 26 (is_list ts) ∷ test 3 (all_in (λ t. leb t last_transaction) ts) ∷ test 4 (all_in a.is_open ts)
    ∷ test 22 (minute_in minute) ∷ test 25 (all_in (λ t. not (a.not_ready t)) ts) ∷ test 27
    (leb 1 budget && leb budget most_orders) ∷ [])
order-says a ts minute budget = unfold order_reply order_refusal in
    let says : ℕ → Said = λ n. (order_replied a ts budget n).answer in let h = order-refuses a ts budget in
    in-front says h _ 25 _ _ (in-front says h _ 2 _ _ (in-front says h _ 3 _ _ (in-front says h _ 21 _ _
    (in-front says h _ 24 _ _ (in-front says h _ 26 0 [] (unfold order_replied refusal_of first_failing in refl))))))

pub call-says : (c : Call) (m : Machine) → refusal_of (call c m).reply.answer ≡ first_failing (tests_of c m)
unfolding call tests_of begin_turn abort_turn answer_with step_turn commit_turn places_turn window_turn undo_turn order_turn
    admission_of_begin shared admission_of_window window_refusal admission_of_undo passing
call-says (begin t) m = let says : ℕ → Said = λ k. (passing k [] m (begin_turn t m)).reply.answer in
    let h = passing-refuses [] m (begin_turn t m) in
    two-in-front says h m _ _ (in-front says h _ 2 _ _ (in-front says h _ 4 0 [] nothing-fails))
call-says (on t o) m = four-in-front (buffer_of o) m (step_turn t o m) t _ (served-says t o m _ _ ∙ step-says t o m)
call-says (commit t minute) m = four-in-front [] m (commit_turn t minute m) t _ (decided-says t _ _ m _ _ _ _)
call-says (abort t) m = four-in-front [] m (abort_turn t m) t [] nothing-fails
call-says (places t f out) m = four-in-front out m (places_turn t f out m) t _ (places-says _ f out _)
call-says (set_window f start end) m = let says : ℕ → Said = λ k. (passing k [] m (window_turn f start end m)).reply.answer in
    let h = passing-refuses [] m (window_turn f start end m) in
    two-in-front says h m _ _ (in-front says h _ 5 _ _ (in-front says h _ 21 0 [] nothing-fails))
call-says undo_commit m = let says : ℕ → Said = λ k. (passing k [] m (undo_turn m)).reply.answer in
    let h = passing-refuses [] m (undo_turn m) in
    two-in-front says h m _ _ (in-front says h _ 22 _ _ (in-front says h _ 23 0 [] nothing-fails))
call-says (best_order ts minute budget) m =
    let says : ℕ → Said = λ k. (passing k [] m (order_turn ts minute budget m)).reply.answer in
    two-in-front says (passing-refuses [] m (order_turn ts minute budget m)) m 0 _ (order-says (asked_of minute m) ts minute budget)

pub fresh-says : (numbers : List ℕ) (m : Machine)
    → refusal_of (fresh numbers m).reply.answer ≡ first_failing (fresh_tests numbers m)
unfolding fresh fresh_tests admission_of_fresh answer_with passing
fresh-says numbers m = let w = answer_with done_answer (fresh_machine numbers m.logs m.undo) in
    let says : ℕ → Said = λ k. (passing k [] m w).reply.answer in let h = passing-refuses [] m w in
    in-front says h _ 0 _ _ (in-front says h _ 13 0 [] nothing-fails)

-- ---- the rows

pub refusal-rows : (c : Call) (m : Machine) → map (λ (x : Test). x.number) (tests_of c m) ≡ refusals_of c
unfolding tests_of step_tests first_four first_two refusals_of
refusal-rows (begin t) m = refl
refusal-rows (on t (seek d v)) m = refl
refusal-rows (on t (write d bytes)) m = refl
refusal-rows (on t (get_file_pointer d)) m = refl
refusal-rows (on t (read d n buffer)) m = refl
refusal-rows (commit t minute) m = refl
refusal-rows (abort t) m = refl
refusal-rows (places t f out) m = refl
refusal-rows (set_window f start end) m = refl
refusal-rows undo_commit m = refl
refusal-rows (best_order ts minute budget) m = refl

pub fresh-row : (numbers : List ℕ) (m : Machine) → map (λ (x : Test). x.number) (fresh_tests numbers m) ≡ refusals_of_fresh
fresh-row numbers m = unfold fresh_tests in refl

-- The first that fails is one of them.
abbrev IsSome : Option ℕ → Type 0
IsSome none = ⊥
IsSome (some n) = Unit {0}

none-not-some : (n : ℕ) → ◌≡◌ {A = Option ℕ} none (some n) → ⊥
none-not-some n e = subst IsSome (sym e) tt

first-is-in : (tests : List Test) (n : ℕ) → first_failing tests ≡ some n → is_in n (map (λ (x : Test). x.number) tests) ≡ true
unfolding first_failing is_in
first-is-in [] n e = absurd (none-not-some n e)
first-is-in (x ∷ tests) n e = pick x.passes e (first-is-in tests n)
  where
    pick : (b : Bool) → cond b (first_failing tests) (some x.number) ≡ some n
        → (first_failing tests ≡ some n → is_in n (map (λ (y : Test). y.number) tests) ≡ true)
        → (eqb n x.number || is_in n (map (λ (y : Test). y.number) tests)) ≡ true
    pick true e r = ap (λ (b : Bool). eqb n x.number || b) (r e) ∙ or-true (eqb n x.number)
    pick false e r = ap (λ (b : Bool). b || is_in n (map (λ (y : Test). y.number) tests))
        (eq-eqb n x.number (sym (some-injective x.number n e)))

pub call_known : (c : Call) (m : Machine) (n : ℕ) → (call c m).reply.answer ≡ refused n → is_in n (refusals_of c) ≡ true
unfolding refusal_of
call_known c m n e = subst (λ (ns : List ℕ). is_in n ns ≡ true) (refusal-rows c m)
    (first-is-in (tests_of c m) n (sym (call-says c m) ∙ ap refusal_of e))

pub fresh-known : (numbers : List ℕ) (m : Machine) (n : ℕ) → (fresh numbers m).reply.answer ≡ refused n
    → is_in n refusals_of_fresh ≡ true
unfolding refusal_of
fresh-known numbers m n e = subst (λ (ns : List ℕ). is_in n ns ≡ true) (fresh-row numbers m)
    (first-is-in (fresh_tests numbers m) n (sym (fresh-says numbers m) ∙ ap refusal_of e))
