-- Demand 3: the rules on records and buffers.
use mathlib.Core.{Bool.{Bool, true, false, cond, ◌&&◌}, List.{List, [], ◌∷◌}, Logic.◌↔◌}
use mathlib.Core.Path.{◌≡◌, refl, sym, ap, ap₂, ◌∙◌, subst, subst⁻¹}
use borrow.Author.Tests.{le-leb}
use lib.{Dec.leb, ListN.get_or}
use native.Mathlib.Omega.{arith}
use Prim.Native.Nat.{ℕ, zero, suc, ◌≤◌}
use Rattle.limits.specs.Limits.{transaction_count, last_transaction}
use Rattle.windows.specs.Windows.{Windows, fresh_windows}
use Rattle.buffers.specs.Bits.{bits_of}
use Rattle.state.specs.{StoreMeaning.transaction, Outcomes.{Said, done_answer, pointer, given, granted, pairs, ordered, refused}}
use Rattle.admission.{specs.Admission.admission_of_fresh, proofs.Laws.admitted-fresh}
use Rattle.spec.specs.Commits.{commit_refusal}
use Rattle.spec.specs.Messages.{Call, begin, on, commit, abort, Reply, places, set_window, undo_commit, best_order, after_all}
use Rattle.spec.specs.Messages.{replies_to}
use Rattle.spec.specs.Plain.{is_running, Earlier, nothing, Slot, closed, running, Running, Plain, start_plain, PlainTurn}
use Rattle.spec.specs.Plain.{became_stale, plain_committed, plain_commit, with_number, plain_call, plain_after, first_list}
use Rattle.spec.specs.{Plain.second_list, Items.Values, Sightings.Committed, Machine.{Machine, sizes}}
use Rattle.spec.specs.Calls.{Turn, answer_with, refuse_turn, passing, fresh_machine, fresh, call, calls_after, calls_replies}
use Rattle.spec.specs.Serializability.{IsAccepted, OneMoment, Holds}
use Rattle.spec.specs.SerializabilityOfStore.{FreshlyMade, the_store, Serializability}
use Rattle.spec.proofs.Abstract.AbstractStore.{OpenTxn, Seat, vacant, occupied, none, Abstract, start_abstract}
use Rattle.spec.proofs.Abstract.AbstractStore.{AbstractTurn, abstract_call, abstract_after, abstract_replies}
use Rattle.spec.proofs.Abstract.{SameReplies.{back_of, abs, abs_turn, seat_of}, Starts.start-stays}
use Rattle.spec.proofs.Abstract.AbstractSerializability.{replies-same, state-same, turn-same, store-commit, again-same}
use Rattle.spec.proofs.Abstract.AbstractSerializability.{again-left, moment-same}
use Rattle.spec.proofs.Refinement.{Relation.{Sound, open_txn_in, seat, view}, Admissions.TurnsAgree, StepTurn.step-turn}
use Rattle.spec.proofs.Refinement.EndTurns.{begin-turn, abort-turn, commit-turns-agree, places-turn}
use Rattle.spec.proofs.{Abstract.PlainInvariant.GoodEarlier, Refinement.{WindowTurn.window-turn, UndoTurn.back-turn}}
use Rattle.spec.proofs.Refinement.{OrderTurn.order-turn, FreshView.{fresh-sound, fresh-view, closed_at}}
use Rattle.spec.proofs.Theorems.{Answers.answer-not-refused, Ranges.never-early}

-- Every call agrees with that of the abstract store.
pub call-turn : (c : Call) (m : Machine) → Sound m → TurnsAgree (call c m) (abstract_call c (view m))
call-turn (begin t) m s = begin-turn m t s
call-turn (on t o) m s = step-turn m t o s
call-turn (commit t minute) m s = commit-turns-agree m t s minute
call-turn (abort t) m s = abort-turn m t s
call-turn (places t f out) m s = places-turn m t s f out
call-turn (set_window f start end) m s = window-turn m f start end s
call-turn undo_commit m s = back-turn m s
call-turn (best_order ts minute budget) m s = order-turn minute m s ts budget

-- .. and so does every list of calls.
pub record StoresAgree (cs : List Call) (m : Machine) : Type 0 where
  pub replies : calls_replies cs m ≡ abstract_replies cs (view m)
  pub state : view (calls_after cs m) ≡ abstract_after cs (view m)
  pub sound : Sound (calls_after cs m)

pub calls-agree : (cs : List Call) (m : Machine) → Sound m → StoresAgree cs m
unfolding abstract_replies abstract_after after_all replies_to
calls-agree [] m s = record { replies = refl; state = refl; sound = s }
calls-agree (c ∷ cs) m s = let a = call-turn c m s in let r = calls-agree cs (call c m).after a.2 in record {
  replies = ap₂ (λ (x : Reply) (xs : List Reply). x ∷ xs) a.0 (r.replies ∙ ap (abstract_replies cs) a.1);
  state = r.state ∙ ap (abstract_after cs) a.1;
  sound = r.sound;
}

-- An accepted Fresh passed its tests, and leaves the fresh store.
fresh-passed : (k : ℕ) (m : Machine) (w : Turn) → (passing k [] m w).reply.answer ≡ done_answer → k ≡ 0
unfolding passing refuse_turn
fresh-passed zero m w e = refl
fresh-passed (suc k) m w e = absurd (answer-not-refused done_answer (suc k) tt (sym e))

pub record FreshFacts (numbers : List ℕ) (m : Machine) : Type 0 where
  pub sound : Sound m
  pub same : view m ≡ start_abstract (λ d. get_or numbers d 0) (λ i. 0) fresh_windows none
  pub closed : (t : ℕ) → t ≤ last_transaction → (transaction m.store t).begun ≡ false

pub fresh-facts : (numbers : List ℕ) (m : Machine) → FreshlyMade numbers m → FreshFacts numbers m
unfolding fresh answer_with passing
fresh-facts numbers m f = let b = f.before in let k = admission_of_fresh (sizes b) numbers in
    let z : k ≡ 0 = fresh-passed k b (answer_with done_answer (fresh_machine numbers b.logs b.undo)) f.accepted in
    let a = admitted-fresh (sizes b) numbers z in
    let e : m ≡ fresh_machine numbers b.logs b.undo = f.gave
    ∙ ap (λ (n : ℕ). (passing n [] b (answer_with done_answer (fresh_machine numbers b.logs b.undo))).after) z in record {
      sound = subst⁻¹ (λ (x : Machine). Sound x) e
          (fresh-sound numbers b.logs b.undo a.sixteen a.numbers a.lengths.logs a.lengths.undo);
      same = ap view e ∙ fresh-view numbers b.logs b.undo;
      closed = λ t l. ap (λ (x : Machine). (transaction x.store t).begun) e
          ∙ closed_at numbers b.logs b.undo t (omega arith);
    }

-- Whether a seat is taken.
taken : Seat → Bool
taken vacant = false
taken (occupied h) = true

seat-taken : (b : Bool) (h : OpenTxn) → taken (cond b (occupied h) vacant) ≡ b
unfolding taken
seat-taken true h = refl
seat-taken false h = refl

slot-taken : (p : Plain) (s : Slot) → taken (seat_of p s) ≡ is_running s
unfolding taken seat_of is_running
slot-taken p closed = refl
slot-taken p (running r) = refl

open-same : (m : Machine) (p : Plain) → view m ≡ abs p → (t : ℕ) → t ≤ last_transaction → (transaction m.store t).begun
    ≡ is_running (p.slots t)
unfolding view seat abs
open-same m p e t l = sym (ap (λ (b : Bool). b && (transaction m.store t).begun) (le-leb t last_transaction l))
    ∙ sym (seat-taken (leb t last_transaction && (transaction m.store t).begun) (open_txn_in m t))
    ∙ ap (λ (s : Abstract). taken (s.seats t)) e ∙ slot-taken p (p.slots t)

-- The octet of a granted Commit on the reference model.
octet_in : Said → ℕ
octet_in done_answer = 0
octet_in (pointer o) = 0
octet_in (given n) = 0
octet_in (granted n) = n
octet_in (pairs n) = 0
octet_in (ordered grants gap tried) = 0
octet_in (refused n) = 0

pub record Expected (t : ℕ) (p : Plain) (τ : PlainTurn) : Type 0 where
  pub octet : (n : ℕ) → τ.reply.answer ≡ granted n → n ≡ bits_of (became_stale t p τ.after) transaction_count

not-expected : (t : ℕ) (p : Plain) (τ : PlainTurn) (k : ℕ) → τ.reply.answer ≡ refused k → Expected t p τ
not-expected t p τ k e = record { octet = λ n g. absurd (answer-not-refused (granted n) k tt (sym g ∙ e)) }

expected-decided : (t : ℕ) (r : Running) (p : Plain) (daily stale shut placed : Bool)
    → Expected t p (plain_committed t r p (commit_refusal daily stale shut placed))
unfolding plain_committed commit_refusal answer_with octet_in
expected-decided t r p false stale shut placed = not-expected t p _ 22 refl
expected-decided t r p true true shut placed = not-expected t p _ 13 refl
expected-decided t r p true false true placed = not-expected t p _ 21 refl
expected-decided t r p true false false true = record { octet = λ n g. sym (ap octet_in g) }
expected-decided t r p true false false false = not-expected t p _ 12 refl

expected-slot : (t minute : ℕ) (s : Slot) (p : Plain) → Expected t p (plain_commit t minute s p)
unfolding plain_commit refuse_turn
expected-slot t minute closed p = not-expected t p _ 4 refl
expected-slot t minute (running r) p = expected-decided t r p _ _ _ _

expected : (b : Bool) (t minute : ℕ) (p : Plain)
    → Expected t p (cond b (plain_commit t minute (p.slots t) p) (refuse_turn 3 [] p))
unfolding refuse_turn
expected true t minute p = expected-slot t minute (p.slots t) p
expected false t minute p = not-expected t p _ 3 refl

expected-commit : (t minute : ℕ) (p : Plain) → Expected t p (plain_call (commit t minute) p)
expected-commit t minute p = unfold plain_call with_number in expected (leb t last_transaction) t minute p

-- Serializability from a sound store that stands for the abstract store with these committed values, these windows and nothing
-- open.
pub holds-from : (F : ℕ → ℕ) (v : Values) (ws : Windows) (x : Earlier) → GoodEarlier x → (m₀ : Machine) → Sound m₀
    → view m₀ ≡ start_abstract F v ws (back_of x)
    → (cs : List Call) → Holds the_store m₀ (start_plain F v ws x) cs (calls_after cs m₀) (plain_after cs (start_plain F v ws x))
holds-from F v ws x good m₀ sound start cs = unfold view abs abs_turn in let a = calls-agree cs m₀ sound in
    let m = calls_after cs m₀ in let p = plain_after cs (start_plain F v ws x) in
    let e : view m ≡ abstract_after cs (start_abstract F v ws (back_of x)) = a.state ∙ ap (abstract_after cs) start in
    let same : view m ≡ abs p = e ∙ state-same F v ws x good cs in
    let turn : (c : Call) → (call c m).reply ≡ (abstract_call c (abstract_after cs (start_abstract F v ws (back_of x)))).reply =
    λ c. (call-turn c m a.sound).0 ∙ ap (λ (s : Abstract). (abstract_call c s).reply) e in record {
      replies = a.replies ∙ ap (abstract_replies cs) start ∙ replies-same F v ws x good cs;
      openness = open-same m p same;
      staleness = λ t minute r o h. let e = turn (commit t minute) in
          subst⁻¹ (λ (x : Reply). (x.answer ≡ refused 13 → ⊥) ↔ (first_list r ≡ second_list p r)) e
          (store-commit F v ws x good cs t minute r o (λ k. h (ap (λ (x : Reply). x.answer) e ∙ k))).passes;
      octet = λ t minute n g. (expected-commit t minute p).octet n (sym (ap (λ (x : Reply). x.answer) (turn
          (commit t minute) ∙ ap (λ (τ : AbstractTurn). τ.reply) (turn-same F v ws x good cs (commit t minute)))) ∙ g);
      again = again-same F v ws x good cs;
      start = start-stays cs (start_plain F v ws x);
      left = ap (λ (s : Abstract). s.value) same ∙ sym (ap (λ (c : Committed). c.value) (again-left F v ws x good cs));
      moment = λ t o l g. let e = turn (on t o) ∙ ap (λ (τ : AbstractTurn). τ.reply) (turn-same F v ws x good cs
          (on t o)) in subst⁻¹ (OneMoment p t o) e (moment-same F v ws x good cs t o l (subst IsAccepted e g));
      ranges = λ c. never-early c m a.sound;
    }

pub serializability : Serializability
serializability numbers m₀ made cs = let f = fresh-facts numbers m₀ made in
    holds-from (λ d. get_or numbers d 0) (λ i. 0) fresh_windows nothing tt m₀ f.sound (unfold back_of in f.same) cs
