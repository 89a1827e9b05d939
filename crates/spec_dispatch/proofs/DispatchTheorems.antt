-- What is proved of the dispatcher.
use mathlib.Core.{Bool.{Bool, true, false}, List.List, Logic.{inl, inr}, Path.{◌≡◌, refl, sym, ap, ◌∙◌, subst⁻¹}}
use borrow.Author.Tests.{leb-true}
use lib.{Dec.leb, ListN.length}
use native.Mathlib.Omega.{arith}
use Prim.Native.Nat.{ℕ, ◌+◌, ◌*◌, ◌≤◌, ◌<◌}
use Rattle.limits.specs.Limits.{last_transaction, script_count, script_calls}
use Rattle.state.specs.{Journal.journal_length, StoreMeaning.{transaction, window_at}, Layout.journal_of}
use Rattle.buffers.proofs.TableLaws.{length-tabulate}
use Rattle.windows.specs.Windows.{fresh_windows}
use Rattle.admission.specs.{FirstRefusal.unless, Admission.{first_tests, sizes_in, store_in, none_begun, admission_of_dispatch}}
use Rattle.admission.proofs.Laws.{and_left, and_right, below_at, AdmittedDispatch, admitted-dispatch}
use Rattle.spec.specs.{Messages.{Call, Reply}, Machine.{Machine, sizes, file_of, values}, Calls.{calls_after, calls_replies}}
use Rattle.spec.specs.{Promises.machine_of, Plain.{closed, start_plain, plain_with_windows, is_running, plain_after}, Grants.serial_of}
use Rattle.spec.{specs.Age.{AtRest, earlier_in}, proofs.Abstract.AbstractStore.{Abstract, start_abstract, abstract_replies}}
use Rattle.spec.proofs.{Abstract.SameReplies.back_of, Theorems.Serializability.calls-agree}
use Rattle.spec.proofs.Theorems.Age.{at-rest-sound, resting-start, resting-holds}
use Rattle.refinement.proofs.Shapes.{shaped}
use Rattle.spec_dispatch.specs.Rounds.{Scripts, script_in, scripts_in, failed, goes_on, Work, nothing_done, rounds, dispatched}
use Rattle.spec_dispatch.specs.Dispatch.{store_reply, plain_reply, work_on_store, work_on_plain, dispatch, EndsScript}
use Rattle.spec_dispatch.specs.Dispatch.{AnsweredInRounds, PlainToo, Dispatches, plain_of, DispatchHolds, SameDispatch}
use Rattle.spec_dispatch.specs.Corollaries.{DispatchRefusals, IsDispatchRefusal, DispatchHoldsAtRest, FewCommits}
use Rattle.spec_dispatch.proofs.Follows.{abstract_reply, store-abstract, twins-after, WorkResting, resting-twins}
use Rattle.spec_dispatch.proofs.Same.{left_by, commits-of, gate, dispatch-refusal-is, plain-too}
use Rattle.spec_dispatch.proofs.Phases.{Laws, AtRest as Rests, rounds-rest}
use Rattle.spec_dispatch.proofs.Counting.{rounds-over, rounds-few, rounds-stop}
use Rattle.spec_dispatch.proofs.OnAbstract.{abstract-laws, abstract-first, abstract-rests, Known, PreservedOnAbstract}
use Rattle.spec_dispatch.proofs.OnAbstract.{sighted-preserved}
use Rattle.spec_dispatch.proofs.OnPlain.{Granted, plain-laws, plain-rests, plain-granted, plain_closed}

-- What passed scripts tell.
module _ (n : ℕ) (x : Scripts) (e : scripts_in n x ≡ true) where
  pub eight-scripts : x.count ≤ script_count
  eight-scripts = unfold scripts_in in leb-true x.count 8 (and_left (leb x.count 8) _ e)

  pub sixteen-calls : (k : ℕ) → k < x.count → (x.script k).count ≤ script_calls
  unfolding scripts_in script_in
  sixteen-calls k l = leb-true (x.script k).count 16 (and_left (leb (x.script k).count 16) _
      (below_at (λ k. script_in n (x.script k)) x.count k (and_right (leb x.count 8) _ e) l))

-- ---- from a store with nothing open

module _ (m : Machine) (r : WorkResting m) (bytes : List ℕ) (minute : ℕ) (x : Scripts) (reader : List ℕ)
    (e : scripts_in (length bytes) x ≡ true) where
  few : x.count ≤ script_count
  few = eight-scripts (length bytes) x e

  short : (k : ℕ) → k < x.count → (x.script k).count ≤ script_calls
  short = sixteen-calls (length bytes) x e

  -- The abstract store.
  abbrev bare : Abstract
  bare = start_abstract (file_of m.store) (values m.store m.files) (window_at m.store) (back_of (earlier_in m))

  same-replies : store_reply m ≡ abstract_reply bare
  same-replies = store-abstract m r.sound ∙ ap abstract_reply (resting-start m r.sound r.closed)

  abbrev laws : Laws (abstract_reply bare) bytes minute x
  laws = abstract-laws bare bytes minute x few

  bare-rests : Rests (abstract_reply bare) bytes minute x laws (nothing_done reader)
  bare-rests = unfold start_abstract in abstract-rests bare bytes minute x few reader (λ j. refl)

  store-bare : (j : ℕ) → rounds (store_reply m) bytes minute x j (nothing_done reader) ≡ rounds (abstract_reply bare) bytes
      minute x j (nothing_done reader)
  store-bare j = ap (λ (f : Call → List Call → Reply). rounds f bytes minute x j (nothing_done reader)) same-replies

  store-over : (k : ℕ) → k < x.count → goes_on ((work_on_store bytes minute x m reader).ends k) ≡ false
  unfolding work_on_store dispatched
  store-over k l = ap (λ (w : Work). goes_on (w.ends k)) (store-bare x.count)
      ∙ rounds-over (abstract_reply bare) bytes minute x laws (abstract-first bare bytes minute x few) reader bare-rests k l

  bare-preserved : let w = rounds (abstract_reply bare) bytes minute x x.count (nothing_done reader) in
      PreservedOnAbstract bare bytes minute x few w.made w.ends
  bare-preserved = sighted-preserved bare bytes minute x few _
      (rounds-rest (abstract_reply bare) bytes minute x laws x.count (nothing_done reader) bare-rests)

  store-known : (k n : ℕ) → (work_on_store bytes minute x m reader).ends k ≡ failed n → EndsScript n
  unfolding work_on_store dispatched
  store-known = subst⁻¹ (λ (w : Work). Known w.ends) (store-bare x.count) bare-preserved.ends

  store-answers : AnsweredInRounds (calls_replies (work_on_store bytes minute x m reader).made m)
  unfolding work_on_store dispatched
  store-answers = subst⁻¹ (λ (w : Work). AnsweredInRounds (calls_replies w.made m)) (store-bare x.count)
      (subst⁻¹ AnsweredInRounds ((calls-agree _ m r.sound).replies
      ∙ ap (abstract_replies _) (resting-start m r.sound r.closed)) bare-preserved.answers)

  store-few : 2 * (work_on_store bytes minute x m reader).commits ≤ x.count * (x.count + 1)
  unfolding work_on_store dispatched
  store-few = subst⁻¹ (λ (w : Work). 2 * w.commits ≤ x.count * (x.count + 1)) (store-bare x.count)
      (rounds-few (abstract_reply bare) bytes minute x laws (abstract-first bare bytes minute x few) reader bare-rests)

  store-stops : (j : ℕ) → rounds (store_reply m) bytes minute x (j + x.count) (nothing_done reader)
      ≡ work_on_store bytes minute x m reader
  unfolding work_on_store dispatched
  store-stops j = store-bare (j + x.count) ∙ rounds-stop (abstract_reply bare) bytes minute x laws
      (abstract-first bare bytes minute x few) reader bare-rests j ∙ sym (store-bare x.count)

  not-running : is_running closed ≡ false
  not-running = unfold is_running in refl

  none_open : (t : ℕ) → t ≤ last_transaction → (transaction m.store t).begun ≡ is_running ((plain_of m).slots t)
  none_open t l = unfold start_plain in r.closed t l ∙ sym not-running

  too : PlainToo bytes minute x m (plain_of m) reader
  too = plain-too bytes minute x m (plain_of m) reader (resting-twins m r) none_open

  -- The grants, by the reference model.
  abbrev plain_laws : Laws (plain_reply (plain_of m)) bytes minute x
  plain_laws = plain-laws (plain_of m) bytes minute x few short

  plain-ends : Rests (plain_reply (plain_of m)) bytes minute x plain_laws (work_on_plain bytes minute x (plain_of m) reader)
  unfolding work_on_plain dispatched start_plain
  plain-ends = rounds-rest (plain_reply (plain_of m)) bytes minute x plain_laws x.count (nothing_done reader)
      (plain-rests (plain_of m) bytes minute x few short reader (λ j. refl))

  -- Of a dispatcher's work.
  abbrev Grants : Work → Type 0
  Grants w = Granted bytes minute x (plain_with_windows fresh_windows (plain_of m)) (serial_of w.made (plain_of m)) w.ends

  store-granted : Grants (work_on_store bytes minute x m reader)
  store-granted = subst⁻¹ Grants too.work (plain-granted (plain_of m) bytes minute x few short _ plain-ends)

  all_closed : (j : ℕ) → (plain_after (work_on_store bytes minute x m reader).made (plain_of m)).slots j ≡ closed
  all_closed j = ap (λ (w : Work). (plain_after w.made (plain_of m)).slots j) too.work
      ∙ plain_closed (plain_of m) bytes minute x few short _ plain-ends j

  pub resting-dispatches : Dispatches bytes minute x m (plain_of m) reader
  resting-dispatches = let h = resting-holds m r.sound r.closed (work_on_store bytes minute x m reader).made in
      record {
        over = store-over;
        no_more = store-stops;
        refusals = store-known;
        answers = store-answers;
        few = store-few;
        plain_too = too;
        serial = h;
        start = store-granted.from;
        scripts = store-granted.every;
        once = store-granted.once;
        closed = λ t l. h.openness t l ∙ ap is_running (all_closed t) ∙ not-running;
      }

-- ---- refusals (demand 1)

gate-known : (a b c d : Bool) → (unless a 1 (unless b 2 (unless c 19 (unless d 20 0))) ≡ 0 → ⊥)
    → IsDispatchRefusal (unless a 1 (unless b 2 (unless c 19 (unless d 20 0))))
unfolding unless
gate-known false b c d h = inl refl
gate-known true false c d h = inr (inl refl)
gate-known true true false d h = inr (inr (inl refl))
gate-known true true true false h = inr (inr (inr refl))
gate-known true true true true h = absurd (h refl)

pub refusals-of-dispatch : DispatchRefusals
unfolding admission_of_dispatch first_tests
refusals-of-dispatch bytes minute x m reader = let e = dispatch-refusal-is bytes minute x m reader in record {
  known = λ h. subst⁻¹ IsDispatchRefusal e (gate-known (sizes_in (sizes m)) (store_in m.store m.journal)
      (none_begun m.store) (scripts_in (length bytes) x) (λ f. h (e ∙ f)));
  leaves = λ h. leaves (λ f. h (e ∙ f));
}
  where
    leaves : (gate bytes minute x m reader ≡ 0 → ⊥)
        → ((dispatch bytes minute x m reader).after ≡ m) × ((dispatch bytes minute x m reader).reader ≡ reader)
    leaves = unfold dispatch in left_by m reader _ _ (gate bytes minute x m reader)

-- ---- on any state and any buffers

module _ (state files logs marks undo bytes : List ℕ) (minute : ℕ) (x : Scripts) (reader : List ℕ) where
  abbrev found : Machine
  found = machine_of state files logs marks undo

  rests : (a : AdmittedDispatch (sizes found) found.store found.journal (scripts_in (length bytes) x)) → WorkResting found
  rests a = record {
    sound = record {
      shaped = shaped state;
      journal = unfold journal_of in length-tabulate _ journal_length;
      files = a.lengths.files;
      logs = a.lengths.logs;
      marks = a.lengths.marks;
      undo = a.lengths.undo;
      in_range = a.ranges;
    };
    closed = λ t l. a.idle t (omega arith);
  }

  passed-dispatches : gate bytes minute x found reader ≡ 0 → Dispatches bytes minute x found (plain_of found) reader
  passed-dispatches e = let a = admitted-dispatch (sizes found) found.store found.journal (scripts_in (length bytes) x)
      e in resting-dispatches found (rests a) bytes minute x reader a.pass

  few-any : 2 * (dispatch bytes minute x found reader).commits ≤ x.count * (x.count + 1)
  unfolding dispatch
  few-any = commits-of found reader (work_on_store bytes minute x found reader) _ (gate bytes minute x found reader) _
      (λ e. (passed-dispatches e).few)

pub dispatch-holds : DispatchHolds
dispatch-holds state files logs marks undo bytes minute x reader e = passed-dispatches state files logs marks undo bytes
    minute x reader (sym (dispatch-refusal-is bytes minute x (machine_of state files logs marks undo) reader) ∙ e)

pub few-commits : FewCommits
few-commits = few-any

-- ---- from a store at rest

at_rest : (m : Machine) → AtRest m → WorkResting m
at_rest m r = record { sound = at-rest-sound m r; closed = r.closed }

pub dispatch-holds-at-rest : DispatchHoldsAtRest
dispatch-holds-at-rest m r bytes minute x reader e = resting-dispatches m (at_rest m r) bytes minute x reader e

pub same-dispatch : SameDispatch
same-dispatch m r cs bytes minute x reader = let rest = at_rest m r in let p = plain_of m in
    plain-too bytes minute x (calls_after cs m) (plain_after cs p) reader (twins-after m p (resting-twins m rest) cs)
    (resting-holds m rest.sound rest.closed cs).openness
