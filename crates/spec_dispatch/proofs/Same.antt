-- The tests before the dispatcher; and that it gives on the reference model what it gives on the store.
use mathlib.Core.{Bool.{Bool, not}, List.List, Path.{◌≡◌, refl, ap, ◌∙◌, subst}}
use lib.ListN.{length}
use native.Mathlib.Omega.{arith}
use Prim.Native.Nat.{ℕ, zero, suc, ◌*◌, ◌≤◌}
use Rattle.limits.specs.Limits.{last_transaction}
use Rattle.state.specs.StoreMeaning.{transaction}
use Rattle.admission.specs.{FirstRefusal.{guarded, is_none, unless}, Admission.{none_begun, admission_of_dispatch}}
use Rattle.admission.proofs.Laws.{below-same}
use Rattle.spec.specs.{Messages.{Call, Reply}, Machine.{Machine, sizes, values}, Calls.calls_after}
use Rattle.spec.{specs.Plain.{Plain, is_running, none_running, plain_after}, proofs.Abstract.AbstractStore.Abstract}
use Rattle.spec.proofs.{Abstract.SameReplies.abs, Refinement.{Relation.view, Admissions.first-is}}
use Rattle.spec_dispatch.specs.Rounds.{Scripts, scripts_in, Work, dispatched}
use Rattle.spec_dispatch.specs.Dispatch.{work_on_store, work_on_plain, Dispatched, reported, not_started, dispatch}
use Rattle.spec_dispatch.specs.Dispatch.{plain_dispatch, SameGiven, PlainToo}
use Rattle.spec_dispatch.proofs.Follows.{TwinWork, store-plain, twins-after}

-- ---- the tests before it

-- A dispatcher that starts where its tests pass: its refusal is theirs.
module _ {M : Type 0} (m : M) (reader : List ℕ) (work : Work) (after : M) where
  abbrev pub if_passed : ℕ → Dispatched M
  if_passed n = guarded (not_started m reader) (is_none n) n (reported work after)

  pub refusal-of : (n : ℕ) → (if_passed n).refusal ≡ n
  unfolding reported not_started
  refusal-of zero = refl
  refusal-of (suc n) = refl

  pub left_by : (n : ℕ) → (n ≡ 0 → ⊥) → ((if_passed n).after ≡ m) × ((if_passed n).reader ≡ reader)
  unfolding not_started
  left_by zero h = absurd (h refl)
  left_by (suc n) h = (refl, refl)

  pub commits-of : (n bound : ℕ) → (n ≡ 0 → 2 * work.commits ≤ bound) → 2 * (if_passed n).commits ≤ bound
  unfolding reported not_started
  commits-of zero bound h = h refl
  commits-of (suc n) bound h = omega arith

module _ (bytes : List ℕ) (minute : ℕ) (x : Scripts) (m : Machine) (reader : List ℕ) where
  abbrev pub gate : ℕ
  gate = admission_of_dispatch (sizes m) m.store m.journal (scripts_in (length bytes) x)

  pub dispatch-refusal-is : (dispatch bytes minute x m reader).refusal ≡ gate
  dispatch-refusal-is = unfold dispatch in refusal-of m reader _ _ gate

-- ---- on the reference model too

same-committed : (m : Machine) (p : Plain) → TwinWork m p → values m.store m.files ≡ p.committed.value
same-committed m p t = unfold view abs in ap (λ (z : Abstract). z.value) t.same

-- Nobody is open in the store where nobody is on the reference model.
none-same : (m : Machine) (p : Plain) → ((t : ℕ) → t ≤ last_transaction → (transaction m.store t).begun ≡ is_running (p.slots t))
    → none_begun m.store ≡ none_running p
none-same m p h = unfold none_begun none_running in below-same _ _ 8 (λ t l. ap not (h t (omega arith)))

module _ (bytes : List ℕ) (minute : ℕ) (x : Scripts) (m : Machine) (p : Plain) (reader : List ℕ) (t : TwinWork m p)
    (opened : (t : ℕ) → t ≤ last_transaction → (transaction m.store t).begun ≡ is_running (p.slots t)) where
  -- What the two dispatchers give where their tests say n, after the work w.
  abbrev by_store : Work → ℕ → Dispatched Machine
  by_store w n = if_passed m reader w (calls_after w.made m) n

  abbrev by_plain : Work → ℕ → Dispatched Plain
  by_plain w n = if_passed p reader w (plain_after w.made p) n

  same-passed : (w : Work) (n : ℕ) → SameGiven (by_store w n) (by_plain w n)
  unfolding reported not_started
  same-passed w zero = let u = twins-after m p t w.made in
      record { refusal = refl; ends = refl; commits = refl; reader = refl; committed = same-committed _ _ u }
  same-passed w (suc n) = record { refusal = refl; ends = refl; commits = refl; reader = refl; committed = same-committed m p t }

  abbrev plain_gate : ℕ
  plain_gate = unless (none_running p) 19 (unless (scripts_in (length bytes) x) 20 0)

  same-gate : gate bytes minute x m reader ≡ plain_gate
  unfolding admission_of_dispatch
  same-gate = first-is m (unless (none_begun m.store) 19 (unless (scripts_in (length bytes) x) 20 0)) t.sound
      ∙ ap (λ (b : Bool). unless b 19 (unless (scripts_in (length bytes) x) 20 0)) (none-same m p opened)

  same-work : work_on_store bytes minute x m reader ≡ work_on_plain bytes minute x p reader
  unfolding work_on_store work_on_plain
  same-work = ap (λ (f : Call → List Call → Reply). dispatched f bytes minute x reader) (store-plain m p t)

  pub plain-too : PlainToo bytes minute x m p reader
  unfolding dispatch plain_dispatch
  plain-too = let w = work_on_store bytes minute x m reader in let n = gate bytes minute x m reader in record {
    given = subst (λ (v : Work). SameGiven (by_store w n) (by_plain v plain_gate)) same-work
        (subst (λ (a : ℕ). SameGiven (by_store w n) (by_plain w a)) same-gate (same-passed w n));
    work = same-work;
  }
