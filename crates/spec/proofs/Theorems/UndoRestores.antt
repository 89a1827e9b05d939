-- Request F-13: after a grant, any calls without another, and an accepted undo, the store has the files, offsets and lengths that
-- the grant found.
use mathlib.Core.{Bool.{Bool, true, false, cond, true≢false}, List.{List, [], ◌∷◌}, Logic.{◌⊎◌, inl, inr}}
use mathlib.Core.Path.{◌≡◌, refl, sym, ap, ◌∙◌, subst⁻¹}
use lib.{Dec.{leb, eqb}, Seq.ext_get_or}
use native.Mathlib.Omega.{arith}
use Prim.Native.Nat.{ℕ, zero, suc}
use Rattle.limits.specs.Limits.{last_transaction}
use Rattle.windows.specs.Windows.{minute_in}
use Rattle.state.specs.Outcomes.{done_answer}
use Rattle.admission.{specs.FirstRefusal.guarded, proofs.Laws.in-range}
use Rattle.spec.specs.Items.{byte, offset, file_length, Values}
use Rattle.spec.specs.Messages.{Call, begin, on, commit, abort, places, set_window, undo_commit, best_order, Reply, is_grant}
use Rattle.spec.specs.{Messages.{grants_among, after_all, replies_to}, Commits.{fits, commit_refusal}, Windows.for_closed}
use Rattle.spec.specs.{Machine.{Machine, values, txn_of}, Calls.{call, calls_after, calls_replies}}
use Rattle.spec.specs.Recovery.{recovered, ProgramRun, runs_after}
use Rattle.spec.specs.UndoRestores.{SameCommitted, grants_in_runs, UndoRestores}
use Rattle.spec.proofs.Abstract.AbstractStore.{OpenTxn, Seat, vacant, occupied, Saved, none, preserved, Abstract}
use Rattle.spec.proofs.Abstract.AbstractStore.{abstract_refuse, abstract_answer, returned, with_seat, granting}
use Rattle.spec.proofs.Abstract.AbstractStore.{abstract_committed, abstract_commit, seated, none_occupied, abstract_return}
use Rattle.spec.proofs.Abstract.AbstractStore.{abstract_undo, abstract_call, start_abstract}
use Rattle.spec.proofs.Refinement.{Relation.{back_in, view, Sound}, Decode.decoded-in, Grants.granted-preserved}
use Rattle.spec.proofs.Theorems.{Answers.answer-not-refused, Serializability.{call-turn, calls-agree}}
use Rattle.spec.proofs.Theorems.{Recovery.{recovered-sound, recovered-view, reached-sound}, Lengths.preserved-call}
use Rattle.spec.proofs.Theorems.ClosedFiles.{commit-passed}

module _ (w : Values) where
  -- It would go back there, or nowhere.
  abbrev Or : Saved → Type 0
  Or b = (b ≡ preserved w) ⊎ (b ≡ none)

  -- A Commit that is not granted.
  module _ (s : Abstract) (now : Or s.back) where
    decided-or : (t : ℕ) (h : OpenTxn) (n : ℕ) → is_grant (abstract_committed t h s n).reply.answer ≡ 0
        → Or (abstract_committed t h s n).after.back
    unfolding abstract_committed granting is_grant
    decided-or t h zero e = let z : ◌≡◌ {A = ℕ} 1 0 = e in absurd (omega arith)
    decided-or t h (suc n) e = pick (eqb (suc n) 13)
      where
        pick : (b : Bool) → Or (cond b (with_seat t vacant s) s).back
        pick true = unfold with_seat in now
        pick false = now

    seat-or : (t minute : ℕ) (x : Seat) → is_grant (abstract_commit t minute x s).reply.answer ≡ 0
        → Or (abstract_commit t minute x s).after.back
    unfolding abstract_commit abstract_refuse
    seat-or t minute vacant e = now
    seat-or t minute (occupied h) e = decided-or t h (commit_refusal (minute_in minute) h.stale
        (for_closed s.file_of s.windows minute h.txn.writes) (fits s.value h.txn)) e

    commit-or : (t minute : ℕ) → is_grant (abstract_call (commit t minute) s).reply.answer ≡ 0
        → Or (abstract_call (commit t minute) s).after.back
    unfolding abstract_call seated
    commit-or t minute e = pick (leb t last_transaction) e
      where
        pick : (b : Bool) → is_grant (cond b (abstract_commit t minute (s.seats t) s) (abstract_refuse 3 [] s)).reply.answer ≡ 0
            → Or (cond b (abstract_commit t minute (s.seats t) s) (abstract_refuse 3 [] s)).after.back
        pick true k = seat-or t minute (s.seats t) k
        pick false k = unfold abstract_refuse in now

    -- Any other call.
    other-or : (c : Call) → ((t minute : ℕ) → c ≡ commit t minute → ⊥) → Or (abstract_call c s).after.back
    other-or c e = preserved-call (λ v b. Or b) s now false true (λ g. absurd (true≢false (sym g))) (λ g v k. inr refl) c
        (λ t minute k. absurd (e t minute k)) (λ k. refl)

    call-or : (c : Call) → is_grant (abstract_call c s).reply.answer ≡ 0 → Or (abstract_call c s).after.back
    call-or (begin t) e = other-or (begin t) (λ u n k. true≢false cc)
    call-or (on t o) e = other-or (on t o) (λ u n k. true≢false cc)
    call-or (commit t minute) e = commit-or t minute e
    call-or (abort t) e = other-or (abort t) (λ u n k. true≢false cc)
    call-or (places t f out) e = other-or (places t f out) (λ u n k. true≢false cc)
    call-or (set_window f start end) e = other-or (set_window f start end) (λ u n k. true≢false cc)
    call-or undo_commit e = other-or undo_commit (λ u n k. true≢false cc)
    call-or (best_order ts minute budget) e = other-or (best_order ts minute budget) (λ u n k. true≢false cc)

  -- A list of calls without a grant.
  calls-or : (cs : List Call) (m : Machine) → Sound m → Or (view m).back → grants_among (calls_replies cs m) ≡ 0
      → Or (view (calls_after cs m)).back
  unfolding grants_among after_all replies_to
  calls-or [] m sound now e = now
  calls-or (c ∷ cs) m sound now e = let a = call-turn c m sound in
      let first : is_grant (call c m).reply.answer ≡ 0 = omega arith in
      let rest : grants_among (calls_replies cs (call c m).after) ≡ 0 = omega arith in
      calls-or cs (call c m).after a.2 (subst⁻¹ (λ (s : Abstract). Or s.back) a.1
      (call-or (view m) now c (sym (ap (λ (r : Reply). is_grant r.answer) a.0) ∙ first))) rest

  -- Runs without one.
  recovered-or : (logs marks : List ℕ) (m : Machine) → Or (view m).back → Or (view (recovered logs marks m)).back
  unfolding view start_abstract
  recovered-or logs marks m now = subst⁻¹ (λ (s : Abstract). Or s.back) (recovered-view logs marks m) now

  runs-or : (rs : List ProgramRun) (m : Machine) → Sound m → Or (view m).back → grants_in_runs rs m ≡ 0
      → Sound (runs_after rs m) × Or (view (runs_after rs m)).back
  unfolding grants_in_runs runs_after
  runs-or [] m sound now e = (sound, now)
  runs-or (r ∷ rs) m sound now e = let k = calls_after r.calls m in
      let first : grants_among (calls_replies r.calls m) ≡ 0 = omega arith in
      let rest : grants_in_runs rs (recovered r.logs r.marks k) ≡ 0 = omega arith in
      runs-or rs (recovered r.logs r.marks k)
      (recovered-sound r.logs r.marks k (calls-agree r.calls m sound).sound r.logs_length r.marks_length)
      (recovered-or r.logs r.marks k (calls-or r.calls m sound now first)) rest

  preserved-same : (v : Values) → Or (preserved v) → v ≡ w
  preserved-same v (inl e) = ap first e
    where
      first : Saved → Values
      first none = w
      first (preserved x) = x
  preserved-same v (inr e) = let z : ◌≡◌ {A = ℕ} 1 0 = ap expected e in absurd (omega arith)
    where
      expected : Saved → ℕ
      expected none = 0
      expected (preserved x) = 1

  -- The undo.
  back-or : (s : Abstract) → Or s.back → (abstract_undo s).reply.answer ≡ done_answer → (abstract_undo s).after.value ≡ w
  unfolding abstract_undo
  back-or s now e = pick (none_occupied s) s.back now e
    where
      pick : (b : Bool) (x : Saved) → Or x → (guarded (λ k. abstract_refuse k [] s) b 23 (abstract_return x s)).reply.answer
          ≡ done_answer → (guarded (λ k. abstract_refuse k [] s) b 23 (abstract_return x s)).after.value ≡ w
      pick false x q k = unfold abstract_refuse in absurd (answer-not-refused done_answer 23 tt (sym k))
      pick true none q k = unfold abstract_return abstract_refuse in absurd (answer-not-refused done_answer 24 tt (sym k))
      pick true (preserved v) q k = unfold abstract_return abstract_answer returned in preserved-same v q

-- Equal committed values, in sound stores.
same-committed : (m n : Machine) → Sound m → Sound n → values n.store n.files ≡ values m.store m.files
    → SameCommitted m n
same-committed m n a b e = record {
  files = ext_get_or 0 n.files m.files (b.files ∙ sym a.files)
      (λ i l. (unfold values in ap (λ (v : Values). v (byte i)) e));
  offsets = ext_get_or 0 n.store.offsets m.store.offsets (b.shaped.offsets ∙ sym a.shaped.offsets)
      (λ i l. (unfold values in ap (λ (v : Values). v (offset i)) e));
  lengths = ext_get_or 0 n.store.lengths m.store.lengths (b.shaped.lengths ∙ sym a.shaped.lengths)
      (λ i l. (unfold values in ap (λ (v : Values). v (file_length i)) e));
}

value_of : (k : Machine) (s : Abstract) → view k ≡ s → values k.store k.files ≡ s.value
value_of k s e = unfold view in ap (λ (z : Abstract). z.value) e

or-start : (m : Machine) (w : Values) → back_in m ≡ preserved w → Or w (view m).back
or-start m w e = unfold view in inl e

back-taken : (w : Values) (s : Abstract) → Or w s.back → (abstract_call undo_commit s).reply.answer ≡ done_answer
    → (abstract_call undo_commit s).after.value ≡ w
back-taken w s now e = unfold abstract_call in back-or w s now e

pub undo-restores : UndoRestores
undo-restores before reached rs ys t minute n g none-in-runs none-granted taken = let sound =
    reached-sound before reached in let v = values before.store before.files in
    let p = commit-passed before t minute n g in let r = in-range before.store before.journal sound.in_range in
    let x = txn_of before.store before.journal before.logs t in
    let ranges = decoded-in before.store before.journal before.logs t sound.logs p.admitted.small
    (r.transactions t p.admitted.small p.begun) (sound.shaped.descriptors t p.admitted.small) in
    let after = (call (commit t minute) before).after in let after-sound = (call-turn (commit t minute) before sound).2 in
    let kept_there : back_in after ≡ preserved v = ap back_in p.leaves ∙ granted-preserved before t x p.admitted.small
    sound ranges p.fit in let run = runs-or v rs after after-sound (or-start after v kept_there) none-in-runs in
    let found = runs_after rs after in let m = calls_after ys found in let m-sound = (calls-agree ys found run.0).sound in
    let or-there = calls-or v ys found run.0 run.1 none-granted in let a = call-turn undo_commit m m-sound in
    same-committed before (call undo_commit m).after sound a.2 (value_of (call undo_commit m).after _ a.1
    ∙ back-taken v (view m) or-there (sym (ap (λ (q : Reply). q.answer) a.0) ∙ taken))
