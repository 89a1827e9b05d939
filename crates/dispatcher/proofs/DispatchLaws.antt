-- The dispatcher after its tests: refused, or what its rounds left.
use Rattle.std.specs.declared.result.Result.TheVariants.{Ok, Err}
use mathlib.Core.{Bool.{Bool, true}, List.List, Path.{◌≡◌, refl, sym, ap, ◌∙◌, subst, subst⁻¹}}
use lib.ListN.{length, replicate, get_or-replicate}
use native.Mathlib.Omega.{arith}
use Prim.Native.Nat.{ℕ, ◌+◌, ◌*◌, ◌≤◌}
use Rattle.limits.specs.Limits.{script_count}
use Rattle.state.specs.declared.outcomes.{Refusal.Refusal, Answer.TheVariants.{Done}}
use Rattle.state.specs.Outcomes.{number, said, refused}
use Rattle.admission.specs.{Admission.Gate, FirstRefusal.{guarded, is_none}}
use Rattle.admission.{specs.Admission.{admission_of_dispatch, gate_number}, proofs.Laws.{number-suc, admitted-dispatch}}
use Rattle.spec.specs.{Machine.{Machine, sizes}, Calls.calls_after}
use Rattle.refinement.proofs.TurnLaws.{gate-number, gate-zero}
use Rattle.spec_dispatch.specs.Rounds.{Scripts, scripts_in, Work}
use Rattle.spec_dispatch.specs.Dispatch.{work_on_store, Dispatched as Given, reported, not_started, dispatch}
use Rattle.dispatcher.specs.{declared.ends.Ended.Ended, Types.{end_of_script, no_end}, Steps.WorkStands}
use Rattle.dispatcher.specs.Promise.{said_of, GivesDispatch}

module _ (bytes : List ℕ) (minute : ℕ) (x : Scripts) (m : Machine) (buffer : List ℕ) where
  abbrev gate : ℕ
  gate = admission_of_dispatch (sizes m) m.store m.journal (scripts_in (length bytes) x)

  abbrev work : Work
  work = work_on_store bytes minute x m buffer

  abbrev done : Given Machine
  done = reported work (calls_after work.made m)

  -- What the tests before it say.
  module _ (g : Gate) (says : gate_number g ≡ gate) where
    pub gate-scripts : g ≡ Ok tt → scripts_in (length bytes) x ≡ true
    gate-scripts e = (admitted-dispatch (sizes m) m.store m.journal (scripts_in (length bytes) x)
        (gate-zero g gate says e)).pass

    refused-is : (r : Refusal) → g ≡ Err r → dispatch bytes minute x m buffer ≡ not_started m buffer (number r)
    unfolding dispatch
    refused-is r e = ap (λ (n : ℕ). guarded (not_started m buffer) (is_none n) n done) (sym (gate-number g gate says r e))
        ∙ ap (λ (b : Bool). guarded (not_started m buffer) b (number r) done) (ap is_none (number-suc r).1)

    done-is : g ≡ Ok tt → dispatch bytes minute x m buffer ≡ done
    done-is e = unfold dispatch in ap (λ (n : ℕ). guarded (not_started m buffer) (is_none n) n done) (gate-zero g gate says e)

    -- A refusal leaves everything.
    pub refused-gives : (r : Refusal) → g ≡ Err r → GivesDispatch (dispatch bytes minute x m buffer) x.count
        (record { outcome = Err r; ends = replicate script_count no_end; commits = 0 }) m buffer
    unfolding not_started end_of_script said said_of
    refused-gives r e = subst⁻¹ (λ (d : Given Machine). GivesDispatch d x.count
        (record { outcome = Err r; ends = replicate 8 no_end; commits = 0 }) m buffer) (refused-is r e) (record {
          outcome = ap refused (number-suc r).1 ∙ sym (ap said_of (number-suc r).1);
          ends = λ k l. ap (λ (a : Ended). end_of_script a.end) (get_or-replicate 8 k no_end no_end l);
          commits = refl;
          few = omega arith;
          machine = refl;
          reader = refl;
        })

    -- What the rounds left.
    pub done-gives : g ≡ Ok tt → (m' : Machine) (buffer' : List ℕ) (es : List Ended) (n : ℕ) → WorkStands m work m' buffer'
        es n → 2 * (dispatch bytes minute x m buffer).commits ≤ x.count * (x.count + 1) → GivesDispatch
        (dispatch bytes minute x m buffer) x.count (record { outcome = Ok Done; ends = es; commits = n }) m' buffer'
    done-gives e m' buffer' es n s few = unfold reported said said_of in let is = done-is e in
        subst⁻¹ (λ (d : Given Machine). GivesDispatch d x.count (record { outcome = Ok Done; ends = es; commits = n }) m'
        buffer') is (record {
          outcome = refl;
          ends = s.ends;
          commits = s.commits;
          few = subst (λ (c : ℕ). 2 * c ≤ x.count * (x.count + 1)) (ap (λ (d : Given Machine). d.commits) is
              ∙ sym s.commits) few;
          machine = s.machine;
          reader = s.reader;
        })
