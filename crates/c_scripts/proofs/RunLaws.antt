-- From what the dispatcher answers to its codes.
use mathlib.Core.{List.List, Path.{◌≡◌, refl, ap, subst, ◌∙◌}}
use Prim.Native.Nat.{ℕ, zero, suc}
use lib.IntN.{ℤ}
use Rattle.buffers.{specs.Parts.tabulate, proofs.TableLaws.table_same}
use Rattle.state.specs.Outcomes.{said}
use Rattle.spec.specs.{Machine.Machine, Promises.LeftAsFound}
use Rattle.spec_dispatch.specs.Dispatch.{dispatch}
use Rattle.dispatcher.specs.declared.{ends.Dispatched.Dispatched, scripts.{ScriptCall.TheVariants.Write, Scripts.Scripts}}
use Rattle.dispatcher.specs.{Types.{scripts_of, end_at}, Promise.GivesDispatch}
use Rattle.c_codes.{specs.Codes.code_of, proofs.CodeLaws.left-of}
use Rattle.c_scripts.specs.FlatScripts.{flat_call_of, scripts_from, end_code, Runs}

module _ (bytes : List ℕ) (minute : ℕ) (s : Scripts) (xs : List ℕ) (m : Machine) (reader : List ℕ) (d : Dispatched) (m' : Machine)
    (reader' before after : List ℕ) (r : ℤ) (told : List ℕ) where
  abbrev pub Promised : Scripts → Type 0
  Promised x = GivesDispatch (dispatch bytes minute (scripts_of x) m reader) (scripts_of x).count d m' reader' × LeftAsFound
      d.outcome before after

  pub runs :
      s ≡ scripts_from xs → Promised s → r ≡ code_of (said d.outcome) → told ≡ tabulate (λ k. end_code (end_at d.ends k)) 8
      → Runs (dispatch bytes minute (scripts_of (scripts_from xs)) m reader) r told d.commits m' reader' before after
  runs e asked q t = let h = subst Promised e asked in record {
    answer = q ∙ ap code_of h.0.outcome;
    ends = t ∙ table_same _ _ 8 (λ k l. ap end_code (h.0.ends k l));
    made = h.0.commits;
    machine = h.0.machine;
    buffer = h.0.reader;
    left = λ n p other. left-of d.outcome _ _ h.1 n (h.0.outcome ∙ p) other;
  }

-- No kind of call.
pub no_kind : (kind d at n : ℕ) → (kind ≡ 0 → ⊥) → (kind ≡ 1 → ⊥) → (kind ≡ 2 → ⊥) → (kind ≡ 3 → ⊥)
    → Write d 18446744073709551615 1 ≡ flat_call_of kind d at n
unfolding flat_call_of
no_kind zero d at n p q r s = absurd (p refl)
no_kind (suc zero) d at n p q r s = absurd (q refl)
no_kind (suc (suc zero)) d at n p q r s = absurd (r refl)
no_kind (suc (suc (suc zero))) d at n p q r s = absurd (s refl)
no_kind (suc (suc (suc (suc kind)))) d at n p q r s = refl
