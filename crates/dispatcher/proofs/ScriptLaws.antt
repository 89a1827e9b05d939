-- Laws of the types of scripts, and of the tests of refusal 20.
use mathlib.Core.{Bool.{Bool, true, false, ◌&&◌, true≢false}, List.List, Logic.⊎_elim, Path.{◌≡◌, refl, sym, ap, ◌∙◌}}
use borrow.Author.Tests.{leb-true, leb-false, le-leb, lt-leb}
use lib.{Dec.leb, ListN.{get_or, set, length, replicate, get_or-replicate, get_or-eq_default}, Seq.{get_or-set_same, get_or-set_other}}
use native.Mathlib.Omega.{arith}
use Prim.Native.Nat.{ℕ, ◌+◌, ◌-◌, ◌*◌, ◌≤◌, ◌<◌}
use Rattle.limits.specs.Limits.{script_count, last_script, script_calls}
use Rattle.buffers.proofs.PartLaws.{le-or-lt}
use Rattle.admission.{specs.FirstRefusal.below, proofs.Laws.{and_both, and_right, below_at, below_fails}}
use Rattle.spec_dispatch.proofs.DispatchTheorems.{eight-scripts}
use Rattle.spec_dispatch.specs.Rounds.{ScriptCall as CallOfScript, Scripts as SomeScripts, part_in, script_in, scripts_in}
use Rattle.dispatcher.specs.declared.scripts.{ScriptCall.ScriptCall, ScriptLine.ScriptLine, Scripts.Scripts}
use Rattle.dispatcher.specs.Types.{script_call_of, no_line, scripts_of, NoCalls, OneMore}

-- ---- scripts made

abbrev made : List ScriptLine → List ℕ → ℕ → Scripts
made lines counts n = record { lines = lines; counts = counts; count = n }

pub no-calls : (lines : List ScriptLine) (n : ℕ) → NoCalls n (scripts_of (made lines (replicate script_count 0) n))
no-calls lines n = unfold scripts_of in record {
  count = refl;
  calls = λ k. ⊎_elim (λ l. get_or-eq_default (replicate 8 0) 0 l) (λ l. get_or-replicate 8 k 0 0 l) (le-or-lt 8 k);
}

-- Nothing changes where k is above 7, or the script has more than sixteen calls.
pub more-above : (k : ℕ) (c : CallOfScript) (x : SomeScripts) → last_script < k → OneMore k c x x
more-above k c x l = record {
  count = refl;
  calls = λ m n. absurd (omega arith);
  last = λ m n. absurd (omega arith);
  others = λ j h. refl;
  before = λ j i m h. refl;
  full = λ m. refl;
  none = λ m. refl;
}

pub more-full : (k : ℕ) (c : CallOfScript) (x : SomeScripts) → script_calls < (x.script k).count → OneMore k c x x
more-full k c x l = record {
  count = refl;
  calls = λ m n. absurd (omega arith);
  last = λ m n. absurd (omega arith);
  others = λ j h. refl;
  before = λ j i m h. refl;
  full = λ m. refl;
  none = λ m. refl;
}

module _ (lines : List ScriptLine) (counts : List ℕ) (count k n : ℕ) (v : ScriptCall) (small : k < script_count)
    (eight : length counts ≡ script_count) (e : n ≡ get_or counts k 0) where
  raised : get_or (set counts k (n + 1)) k 0 ≡ get_or counts k 0 + 1
  raised = get_or-set_same counts k (n + 1) 0 (omega arith) ∙ ap (λ (m : ℕ). m + 1) e

  pub more-counted : n ≡ script_calls → OneMore k (script_call_of v) (scripts_of (made lines counts count))
      (scripts_of (made lines (set counts k (n + 1)) count))
  more-counted q = unfold scripts_of in record {
    count = refl;
    calls = λ m l. raised;
    last = λ m l. absurd (omega (arith, e));
    others = λ j h. get_or-set_other counts k j (n + 1) 0 h;
    before = λ j i l h. refl;
    full = λ l. absurd (omega (arith, e));
    none = λ l. absurd (omega arith);
  }

  pub more_added : n < script_calls → length lines ≡ 128 → OneMore k (script_call_of v) (scripts_of (made lines counts count))
      (scripts_of (made (set lines (16 * k + n) (record { call = v })) (set counts k (n + 1)) count))
  more_added q long = unfold scripts_of in let added : List ScriptLine = set lines (16 * k + n) (record { call = v }) in
      let there : get_or added (16 * k + n) no_line ≡ record { call = v } =
      get_or-set_same lines (16 * k + n) (record { call = v }) no_line (omega arith) in record {
        count = refl;
        calls = λ m l. raised;
        last = λ m l. ap (λ (i : ℕ). script_call_of (get_or added (16 * k + i) no_line).call) (sym e)
            ∙ ap (λ (a : ScriptLine). script_call_of a.call) there;
        others = λ j h. get_or-set_other counts k j (n + 1) 0 h;
        before = λ j i l h. ap (λ (a : ScriptLine). script_call_of a.call) (get_or-set_other lines (16 * k + n) (16 * j + i)
            (record { call = v }) no_line (λ f. h (omega (arith, f)) (omega (arith, f, e))));
        full = λ l. absurd (omega (arith, e));
        none = λ l. absurd (omega arith);
      }

-- ---- the tests

pub part-past : (start size n : ℕ) → n < start → leb (start + size) n ≡ false
part-past start size n l = lt-leb (start + size) n (omega arith)

pub part-rest : (start size n : ℕ) → start ≤ n → leb size (n - start) ≡ leb (start + size) n
part-rest start size n l = pick (leb size (n - start)) refl
  where
    pick : (b : Bool) → leb size (n - start) ≡ b → leb size (n - start) ≡ leb (start + size) n
    pick true e = e ∙ sym (le-leb (start + size) n (omega (arith, leb-true size (n - start) e)))
    pick false e = e ∙ sym (lt-leb (start + size) n (omega (arith, leb-false size (n - start) e)))

and-false : (a b : Bool) → b ≡ false → a && b ≡ false
and-false true b e = e
and-false false b e = refl

and-stops : (a b : Bool) → a ≡ false → a && b ≡ false
and-stops true b e = absurd (true≢false e)
and-stops false b e = refl

-- A count of at most `most`, and a test of each below it.
module _ (p : ℕ → Bool) (most n m : ℕ) (e : m ≡ n) where
  pub counted-over : most < m → leb n most && below p n ≡ false
  counted-over l = and-stops (leb n most) (below p n) (lt-leb n most (omega arith))

  pub counted-fails : (i : ℕ) → i < m → p i ≡ false → leb n most && below p n ≡ false
  counted-fails i l f = and-false (leb n most) (below p n) (below_fails p i n (omega arith) f)

  pub counted-passes : (i : ℕ) → i ≡ m → m ≤ most → below p i ≡ true → leb n most && below p n ≡ true
  counted-passes i q l f = and_both (leb n most) (below p n) (le-leb n most (omega arith)) (ap (below p) (sym (q ∙ e)) ∙ f)

-- ---- what passed scripts tell

module _ (n : ℕ) (s : Scripts) (e : scripts_in n (scripts_of s) ≡ true) where
  pub scripts-eight : s.count ≤ script_count
  scripts-eight = unfold scripts_of in eight-scripts n (scripts_of s) e

  pub call-in : (k i : ℕ) → k < s.count → i < get_or s.counts k 0
      → part_in n (script_call_of (get_or s.lines (16 * k + i) no_line).call) ≡ true
  call-in k i l m = unfold scripts_in script_in scripts_of in let x = scripts_of s in
      below_at (λ j. part_in n ((x.script k).call j)) (x.script k).count i (and_right (leb (x.script k).count 16) _
      (below_at (λ j. script_in n (x.script j)) x.count k (and_right (leb x.count 8) _ e) l)) m
