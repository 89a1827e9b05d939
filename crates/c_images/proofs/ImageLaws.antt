-- The rules of the calls on images, after each of their tests.
use Rattle.std.specs.declared.result.Result.TheVariants.{Ok, Err}
use mathlib.Core.{Bool.{Bool, true, false, cond}, List.{List, []}, Path.{◌≡◌, refl, sym, ap, ap₂, ◌∙◌}}
use borrow.Author.Tests.{eq-eqb, ne_eqb}
use lib.ListN.{length, replicate}
use native.Mathlib.Omega.{arith}
use Prim.Native.Nat.{ℕ, ◌<◌}
use Rattle.limits.specs.Limits.{buffer_bytes}
use Rattle.state.specs.declared.{StoreMeaning.StoreMeaning, outcomes.Refusal.Refusal}
use Rattle.state.specs.Outcomes.{Outcome}
use Rattle.state.specs.{declared.outcomes.Answer.TheVariants.{Done}, Layout.{store_of, journal_of}}
use Rattle.state.specs.Outcomes.{number, done_answer, said}
use Rattle.admission.specs.{Admission.Gate, FirstRefusal.unless}
use Rattle.admission.{specs.Admission.{store_in, gate_number}, proofs.Laws.{number-suc, unless-zero}}
use Rattle.spec.specs.{Machine.{Machine, lent}, Calls.{Turn, answer_with, passing}, Promises.{Meets, machine_of, LeftAsFound}}
use Rattle.refinement.proofs.TurnLaws.{gate-number, gate-zero, passing-number, passing-on, turned-follows, done-follows}
use Rattle.images.specs.{Words.word_at, Images.{canonical, load_refusal, young_with}, Young.Young}
use Rattle.c_images.specs.ImageCalls.{check_rule, load_rule}

-- ---- one of two lists

module _ (b : Bool) (x y : List ℕ) where
  pub first_taken : b ≡ true → x ≡ cond b x y
  first_taken e = rw e

  pub second-taken : b ≡ false → y ≡ cond b x y
  second-taken e = rw e

refused-by : (b : Bool) (n : ℕ) → 0 < n → n ≡ unless b 2 0 → b ≡ false
unfolding unless
refused-by true n h e = absurd (let q : n ≡ 0 = e in omega arith)
refused-by false n h e = refl

both-passed : (a b : Bool) (n : ℕ) → a ≡ true → b ≡ true → n ≡ unless a 1 (unless b 2 n)
both-passed a b n ea eb = unfold unless in rw (ea, eb)

-- ---- the check

-- A gate that says whether the record is in range.
module _ (g : Gate) (s : StoreMeaning) (journal : List ℕ) (says : gate_number g ≡ unless (store_in s journal) 2 0) where
  pub out_of_range : (r : Refusal) → g ≡ Err r → store_in s journal ≡ false
  out_of_range r e = let n = number-suc r in let q = n.1 in
      refused-by (store_in s journal) (number r) (omega arith) (gate-number g _ says r e)

  pub loaded-in-range : g ≡ Ok tt → store_in s journal ≡ true
  loaded-in-range e = (unless-zero (store_in s journal) 2 0 (omega arith) (gate-zero g _ says e)).0

-- A rule that goes on where its refusal is 0.
module _ (state files logs marks undo : List ℕ) (n : ℕ) (next : Turn) where
  abbrev from : Machine
  from = machine_of state files logs marks undo

  pub refusing : (r : Refusal) → number r ≡ n
      → Meets (passing n [] from next) (Err r) from [] × LeftAsFound (Err r) state state
  refusing r e = turned-follows r [] state files logs marks undo (passing n [] from next)
      (ap (λ (k : ℕ). passing k [] from next) (sym e) ∙ passing-number r [] from next)

  pub granting-answer : (m : Machine) (after : List ℕ) → n ≡ 0 → next ≡ answer_with done_answer m
      → Meets (passing n [] from next) (Ok Done) m [] × LeftAsFound (Ok Done) state after
  granting-answer m after e is = unfold answer_with said in let q = passing-on n [] from next e ∙ is in (
    record {
      outcome = sym (ap (λ (w : Turn). w.reply.answer) q);
      machine = sym (ap (λ (w : Turn). w.after) q);
      reader = sym (ap (λ (w : Turn). w.reply.buffer) q);
    },
    done-follows state after,
  )

module _ (state files logs marks undo : List ℕ) (g : Gate)
    (says : gate_number g ≡ unless (store_in (store_of state) (journal_of state)) 2 0) where
  abbrev checked : Outcome → Type 0
  checked o = let m = machine_of state files logs marks undo in Meets (check_rule m) o m [] × LeftAsFound o state state

  pub check-refused : (r : Refusal) → g ≡ Err r → checked (Err r)
  check-refused r e = unfold check_rule in refusing state files logs marks undo _ _ r (gate-number g _ says r e)

  pub check-passed : g ≡ Ok tt → checked (Ok Done)
  unfolding check_rule
  check-passed e = granting-answer state files logs marks undo _ _ (machine_of state files logs marks undo) state
      (gate-zero g _ says e) refl

-- ---- loading

module _ (w : ℕ → ℕ) where
  pub another-format : (w 0 ≡ 1 → ⊥) → 1 ≡ load_refusal w
  another-format h = unfold load_refusal unless in rw (ne_eqb (w 0) 1 h)

  pub not-canonical : w 0 ≡ 1 → canonical w ≡ false → 2 ≡ load_refusal w
  not-canonical h e = unfold load_refusal unless in rw (eq-eqb (w 0) 1 h, e)

  -- The gate on the young record says the rest.
  pub image-gate-says : w 0 ≡ 1 → canonical w ≡ true → (young : List ℕ) → Young w young → (g : Gate)
      → gate_number g ≡ unless (store_in (store_of young) (journal_of young)) 2 0 → gate_number g ≡ load_refusal w
  unfolding load_refusal
  image-gate-says h e young y g says = says ∙ ap₂ (λ (s : StoreMeaning) (j : List ℕ). unless (store_in s j) 2 0) y.store
      y.journal ∙ both-passed _ _ _ (eq-eqb (w 0) 1 h) e

pub load-follows : (numbers bytes old state files logs marks undo young files' marks' undo' : List ℕ) → load_refusal
    (word_at numbers) ≡ 0 → Young (word_at numbers) young → length marks ≡ buffer_bytes → files' ≡ bytes → marks' ≡ replicate
    (length marks) 0 → undo' ≡ old → Meets (load_rule numbers bytes old (machine_of state files logs marks undo)) (Ok Done)
    (machine_of young files' logs marks' undo') [] × LeftAsFound (Ok Done) state young
load-follows numbers bytes old state files logs marks undo young files' marks' undo' passes y l is-files is-marks is-undo =
    unfold load_rule young_with in let m = is-marks ∙ ap (λ (n : ℕ). replicate n 0) l in
    let same : machine_of young files' logs marks' undo' ≡ young_with (word_at numbers) bytes old logs =
    λ i. lent (y.store i) (y.journal i) (is-files i) logs (m i) (is-undo i) in
    granting-answer state files logs marks undo _ _ (machine_of young files' logs marks' undo') young passes
    (ap (answer_with done_answer) (sym same))
