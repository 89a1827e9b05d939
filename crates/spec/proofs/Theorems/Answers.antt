-- What a step can say: an accepted one answers, a refused one leaves everything.
use mathlib.Core.{Bool.{Bool, true, false, ◌&&◌}, List.List, Path.{◌≡◌, refl, subst}}
use borrow.Author.Tests.{leb-true}
use native.Mathlib.Omega.{arith}
use lib.Dec.{leb}
use Prim.Native.Nat.{ℕ, ◌≤◌}
use Rattle.state.specs.Outcomes.{number, Said, done_answer, pointer, given, granted, pairs, ordered, refused}
use Rattle.state.specs.declared.outcomes.Refusal.TheVariants.{Stale}
use Rattle.admission.proofs.Laws.{and_left, and_right}
use Rattle.spec.specs.Items.{file_length, Values, Prog, done, ask, measure, and_then, result}
use Rattle.spec.specs.Messages.{Op, seek, write, get_file_pointer, read}
use Rattle.spec.specs.Steps.{Stepped, refuse, accept, check, or_given_back, seek_step, write_step, pointer_step, read_settled}
use Rattle.spec.specs.{Steps.{read_step, step, refused_stale}, Transactions.{Txn, Settled, past, all}}
use Rattle.spec.proofs.Abstract.Programs.{refused-stale}

-- An answer is no refusal.
abbrev pub IsAnswer : Said → Type 0
IsAnswer done_answer = Unit {0}
IsAnswer (pointer o) = Unit {0}
IsAnswer (given n) = Unit {0}
IsAnswer (granted n) = Unit {0}
IsAnswer (pairs n) = Unit {0}
IsAnswer (ordered grants gap tried) = Unit {0}
IsAnswer (refused n) = ⊥

pub answer-not-refused : (a : Said) (n : ℕ) → IsAnswer a → a ≡ refused n → ⊥
answer-not-refused a n h e = subst IsAnswer e h

pub refused-same : (m n : ℕ) → refused m ≡ refused n → m ≡ n
refused-same m n e = cc

-- A number of no refusal (0), or of one that leaves everything: any but that of Stale.
abbrev pub Leaving : ℕ → Type 0
Leaving n = n ≡ number Stale → ⊥

-- One that a call meets after 1 and 2.
abbrev pub Later : ℕ → Type 0
Later n = (3 ≤ n) × Leaving n

abbrev pub Right : Stepped → Type 0
Right (refuse n) = Later n
Right (accept y a b) = IsAnswer a

-- What a step gives where it is not refused with 18: a refusal is one of 6 to 12.
abbrev pub OfStep : ℕ → Type 0
OfStep n = (6 ≤ n) × (n ≤ 12)

abbrev pub Plainly : Stepped → Type 0
Plainly (refuse n) = OfStep n
Plainly (accept y a b) = IsAnswer a

plainly-right : (s : Stepped) → Plainly s → Right s
plainly-right (refuse n) h = (omega (arith, h.0), λ e. omega (arith, h.1))
plainly-right (accept y a b) h = h

of-step : (n : ℕ) → leb 6 n && leb n 12 ≡ true → OfStep n
of-step n e = (leb-true 6 n (and_left (leb 6 n) _ e), leb-true n 12 (and_right (leb 6 n) _ e))

-- Whatever is committed, a program of a step ends so: a refusal has the property P.
module _ (P : ℕ → Type 0) where
  abbrev EndsSo : Stepped → Type 0
  EndsSo (refuse n) = P n
  EndsSo (accept y a b) = IsAnswer a

  abbrev Always : Prog Stepped → Type 0
  Always (done s) = EndsSo s
  Always (ask i g) = (n : ℕ) → Always (g n)
  Always (measure f g) = (n : ℕ) → Always (g n)

  always-then : {A : Type 0} → (p : Prog A) (k : A → Prog Stepped) → ((a : A) → Always (k a)) → Always (and_then p k)
  unfolding and_then
  always-then (done a) k h = h a
  always-then (ask i g) k h = λ n. always-then (g n) k h
  always-then (measure f g) k h = λ n. always-then (g n) k h

  always-check : (ok : Bool) (n : ℕ) (next : Prog Stepped) → P n → Always next → Always (check ok n next)
  unfolding check
  always-check true n next h a = a
  always-check false n next h a = h

  always-back : (next : Txn → Prog Stepped) → P 12 → ((y : Txn) → Always (next y)) → (s : Settled) → Always (or_given_back next s)
  unfolding or_given_back
  always-back next twelve h past = twelve
  always-back next twelve h (all y) = h y

  always-read : (file_of : ℕ → ℕ) (d n : ℕ) (buffer : List ℕ) (y : Txn) → Always (read_settled file_of d n buffer y)
  always-read file_of d n buffer y = unfold read_settled in always-then _ _ (λ bytes. tt)

  -- The numbers with which each call's step refuses have the property.
  abbrev Numbers : Op → Type 0
  Numbers (seek d v) = P 6 × P 8
  Numbers (write d bytes) = P 6 × P 9 × P 10 × P 11
  Numbers (get_file_pointer d) = P 6 × P 12
  Numbers (read d n buffer) = P 6 × P 7 × P 12

  always-step : (file_of : ℕ → ℕ) (o : Op) (x : Txn) → Numbers o → Always (step file_of o x)
  unfolding step seek_step write_step pointer_step read_step
  always-step file_of (seek d v) x h = always-check _ 6 _ h.0 (always-check _ 8 _ h.1 tt)
  always-step file_of (write d bytes) x h =
      always-check _ 6 _ h.0 (always-check _ 9 _ h.1 (always-check _ 10 _ h.2 (always-check _ 11 _ h.3 tt)))
  always-step file_of (get_file_pointer d) x h =
      always-check _ 6 _ h.0 (always-then _ _ (λ s. always-back _ h.1 (λ y. tt) s))
  always-step file_of (read d n buffer) x h = always-check _ 6 _ h.0
      (always-check _ 7 _ h.1 (always-then _ _ (λ s. always-back _ h.2 (always-read file_of d n buffer) s)))

  always-result : (v : Values) (p : Prog Stepped) → Always p → EndsSo (result v p)
  unfolding result
  always-result v (done s) h = h
  always-result v (ask i g) h = always-result v (g (v i)) (h (v i))
  always-result v (measure f g) h = always-result v (g (v (file_length f))) (h (v (file_length f)))

  ends_so : (file_of : ℕ → ℕ) (o : Op) (x : Txn) (v : Values) → Numbers o → EndsSo (result v (step file_of o x))
  ends_so file_of o x v h = always-result v (step file_of o x) (always-step file_of o x h)

-- The step of a call.
of_steps : (o : Op) → Numbers OfStep o
of_steps (seek d v) = (of-step 6 refl, of-step 8 refl)
of_steps (write d bytes) = (of-step 6 refl, of-step 9 refl, of-step 10 refl, of-step 11 refl)
of_steps (get_file_pointer d) = (of-step 6 refl, of-step 12 refl)
of_steps (read d n buffer) = (of-step 6 refl, of-step 7 refl, of-step 12 refl)

pub plain_step : (file_of : ℕ → ℕ) (o : Op) (x : Txn) (v : Values) → Plainly (result v (step file_of o x))
plain_step file_of o x v = ends_so OfStep file_of o x v (of_steps o)

-- What a step gives, refused with 18 or not.
pub right-step : (file_of : ℕ → ℕ) (o : Op) (x : Txn) (v : Values) (stale : Bool)
    → Right (refused_stale stale o (result v (step file_of o x)))
right-step file_of o x v stale = refused-stale Right stale o (result v (step file_of o x)) (omega arith, λ e. omega arith)
    (λ e. plainly-right (result v (step file_of o x)) (plain_step file_of o x v))
