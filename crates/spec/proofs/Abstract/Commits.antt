-- What a Commit's answer tells of the two lists of its transaction.
use mathlib.Core.{Bool.{Bool, true, false, cond, not, true≢false, false≢true}, List.[], Logic.◌↔◌}
use mathlib.Core.Path.{◌≡◌, refl, sym, ap, ap₂, ◌∙◌}
use borrow.Author.Tests.{not-false}
use lib.Dec.{leb}
use native.Mathlib.Omega.{arith}
use Prim.Native.Nat.{ℕ}
use Rattle.limits.specs.Limits.{last_transaction}
use Rattle.windows.specs.Windows.{minute_in}
use Rattle.state.specs.Outcomes.{Said, done_answer, pointer, given, granted, pairs, ordered, refused}
use Rattle.spec.specs.{Windows.for_closed, Messages.{commit, answer_with, refuse_turn}, Commits.{fits, commit_refusal}}
use Rattle.spec.specs.Sightings.{same_entries}
use Rattle.spec.specs.Plain.{Running, Slot, running, Plain, first_list, second_list, is_stale, PlainTurn, plain_committed}
use Rattle.spec.specs.Plain.{plain_commit, with_number, plain_call}
use Rattle.spec.proofs.Abstract.Lists.{same_entries-true, same_entries-of}

-- A transaction is stale to the machine exactly where its two lists differ.
pub stale-exactly : (p : Plain) (r : Running) → (is_stale p r ≡ false) ↔ (first_list r ≡ second_list p r)
stale-exactly p r = unfold is_stale in (
  λ e. same_entries-true (first_list r) (second_list p r) (not-false (same_entries (first_list r) (second_list p r)) e),
  λ e. ap not (same_entries-of (first_list r) (second_list p r) e),
)

-- What the answer of a Commit, not refused with 22, tells of the two lists of its transaction: it is not a refusal 13 exactly
-- when they are equal, and a refusal 13 exactly when they differ.
pub record Tells (answer : Said) (r : Running) (p : Plain) : Type 0 where
  pub passes : (answer ≡ refused 13 → ⊥) ↔ (first_list r ≡ second_list p r)
  pub refuses : (answer ≡ refused 13) ↔ (first_list r ≡ second_list p r → ⊥)

refusal_of : Said → ℕ
refusal_of done_answer = 0
refusal_of (pointer o) = 0
refusal_of (given n) = 0
refusal_of (granted n) = 0
refusal_of (pairs n) = 0
refusal_of (ordered grants gap tried) = 0
refusal_of (refused n) = n

module _ (t minute : ℕ) (r : Running) (p : Plain) where
  -- A write for a closed file.
  abbrev closed_to : Bool
  closed_to = for_closed p.file_of p.windows minute r.txn.writes

  -- The turn of a Commit of an open transaction.
  pub commit-turn : leb t last_transaction ≡ true → p.slots t ≡ running r → plain_call (commit t minute) p ≡ plain_committed t
      r p (commit_refusal (minute_in minute) (is_stale p r) closed_to (fits p.committed.value r.txn))
  unfolding plain_call with_number plain_commit
  commit-turn l o = ap₂ (λ (b : Bool) (s : Slot). cond b (plain_commit t minute s p) (refuse_turn 3 [] p)) l o

  answer-22 : (daily stale shut placed : Bool) → daily ≡ false
      → (plain_committed t r p (commit_refusal daily stale shut placed)).reply.answer ≡ refused 22
  unfolding plain_committed commit_refusal
  answer-22 true stale shut placed e = absurd (true≢false e)
  answer-22 false stale shut placed e = refl

  answer-13 : (daily stale shut placed : Bool) → daily ≡ true → stale ≡ true
      → (plain_committed t r p (commit_refusal daily stale shut placed)).reply.answer ≡ refused 13
  unfolding plain_committed commit_refusal
  answer-13 false stale shut placed d e = absurd (false≢true d)
  answer-13 true true shut placed d e = refl
  answer-13 true false shut placed d e = absurd (false≢true e)

  answer-not-13 : (daily stale shut placed : Bool) → stale ≡ false
      → (plain_committed t r p (commit_refusal daily stale shut placed)).reply.answer ≡ refused 13 → ⊥
  unfolding plain_committed commit_refusal answer_with refusal_of
  answer-not-13 false stale shut placed e h = let z : ◌≡◌ {A = ℕ} 22 13 = ap refusal_of h in omega arith
  answer-not-13 true true shut placed e h = true≢false e
  answer-not-13 true false true placed e h = let z : ◌≡◌ {A = ℕ} 21 13 = ap refusal_of h in omega arith
  answer-not-13 true false false true e h = let z : ◌≡◌ {A = ℕ} 0 13 = ap refusal_of h in omega arith
  answer-not-13 true false false false e h = let z : ◌≡◌ {A = ℕ} 12 13 = ap refusal_of h in omega arith

  -- A Commit of an open transaction that is not refused with 22 is made at a minute of the day.
  pub daily-commit : leb t last_transaction ≡ true → p.slots t ≡ running r
      → ((plain_call (commit t minute) p).reply.answer ≡ refused 22 → ⊥) → minute_in minute ≡ true
  daily-commit l o h = chosen (minute_in minute) refl
    where
      chosen : (b : Bool) → minute_in minute ≡ b → minute_in minute ≡ true
      chosen true e = e
      chosen false e = absurd (h (ap (λ (τ : PlainTurn). τ.reply.answer) (commit-turn l o)
          ∙ answer-22 (minute_in minute) (is_stale p r) closed_to (fits p.committed.value r.txn) e))

  stale-answer : leb t last_transaction ≡ true → p.slots t ≡ running r → minute_in minute ≡ true → is_stale p r ≡ true
      → (plain_call (commit t minute) p).reply.answer ≡ refused 13
  stale-answer l o d e = ap (λ (τ : PlainTurn). τ.reply.answer) (commit-turn l o)
      ∙ answer-13 (minute_in minute) (is_stale p r) closed_to (fits p.committed.value r.txn) d e

  -- If the lists are equal the answer is not 13, and if they differ it is.
  pub commit-tells : leb t last_transaction ≡ true → p.slots t ≡ running r → minute_in minute ≡ true
      → Tells (plain_call (commit t minute) p).reply.answer r p
  commit-tells l o d = record {
    passes = (λ h. (stale-exactly p r).0 (unless (is_stale p r) refl (λ e. h (stale-answer l o d e))), equal);
    refuses = (λ h e. equal e h, λ n. stale-answer l o d (when (is_stale p r) refl n));
  }
    where
      equal : first_list r ≡ second_list p r → (plain_call (commit t minute) p).reply.answer ≡ refused 13 → ⊥
      equal e h = answer-not-13 (minute_in minute) (is_stale p r) closed_to (fits p.committed.value r.txn)
          ((stale-exactly p r).1 e) (sym (ap (λ (τ : PlainTurn). τ.reply.answer) (commit-turn l o)) ∙ h)

      unless : (b : Bool) → is_stale p r ≡ b → (is_stale p r ≡ true → ⊥) → is_stale p r ≡ false
      unless true e h = absurd (h e)
      unless false e h = e

      when : (b : Bool) → is_stale p r ≡ b → (first_list r ≡ second_list p r → ⊥) → is_stale p r ≡ true
      when true e d = e
      when false e d = absurd (d ((stale-exactly p r).0 e))
