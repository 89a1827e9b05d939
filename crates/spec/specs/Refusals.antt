-- Refusals (demand 1), beside its wording: "Every call .. ends in its result or one of fourteen refusals (02
-- adds more), each under its written condition only. A refusal changes no buffer and no record, save that a
-- commit refused as stale (13) ends its transaction as an abort does." [R-18.1] (The written conditions, in
-- the order in which they are tested, are RefusalOrder.antt.)
use Rattle.std.specs.Prelude.{List, ◌≡◌, ℕ}
use Rattle.state.specs.declared.outcomes.Refusal.TheVariants.{Stale}
use Rattle.state.specs.Outcomes.{number, refused}
use Rattle.spec.specs.Messages.{Call, commit, abort, buffer_of_call, refusal_of}
use Rattle.spec.specs.Machine.{Machine}
use Rattle.spec.specs.Calls.{fresh, call}
use Rattle.spec.specs.RefusalOrder.{first_failing, tests_of, fresh_tests}

-- On any state and any buffers m, with any numbers.
pub record RefusalsOn (m : Machine) : Type 0 where
  -- "one of fourteen refusals (02 adds more), each under its written condition only" [R-18.1]: a call is
  -- refused with the number of the first of its tests that fails, and is not refused where all pass.
  pub first : (c : Call) → refusal_of (call c m).reply.answer ≡ first_failing (tests_of c m)
  pub fresh_first : (numbers : List ℕ) → refusal_of (fresh numbers m).reply.answer
      ≡ first_failing (fresh_tests numbers m)
  -- "A refusal changes no buffer and no record" [R-18.1]
  pub leaves :
      (c : Call) (n : ℕ) → (call c m).reply.answer ≡ refused n → (n ≡ number Stale → ⊥)
      → ((call c m).after ≡ m) × ((call c m).reply.buffer ≡ buffer_of_call c)
  pub fresh_leaves : (numbers : List ℕ) (n : ℕ) → (fresh numbers m).reply.answer ≡ refused n
      → (fresh numbers m).after ≡ m
  -- "save that a commit refused as stale (13) ends its transaction as an abort does" [R-18.1]
  pub ends :
      (c : Call) → (call c m).reply.answer ≡ refused (number Stale)
      → (t : ℕ) × (minute : ℕ) × (c ≡ commit t minute) × ((call c m).after ≡ (call (abort t) m).after)

-- Refusals of the rules.
abbrev pub Refusals : Type 0
Refusals = (m : Machine) → RefusalsOn m
