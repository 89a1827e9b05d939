-- Values of which the predicates of Dispatch.antt are false, and what its small definitions come to.
use Rattle.std.specs.Prelude.{List, [], ◌∷◌, map, ◌⊎◌, ◌≡◌, ℕ, ◌≤◌}
use Rattle.state.specs.Outcomes.{done_answer, refused}
use Rattle.spec.specs.Messages.{Op, seek, write, get_file_pointer, read, says}
use Rattle.spec.specs.Grants.{Grant}
use Rattle.spec.specs.Setup.{A, B}
use Rattle.spec_dispatch.specs.Rounds.{Scripts, unfinished, passed, failed}
use Rattle.spec_dispatch.specs.Dispatch.{EndsScript, AnsweredInRounds}
use Rattle.spec_dispatch.specs.Corollaries.{IsDispatchRefusal}
use Rattle.spec_dispatch.specs.Dispatch.{without_buffer, IsScript, EveryScript, times_in, times_of}
use Rattle.spec_dispatch.specs.DispatchEdgeCases.{script_list, bytes, appends}

-- No other number is a refusal of the dispatcher, and no other ends a script: 13 does not.
pub record RefusalsTell : Type 0 where
  pub of_dispatch : (n : ℕ) → (n ≡ 0) ⊎ (((3 ≤ n) × (n ≤ 18)) ⊎ (21 ≤ n)) → IsDispatchRefusal n → ⊥
  pub ending : (n : ℕ) → (n ≤ 5) ⊎ (((13 ≤ n) × (n ≤ 20)) ⊎ (23 ≤ n)) → EndsScript n → ⊥
  -- A call of a script is not answered with 5 or 18, be it the first or a later one.
  pub first : AnsweredInRounds (says (refused 5) ∷ []) → ⊥
  pub later : AnsweredInRounds (says done_answer ∷ says (refused 18) ∷ []) → ⊥

-- Two scripts: each asks for the pointer of descriptor 0, and writes there, the first A, the second B.
unfoldable pub two : Scripts
two = script_list (appends 0 ∷ appends 1 ∷ [])

-- A grant with these calls.
abbrev pub grant_of : ℕ → ℕ → List Op → Grant
grant_of t minute os =
    record {
      txn_number = t;
      minute = minute;
      calls = map (λ o. record { op = o; reply = says done_answer }) os;
    }

-- The calls of the second script.
unfoldable pub asks_and_writes : List Op
asks_and_writes = get_file_pointer 0 ∷ write 0 (B ∷ []) ∷ []

pub record ScriptsTell : Type 0 where
  pub second : IsScript bytes 0 two (grant_of 1 0 asks_and_writes)
  -- Not a script's: a grant of a third of two, one at another minute, one with another script's calls, one
  -- with a call fewer, one in another order.
  pub third : IsScript bytes 0 two (grant_of 2 0 []) → ⊥
  pub minute : IsScript bytes 0 two (grant_of 1 1 asks_and_writes) → ⊥
  pub other : IsScript bytes 0 two (grant_of 0 0 asks_and_writes) → ⊥
  pub fewer : IsScript bytes 0 two (grant_of 1 0 (get_file_pointer 0 ∷ [])) → ⊥
  pub order : IsScript bytes 0 two (grant_of 1 0 (write 0 (B ∷ []) ∷ get_file_pointer 0 ∷ [])) → ⊥
  -- Each grant of a list is a script's, not the first alone.
  pub every : EveryScript bytes 0 two (grant_of 1 0 asks_and_writes ∷ grant_of 2 0 [] ∷ []) → ⊥
  -- Of a call only a Read's buffer is left out.
  pub calls :
      (without_buffer (seek 1 2) ≡ seek 1 2) × (without_buffer (write 1 (A ∷ B ∷ [])) ≡ write 1 (A ∷ B ∷ []))
      × (without_buffer (get_file_pointer 1) ≡ get_file_pointer 1)
      × (without_buffer (read 1 2 (A ∷ [])) ≡ read 1 2 [])
  -- How often: of three grants two are the second script's; a granted script has one, any other none.
  pub times : times_in 1 (grant_of 1 0 [] ∷ grant_of 0 0 [] ∷ grant_of 1 0 [] ∷ []) ≡ 2
  pub ended : (times_of unfinished ≡ 0) × (times_of passed ≡ 1) × (times_of (failed 1) ≡ 0)
