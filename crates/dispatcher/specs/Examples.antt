-- What the types of the code come to, case by case, and values of which the promises about scripts are false.
use Rattle.std.specs.Prelude.{[], ◌∷◌, ◌++◌, ◌≡◌, replicate, ℕ}
use Rattle.state.specs.declared.outcomes.Refusal.TheVariants.{AppendPastEnd}
use Rattle.state.specs.Outcomes.{done_answer, refused}
use Rattle.spec_dispatch.specs.Rounds.{seeks, writes, asks, reads, unfinished, passed, failed}
use Rattle.spec_dispatch.specs.Rounds.{Scripts as SomeScripts}
use Rattle.dispatcher.specs.declared.scripts.ScriptCall.TheVariants.{Seek, Write}
use Rattle.dispatcher.specs.declared.scripts.ScriptCall.TheVariants.{GetFilePointer, Read}
use Rattle.dispatcher.specs.declared.scripts.Scripts.{Scripts}
use Rattle.dispatcher.specs.declared.ends.End.TheVariants.{Unfinished, Granted, Failed}
use Rattle.dispatcher.specs.Types.{script_call_of, no_line, scripts_of, NoCalls, OneMore}
use Rattle.dispatcher.specs.Types.{end_of_script, end_at, no_end}
use Rattle.dispatcher.specs.Promise.{said_of}

-- Three scripts, of none, two and no calls; the second call of script 1 is line 17.
unfoldable pub three_scripts : Scripts
three_scripts =
    record {
      lines = replicate 16 no_line ++ record { call = Write 1 2 3 } ∷ record { call = GetFilePointer 5 } ∷ [];
      counts = 0 ∷ 2 ∷ 0 ∷ [];
      count = 3;
    }

pub record DispatcherExamples : Type 0 where
  -- A call names its descriptor first; then stand Seek's offset, the start and length of a Write's part, and
  -- Read's count.
  pub seek : script_call_of (Seek 1 2) ≡ seeks 1 2
  pub write : script_call_of (Write 1 2 3) ≡ writes 1 2 3
  pub get_file_pointer : script_call_of (GetFilePointer 1) ≡ asks 1
  pub read : script_call_of (Read 1 2) ≡ reads 1 2
  -- "call i of script k is line 16 k + i" [R-13.1]
  pub count : (scripts_of three_scripts).count ≡ 3
  pub counts : (((scripts_of three_scripts).script 0).count ≡ 0) × (((scripts_of three_scripts).script 1).count ≡ 2)
  pub first : ((scripts_of three_scripts).script 1).call 0 ≡ writes 1 2 3
  pub next : ((scripts_of three_scripts).script 1).call 1 ≡ asks 5
  -- Unfinished, granted and failed are three.
  pub going : end_of_script Unfinished ≡ unfinished
  pub granted : end_of_script Granted ≡ passed
  pub ended : end_of_script (Failed AppendPastEnd) ≡ failed 12
  pub second : end_at (no_end ∷ record { end = Granted } ∷ no_end ∷ []) 1 ≡ passed
  -- The dispatcher's outcome.
  pub said : (said_of 0 ≡ done_answer) × (said_of 20 ≡ refused 20)

-- So many scripts, of c calls each.
abbrev pub alike : ℕ → ℕ → SomeScripts
alike n c = record { count = n; script = λ k. record { count = c; call = λ i. asks 0 } }

pub record ScriptListsTell : Type 0 where
  -- One script is not two, and one with a call is not without.
  pub one_script : NoCalls 2 (alike 1 0) → ⊥
  pub one_call : NoCalls 1 (alike 1 1) → ⊥
  -- One more call for script 0: the scripts are not as before, the call is no other, script 1 has none more.
  pub same : OneMore 0 (asks 0) (alike 2 0) (alike 2 0) → ⊥
  pub other : OneMore 0 (asks 1) (alike 1 0) (alike 1 1) → ⊥
  pub both : OneMore 0 (asks 0) (alike 2 0) (alike 2 1) → ⊥
