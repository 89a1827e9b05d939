-- The types of the code in the terms of the rounds' definition.
use Rattle.std.specs.Prelude.{List, ◌≡◌, get_or, ℕ, ◌+◌, ◌*◌, ◌≤◌, ◌<◌}
use Rattle.limits.specs.Limits.{last_script, script_count, script_calls}
use Rattle.state.specs.Outcomes.{number}
use Rattle.spec_dispatch.specs.Rounds.{seeks, writes, asks, reads, unfinished, passed, failed}
use Rattle.spec_dispatch.specs.Rounds.{ScriptCall as CallOfScript, Scripts as SomeScripts, End as EndOfScript}
use Rattle.dispatcher.specs.declared.scripts.ScriptCall.{ScriptCall}
use Rattle.dispatcher.specs.declared.scripts.ScriptCall.TheVariants.{Seek, Write, GetFilePointer, Read}
use Rattle.dispatcher.specs.declared.scripts.ScriptLine.{ScriptLine}
use Rattle.dispatcher.specs.declared.scripts.Scripts.{Scripts}
use Rattle.dispatcher.specs.declared.ends.End.{End}
use Rattle.dispatcher.specs.declared.ends.End.TheVariants.{Unfinished, Granted, Failed}
use Rattle.dispatcher.specs.declared.ends.Ended.{Ended}

-- ---- scripts

-- 02, F-10: "each a Seek, Write, GetFilePointer or Read" [R-13.1]
unfoldable pub script_call_of : ScriptCall → CallOfScript
script_call_of (Seek d v) = seeks d v
script_call_of (Write d start n) = writes d start n
script_call_of (GetFilePointer d) = asks d
script_call_of (Read d n) = reads d n

-- What stands in an array of lines past its end.
abbrev pub no_line : ScriptLine
no_line = record { call = Seek 0 0 }

-- F-10: "up to 8 scripts of up to 16 calls" [R-13.1]: call i of script k stands at 16 k + i.
unfoldable pub scripts_of : Scripts → SomeScripts
scripts_of s =
    record {
      count = s.count;
      script =
          λ k. record {
            count = get_or s.counts k 0;
            call = λ i. script_call_of (get_or s.lines (script_calls * k + i) no_line).call;
          };
    }

-- So many scripts, each without a call.
pub record NoCalls (n : ℕ) (x : SomeScripts) : Type 0 where
  pub count : x.count ≡ n
  pub calls : (k : ℕ) → (x.script k).count ≡ 0

-- y is x with the call c more for script k: behind its calls where it has fewer than sixteen; where it has
-- sixteen the count alone is raised. All else is the same, and so is everything where k is above 7 or the
-- script has more calls.
pub record OneMore (k : ℕ) (c : CallOfScript) (x y : SomeScripts) : Type 0 where
  pub count : y.count ≡ x.count
  pub calls : k < script_count → (x.script k).count ≤ script_calls → (y.script k).count ≡ (x.script k).count + 1
  pub last : k < script_count → (x.script k).count < script_calls → (y.script k).call (x.script k).count ≡ c
  pub others : (j : ℕ) → (j ≡ k → ⊥) → (y.script j).count ≡ (x.script j).count
  pub before :
      (j i : ℕ) → i < script_calls → (j ≡ k → i ≡ (x.script k).count → ⊥) → (y.script j).call i
      ≡ (x.script j).call i
  pub full : script_calls < (x.script k).count → y ≡ x
  pub none : last_script < k → y ≡ x

-- ---- ends

-- F-10: "for each script that it was granted or which refusal ended it" [R-13.6], in the paper's numbers
unfoldable pub end_of_script : End → EndOfScript
end_of_script Unfinished = unfinished
end_of_script Granted = passed
end_of_script (Failed r) = failed (number r)

-- What stands in an array of ends past its end.
abbrev pub no_end : Ended
no_end = record { end = Unfinished }

-- The end of script k.
abbrev pub end_at : List Ended → ℕ → EndOfScript
end_at es k = end_of_script (get_or es k no_end).end
