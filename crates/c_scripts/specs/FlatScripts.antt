-- Scripts as numbers, and what the dispatcher answers in C.
use Rattle.std.specs.Prelude.{List, ◌≡◌, ℤ, get_or, ℕ, zero, suc, ◌+◌, ◌*◌}
use Rattle.buffers.specs.Parts.{tabulate}
use Rattle.state.specs.Outcomes.{refused}
use Rattle.spec.specs.Machine.{Machine}
use Rattle.spec_dispatch.specs.Rounds.{End, unfinished, passed, failed}
use Rattle.spec_dispatch.specs.Dispatch.{Dispatched}
use Rattle.dispatcher.specs.declared.scripts.ScriptCall.{ScriptCall}
use Rattle.dispatcher.specs.declared.scripts.ScriptCall.TheVariants.{Seek, Write, GetFilePointer, Read}
use Rattle.dispatcher.specs.declared.scripts.ScriptLine.{ScriptLine}
use Rattle.dispatcher.specs.declared.scripts.Scripts.{Scripts}
use Rattle.dispatcher.specs.Promise.{said_of}
use Rattle.c_codes.specs.Codes.{code_of}

-- Kinds 0 to 3; any other is a Write of a part that lies past every data buffer, which 20 refuses.
unfoldable pub flat_call_of : ℕ → ℕ → ℕ → ℕ → ScriptCall
flat_call_of zero d at n = Seek d at
flat_call_of (suc zero) d at n = Write d at n
flat_call_of (suc (suc zero)) d at n = GetFilePointer d
flat_call_of (suc (suc (suc zero))) d at n = Read d n
flat_call_of (suc (suc (suc (suc kind)))) d at n = Write d 18446744073709551615 1

-- Call i of script k stands at 4 (16 k + i), the counts from 512 on, the number of scripts at 520.
unfoldable pub line_from : List ℕ → ℕ → ScriptLine
line_from xs j =
    let at = 4 * j in
    record { call = flat_call_of (get_or xs at 0) (get_or xs (at + 1) 0) (get_or xs (at + 2) 0) (get_or xs (at + 3) 0) }

unfoldable pub scripts_from : List ℕ → Scripts
scripts_from xs =
    record {
      lines = tabulate (line_from xs) 128;
      counts = tabulate (λ k. get_or xs (512 + k) 0) 8;
      count = get_or xs 520 0;
    }

-- How a script ended: 0 granted, a refusal's number, or 255 where nothing has run.
unfoldable pub end_code : End → ℕ
end_code unfinished = 255
end_code passed = 0
end_code (failed n) = n

-- The promise of the dispatcher; before and after are the numbers of the state.
pub record Runs (d : Dispatched Machine) (r : ℤ) (ended : List ℕ) (commits : ℕ) (m : Machine)
    (reader before after : List ℕ) : Type 0 where
  pub answer : r ≡ code_of (said_of d.refusal)
  pub ends : ended ≡ tabulate (λ k. end_code (d.ends k)) 8
  pub made : commits ≡ d.commits
  pub machine : m ≡ d.after
  pub buffer : reader ≡ d.reader
  pub left : (n : ℕ) → said_of d.refusal ≡ refused n → (n ≡ 13 → ⊥) → after ≡ before
