-- Traces and what they print, computed from the definitions on the reference model from Fresh (`WholeRun` has
-- the store's equal to it). Four bytes are enough of a reader's buffer here.
use Rattle.std.specs.Prelude.{List, ◌≡◌, get_or, replicate, ℕ}
use Prim.Native.String.{String}
use Rattle.text_trace.specs.Examples.{bytes_of_text}
use Rattle.text_lines.specs.Lines.{lines_of}
use Rattle.spec.specs.Plain.{fresh_plain, plain_call}
use Rattle.text_lines.specs.Programs.{transcript}
use Rattle.trace.specs.Transcript.{mod_eight, tracing}

abbrev pub prints : String → List ℕ
prints text =
    transcript (tracing plain_call) (lines_of (bytes_of_text text))
    (record { machine = fresh_plain (λ d. get_or mod_eight d 0); reader = replicate 4 0 })

pub record TranscriptExamples : Type 0 where
  -- 02, F-5: "`B0`, `W0 0 hi`, `P0 0`, `C0` give `ok`, `ok`, `ok 2`, `ok 0`" [E-19.1]
  pub asked : prints "B0\nW0 0 hi\nP0 0\nC0\n" ≡ bytes_of_text "ok\nok\nok 2\nok 0\n"
  -- Each letter, in the order of the lines; a Read prints what it put into the buffer; "descriptor d in file
  -- d mod 8" [R-19.1]: 1 and 9 are of one file, 5 is not.
  pub each :
      prints "B0\nS0 3 17\nP0 3\nA0\nP0 3\nB1\nS1 1 0\nW1 1 hi\nS1 9 0\nR1 9 2\nC1\nB0\nP0 1\nP0 3\nR0 5 1\n"
      ≡ bytes_of_text "ok\nok\nok 17\nok\n4\nok\nok\nok\nok\nok 6869\nok 0\nok\nok 2\nok 0\nok\n"
  -- "17, once for the whole line, .. ; the run goes on" [R-19.5], an empty line among them; a Read that gives
  -- nothing; a last line without its end.
  pub goes_on : prints "x\n\nB0\nR0 0 1\nB0" ≡ bytes_of_text "17\n17\nok\nok\n5\n"
