-- Lines, and what they ask.
use Rattle.std.specs.Prelude.{Bool, true, false, cond, ◌||◌, List, [], ◌∷◌, ◌++◌, ◌≡◌, replicate, ℕ, zero, suc}
use Prim.Native.Char.{code}
use Prim.Native.String.{String, [] as none, ◌∷◌ as ◌then◌}
use Rattle.requests.specs.declared.Request.TheVariants.{Begin, Commit, Abort, GetFilePointer, Seek, Read}
use Rattle.requests.specs.declared.Request.TheVariants.{Write}
use Rattle.text_trace.specs.Grammar.{Line, another, asks, parsed}

-- The bytes of a text.
unfoldable pub bytes_of_text : String → List ℕ
bytes_of_text none = []
bytes_of_text (c then text) = code c ∷ bytes_of_text text

abbrev pub line_of_text : String → Line
line_of_text text = parsed (bytes_of_text text)

-- Of the bytes below n those that make a line of a form with one of these behind them: the transaction alone;
-- a descriptor too; a number too.
unfoldable pub is_form : Line → Bool
is_form another = false
is_form (asks q bytes_of_text) = true

unfoldable pub firsts : ℕ → List ℕ
firsts zero = []
firsts (suc k) =
    firsts k
    ++ cond (is_form (parsed (k ∷ bytes_of_text "0")) || is_form (parsed (k ∷ bytes_of_text "0 3"))
    || is_form (parsed (k ∷ bytes_of_text "0 3 5"))) (k ∷ []) []

pub record TraceLineExamples : Type 0 where
  -- 02, F-5: "`B0` (Begin), `C0` (Commit), `A0` (Abort)" [R-19.2]
  pub alone :
      (line_of_text "B0" ≡ asks (Begin 0) []) × (line_of_text "C7" ≡ asks (Commit 7 0) [])
      × (line_of_text "A3" ≡ asks (Abort 3) [])
  -- "`P0 3` (GetFilePointer), `S0 3 17` (Seek), `R0 3 5` (Read)" [R-19.2]
  pub numbered :
      (line_of_text "P0 3" ≡ asks (GetFilePointer 0 3) []) × (line_of_text "S0 3 17" ≡ asks (Seek 0 3 17) [])
      × (line_of_text "R0 3 5" ≡ asks (Read 0 3 5) [])
  -- "or `W0 3 ` and the bytes up to the line's end" [R-19.2]: none, two, a space, any byte.
  pub written :
      (line_of_text "W0 3 " ≡ asks (Write 0 3) [])
      × (line_of_text "W0 0 hi" ≡ asks (Write 0 0) (bytes_of_text "hi"))
      × (line_of_text "W0 3  x" ≡ asks (Write 0 3) (bytes_of_text " x"))
      × (parsed (bytes_of_text "W0 3 " ++ (0 ∷ 13 ∷ 255 ∷ [])) ≡ asks (Write 0 3) (0 ∷ 13 ∷ 255 ∷ []))
  pub unwritten : (line_of_text "W0 3" ≡ another) × (line_of_text "W0" ≡ another)
      × (line_of_text "W0  3 x" ≡ another)
  -- "The digit is the transaction" [R-19.2]: digits 8 and 9 too, which the store refuses.
  pub transactions :
      (line_of_text "B8" ≡ asks (Begin 8) []) × (line_of_text "B9" ≡ asks (Begin 9) [])
      × (line_of_text "B" ≡ another)
      × (line_of_text "B10" ≡ another) × (line_of_text "Bx" ≡ another)
  -- "in decimal, 1 to 5 digits each" [R-19.2]
  pub digits :
      (line_of_text "P0 00003" ≡ asks (GetFilePointer 0 3) []) × (line_of_text "P0 000003" ≡ another)
      × (line_of_text "P0 " ≡ another)
      × (line_of_text "S0 99999 99999" ≡ asks (Seek 0 99999 99999) []) × (line_of_text "S0 3 100000" ≡ another)
      × (line_of_text "P0 -3" ≡ another) × (line_of_text "P0 3x" ≡ another)
  -- "one space between" [R-19.2]
  pub spaces :
      (line_of_text "P0  3" ≡ another) × (line_of_text "S0 3  17" ≡ another) × (line_of_text "P03" ≡ another)
      × (line_of_text "P0 3 " ≡ another) × (line_of_text "B0 " ≡ another)
  -- A byte 13 before the line's end is no part of these; nor is an empty line or another letter a form.
  pub others : (line_of_text "B0\r" ≡ another) × (line_of_text "P0 3\r" ≡ another) × (line_of_text "" ≡ another)
      × (line_of_text "b0" ≡ another) × (line_of_text "F0" ≡ another)
  -- The bytes beside `0` and `9` are no digits: as a transaction, in a number, at its front.
  pub no_digits :
      (line_of_text "B/" ≡ another) × (line_of_text "B:" ≡ another) × (line_of_text "P0 3/" ≡ another)
      × (line_of_text "P0 3:" ≡ another) × (line_of_text "P0 /" ≡ another)
      × (line_of_text "P0 :" ≡ another)
  -- Of the 256 bytes seven are letters of a form.
  pub letters : firsts 256 ≡ bytes_of_text "ABCPRSW"
  -- "longer than 128 bytes without its line end" [R-19.5]: 128 pass.
  pub longest :
      (parsed (bytes_of_text "W0 0 " ++ replicate 123 0) ≡ asks (Write 0 0) (replicate 123 0))
      × (parsed (bytes_of_text "W0 0 " ++ replicate 124 0) ≡ another)
