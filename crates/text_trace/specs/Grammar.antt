-- The form of a line of a trace (paper 02, F-5): from its bytes, without its end, to a call or to another
-- form.
use Rattle.std.specs.Prelude.{cond, List, [], ◌∷◌, eqb, leb, length, ℕ}
use Prim.Native.Char.{code}
use Rattle.text_numerals.specs.Decimal.{Numeral, none, numeral, is_digit, worth, spaced_number}
use Rattle.requests.specs.declared.Request.{Request}
use Rattle.requests.specs.declared.Request.TheVariants.{Begin, Commit, Abort, GetFilePointer, Seek, Read}
use Rattle.requests.specs.declared.Request.TheVariants.{Write}

-- What a line says: a request, with the bytes of a Write (none in any other), whose call is `call_of` of crate
-- requests; or it "has another form or is longer than 128 bytes" [R-19.5].
pub data Line : Type 0 where
  another : Line
  asks : Request → List ℕ → Line

-- "one space between" [R-19.2], and a number "in decimal, 1 to 5 digits each" [R-19.2]: a sixth would stand
-- where a space or the line's end has to.
abbrev pub spaced : List ℕ → Numeral
spaced bytes = spaced_number 4 bytes

-- What comes of the number and the bytes after it.
unfoldable pub after_numeral : Numeral → (ℕ → List ℕ → Line) → Line
after_numeral none next = another
after_numeral (numeral v bytes) next = next v bytes

-- Nothing comes after it.
unfoldable pub ends : Request → List ℕ → Line
ends q [] = asks q []
ends q (b ∷ bytes) = another

-- A space "and the bytes up to the line's end" [R-19.2]
unfoldable pub writes : Request → List ℕ → Line
writes q [] = another
writes q (b ∷ bytes) = cond (eqb b (code " ")) (asks q bytes) another

-- F-11: "a trace runs at minute 0" [R-19.1].
abbrev pub trace_minute : ℕ
trace_minute = 0

-- "A line is `B0` (Begin), `C0` (Commit), `A0` (Abort), `P0 3` (GetFilePointer), `S0 3 17` (Seek), `R0 3 5`
-- (Read) or `W0 3 ` and the bytes up to the line's end" [R-19.2]: by its letter k, transaction t and the
-- bytes after them.
unfoldable pub lettered : ℕ → ℕ → List ℕ → Line
lettered k t bytes =
    cond (eqb k (code "B")) (ends (Begin t) bytes)
    (cond (eqb k (code "C")) (ends (Commit t trace_minute) bytes)
    (cond (eqb k (code "A")) (ends (Abort t) bytes)
    (cond (eqb k (code "P")) (after_numeral (spaced bytes) (λ d. ends (GetFilePointer t d)))
    (cond (eqb k (code "S"))
    (after_numeral (spaced bytes) (λ d rest. after_numeral (spaced rest) (λ v. ends (Seek t d v))))
    (cond (eqb k (code "R"))
    (after_numeral (spaced bytes) (λ d rest. after_numeral (spaced rest) (λ n. ends (Read t d n))))
    (cond (eqb k (code "W")) (after_numeral (spaced bytes) (λ d. writes (Write t d)))
    another))))))

-- "The digit is the transaction" [R-19.2]
unfoldable pub form : List ℕ → Line
form [] = another
form (k ∷ []) = another
form (k ∷ t ∷ bytes) = cond (is_digit t) (lettered k (worth t) bytes) another

-- "17, once for the whole line, when a line has another form or is longer than 128 bytes without its line
-- end" [R-19.5]
unfoldable pub parsed : List ℕ → Line
parsed line = cond (leb (length line) 128) (form line) another
