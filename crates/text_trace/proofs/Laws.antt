-- Laws of the grammar on the part of a line from a place on.
use mathlib.Core.{Bool.{true, false}, List.{List, [], ◌∷◌}, Path.{◌≡◌, refl, ap}}
use native.Mathlib.{Numerals.add-one, Omega.arith}
use lib.{ListN.{length, drop, get_or, drop_of_length-le}, Seq.drop-cons}
use borrow.Author.Tests.{le-leb, lt-leb, eq-eqb, ne_eqb}
use Prim.Native.Nat.{ℕ, ◌+◌, ◌≤◌, ◌<◌}
use Rattle.requests.specs.declared.Request.{Request}
use Rattle.std.specs.declared.option.Option.{Option, TheVariants.{None, Some}}
use Rattle.text_numerals.specs.{Decimal.{Numeral, is_digit, worth}, declared.Number.{Number}}
use Rattle.text_numerals.specs.Fields.{numeral_of}
use Rattle.text_trace.specs.declared.Asked.{Asked}
use Rattle.text_trace.specs.Parsing.{parsed_line, start_of, Reads, Parses}
use Rattle.text_trace.specs.Grammar.{Line, another, asks, after_numeral, writes, lettered, form, parsed}

-- The space before a Write's bytes, at a place of the line.
module _ (line : List ℕ) (at : ℕ) (q : Request) where
  pub writes_end : length line ≤ at → writes q (drop at line) ≡ another
  writes_end h = unfold writes in rw (drop_of_length-le line h)

  pub writes-other : at < length line → (get_or line at 0 ≡ 32 → ⊥) → writes q (drop at line) ≡ another
  writes-other h e = unfold writes in rw (drop-cons line at 0 h, ne_eqb (get_or line at 0) 32 e)

  pub writes-space : at < length line → get_or line at 0 ≡ 32 → writes q (drop at line) ≡ asks q (drop (at + 1) line)
  writes-space h e = unfold writes in rw (drop-cons line at 0 h, eq-eqb (get_or line at 0) 32 e, add-one at)

-- The letter and the transaction of a line.
pub form-short : (line : List ℕ) → length line < 2 → form line ≡ another
unfolding form
form-short [] h = refl
form-short (k ∷ []) h = refl
form-short (k ∷ t ∷ bytes) h = let e : ⊥ = omega arith in elim e [ ]

pub form-other : (line : List ℕ) → 2 ≤ length line → is_digit (get_or line 1 0) ≡ false → form line ≡ another
unfolding form
form-other [] h e = let n : ⊥ = omega arith in elim n [ ]
form-other (k ∷ []) h e = let n : ⊥ = omega arith in elim n [ ]
form-other (k ∷ t ∷ bytes) h e = rw e

pub form-digit : (line : List ℕ) → 2 ≤ length line → is_digit (get_or line 1 0) ≡ true → (t : ℕ) → t ≡ worth (get_or line 1 0)
    → form line ≡ lettered (get_or line 0 0) t (drop 2 line)
unfolding form
form-digit [] h e t w = let n : ⊥ = omega arith in elim n [ ]
form-digit (k ∷ []) h e t w = let n : ⊥ = omega arith in elim n [ ]
form-digit (k ∷ b ∷ bytes) h e t w = rw (e, w)

pub parsed-long : (line : List ℕ) → 128 < length line → parsed line ≡ another
parsed-long line h = unfold parsed in rw (lt-leb (length line) 128 h)

pub parsed-form : (line : List ℕ) → length line ≤ 128 → parsed line ≡ form line
parsed-form line h = unfold parsed in rw (le-leb (length line) 128 h)

-- A letter of no form.
pub lettered-other : (k t : ℕ) (bytes : List ℕ) → (k ≡ 66 → ⊥) → (k ≡ 67 → ⊥) → (k ≡ 65 → ⊥) → (k ≡ 80 → ⊥) → (k ≡ 83 → ⊥)
    → (k ≡ 82 → ⊥) → (k ≡ 87 → ⊥) → lettered k t bytes ≡ another
lettered-other k t bytes b c a p s r w = unfold lettered in
    rw (ne_eqb k 66 b, ne_eqb k 67 c, ne_eqb k 65 a, ne_eqb k 80 p, ne_eqb k 83 s, ne_eqb k 82 r, ne_eqb k 87 w)

-- What comes of a number that was read and is f.
module _ (line : List ℕ) (f : Option Number) (g : Numeral) (next : ℕ → List ℕ → Line) (h : numeral_of line f ≡ g) where
  pub after-missing : f ≡ None → Reads line None (after_numeral g next)
  unfolding numeral_of parsed_line start_of after_numeral
  after-missing e = rw (← h, e) (record { means = refl; within = omega arith })

  pub after-number : (n : Number) (r : Option Asked) → f ≡ Some n → Reads line r (next n.value (drop n.end line))
      → Reads line r (after_numeral g next)
  after-number n r e t = unfold numeral_of after_numeral in rw (← h, e) t

-- A line means what another definition says of it; it has another form.
pub as-meant : (line : List ℕ) (r : Option Asked) (meant said : Line) → meant ≡ said → Reads line r said → Reads line r meant
as-meant line r meant said e h = rw e h

pub other : (line : List ℕ) (meant : Line) → meant ≡ another → Reads line None meant
other line meant e = unfold parsed_line start_of in rw e (record { means = refl; within = omega arith })

-- A request's bytes start inside its line.
pub starts-within : (line : List ℕ) (r : Option Asked) → Parses line r → (a : Asked) → r ≡ Some a → a.start ≤ length line
starts-within line r p a e = unfold start_of in omega (arith, p.within, ap start_of e)
