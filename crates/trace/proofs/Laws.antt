-- From what the parser says of a line to what the line is answered. Assumes nothing.
use mathlib.Core.{List.List, Path.{◌≡◌, refl, sym, ap, ◌∙◌}}
use lib.{ListN.{length, take, drop, length-drop}, Seq.take_all}
use native.Mathlib.Omega.{arith}
use Prim.Native.Nat.{ℕ, ◌-◌}
use Rattle.requests.specs.Performing.{Performs}
use Rattle.text_trace.specs.{Grammar.{another, asks, parsed}, Parsing.{Parses, parsed_line}, declared.Asked.Asked}
use Rattle.std.specs.declared.option.Option.{Option, TheVariants.{None, Some}}
use Rattle.state.specs.{Outcomes.{said, refused}, Outcomes.Outcome}
use Rattle.spec.specs.Machine.{Machine}
use Rattle.trace.specs.Answers.{Answers, AnswersTo}

module _ (line : List ℕ) (r : Option Asked) (p : Parses line r) where
  pub refused-line : r ≡ None → (reader : List ℕ) (m : Machine) (o : Outcome) → said o ≡ refused 17
      → Answers line reader m o m reader
  refused-line e reader m o q = unfold AnswersTo parsed_line in
      let l : parsed line ≡ another = sym p.means ∙ ap (parsed_line line) e in rw l (q, (refl, refl))

  module _ (a : Asked) (e : r ≡ Some a) where
    -- the bytes are cut as a range of the code, `&line[start..]`
    pub asked-line : (reader : List ℕ) (m : Machine) (o : Outcome) (m' : Machine) (reader' : List ℕ)
        → Performs a.request (take (length line - a.start) (drop a.start line)) reader m o m' reader' → Answers line reader m o m' reader'
    unfolding AnswersTo parsed_line
    asked-line reader m o m' reader' f = let l : parsed line ≡ asks a.request (drop a.start line) = sym p.means
        ∙ ap (parsed_line line) e in let n = length-drop a.start line in
        let all = take_all (length line - a.start) (drop a.start line) (omega arith) in rw (l, ← all) f
