-- Laws of the codes.
use Rattle.std.specs.declared.result.Result.TheVariants.{Ok, Err}
use mathlib.Core.{List.List, Path.{◌≡◌, refl, sym, ap, subst, ◌∙◌}}
use Prim.Native.Nat.{ℕ, ◌<◌, ◌^◌}
use lib.{IntN.{ℤ}, Signed.mag}
use mir.{Syntax.w32, Val.{to_z, of_z}, ValLaws.to_z-of_z}
use Rattle.state.specs.Outcomes.{Outcome}
use Rattle.state.specs.declared.outcomes.Answer.TheVariants.{Done, Offset, Given, Granted, Pairs, Ordered}
use Rattle.state.specs.Outcomes.{Said, done_answer, pointer, given, granted, pairs, ordered, refused, said}
use Rattle.spec.specs.{Machine.Machine, Calls.Turn, Promises.{Lent, LeftAsFound, Follows}}
use Rattle.c_codes.specs.Codes.{code_of, AnswersAsCode}

-- A signed result is read back from its bits.
pub read_back : (z : ℤ) → mag z < 2 ^ 31 → to_z w32 (of_z w32 z) ≡ z
read_back z h = to_z-of_z w32 z (record { sfits = h })

-- ---- from the outcome of a call to its code

abbrev IsRefusal : Said → Type 0
IsRefusal done_answer = ⊥
IsRefusal (pointer o) = ⊥
IsRefusal (given n) = ⊥
IsRefusal (granted n) = ⊥
IsRefusal (pairs n) = ⊥
IsRefusal (ordered grants gap tried) = ⊥
IsRefusal (refused n) = Unit

abbrev number_in : Said → ℕ
number_in done_answer = 0
number_in (pointer o) = 0
number_in (given n) = 0
number_in (granted n) = 0
number_in (pairs n) = 0
number_in (ordered grants gap tried) = 0
number_in (refused n) = n

pub left-of : (o : Outcome) (before after : List ℕ) → LeftAsFound o before after → (n : ℕ) → said o ≡ refused n → (n ≡ 13 → ⊥)
    → after ≡ before
unfolding said
left-of (Ok Done) before after h n e other = absurd (subst IsRefusal (sym e) tt)
left-of (Ok (Offset a)) before after h n e other = absurd (subst IsRefusal (sym e) tt)
left-of (Ok (Given a)) before after h n e other = absurd (subst IsRefusal (sym e) tt)
left-of (Ok (Granted a)) before after h n e other = absurd (subst IsRefusal (sym e) tt)
left-of (Ok (Pairs a)) before after h n e other = absurd (subst IsRefusal (sym e) tt)
left-of (Ok (Ordered a b d)) before after h n e other = absurd (subst IsRefusal (sym e) tt)
left-of (Err r) before after h n e other = h r refl (λ p. other (sym (ap number_in e) ∙ p))

pub answers : (rule : Machine → Turn) (state files logs marks undo : Lent) (o : Outcome) (reader : List ℕ) (r : ℤ)
    → Follows rule state files logs marks undo o reader → r ≡ code_of (said o)
    → AnswersAsCode rule state files logs marks undo r reader
answers rule state files logs marks undo o reader r h e = record {
  answer = e ∙ ap code_of h.0.outcome;
  machine = h.0.machine;
  buffer = h.0.reader;
  left = λ n q other. left-of o _ _ h.1 n (h.0.outcome ∙ q) other;
}
