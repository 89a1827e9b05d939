-- From the best order's answer to its codes.
use mathlib.Core.{List.{List, [], ◌∷◌, ◌++◌}, Path.{◌≡◌, refl, ap, ap₂, ◌∙◌}}
use Prim.Native.Nat.{ℕ, ◌-◌}
use lib.{IntN.ℤ, ListN.{length, replicate}}
use Rattle.state.specs.Outcomes.{said}
use Rattle.spec.specs.{Machine.Machine, Calls.Turn, Promises.{Lent, Follows}}
use Rattle.call_order.specs.{declared.order_call.Best.Best, Answer.{order_in, Padded}}
use Rattle.c_codes.{specs.Codes.{code_of, gap_in, tried_in, Orders}, proofs.CodeLaws.answers}

pub order-found : (rule : Machine → Turn) (state files logs marks undo : Lent) (b : Best) (n : ℕ) (r : ℤ) (gap tried : ℕ)
    → Follows rule state files logs marks undo b.outcome (order_in n b) → Padded n b → r ≡ code_of (said b.outcome)
    → gap ≡ gap_in (said b.outcome) → tried ≡ tried_in (said b.outcome)
    → Orders rule state files logs marks undo r b.order (gap ∷ tried ∷ [])
order-found rule state files logs marks undo b n r gap tried h p e g t = let a =
    answers rule state files logs marks undo b.outcome (order_in n b) r h e in record {
      answers = record { answer = a.answer; machine = a.machine; buffer = refl; left = a.left };
      padded = p ∙ ap (λ (l : List ℕ). l ++ replicate (8 - length l) 0) h.0.reader;
      numbered = ap₂ (λ (x y : ℕ). x ∷ y ∷ []) (g ∙ ap gap_in h.0.outcome) (t ∙ ap tried_in h.0.outcome);
    }
