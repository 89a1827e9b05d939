-- The line of an answer, put in three parts.
use mathlib.Core.List.{List, [], ◌∷◌, ◌++◌}
use native.Mathlib.Omega.{arith}
use lib.ListN.{length}
use Prim.Native.Nat.{ℕ, ◌+◌, ◌≤◌}
use Rattle.text_numerals.{specs.Put.Put, proofs.PutLaws.then}
use Rattle.text_log.specs.Answers.{expectation}

pub headed : {b m a z : List ℕ} {e f g : ℕ} (text : List ℕ) → length text + 3 ≤ length b → Put b 0 (61 ∷ (32 ∷ [])) m e
    → Put m e text a f → Put a f (10 ∷ []) z g → Put b 0 (expectation text ++ (10 ∷ [])) z g
unfolding expectation
headed text fits p q r = then (61 ∷ (32 ∷ text)) (10 ∷ []) (omega arith) (then (61 ∷ (32 ∷ [])) text (omega arith) p q) r
