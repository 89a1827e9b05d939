-- `commit_apply::lengths::write_end` meets its contract.
use mathlib.Core.Path.{◌≡◌, refl}
use Prim.Native.Nat.{ℕ, zero, suc, ◌+◌}
use Rattle.spec.specs.Reading.{write_end}
use Rattle.commit_apply.proofs.lengths.write_end.Goals as goal

some_end : (p n : ℕ) → (n ≡ 0 → ⊥) → p + n ≡ write_end p n
unfolding write_end
some_end p zero h = absurd (h refl)
some_end p (suc n) h = refl

pub returns-then-n-eq0 : goal.returns-then-n-eq0
returns-then-n-eq0 c = unfold write_end in rw c.if-n-eq0.true

pub returns : goal.returns
returns c = some_end _ _ c.if-n-eq0.false
