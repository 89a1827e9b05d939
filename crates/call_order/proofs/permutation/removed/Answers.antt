-- `call_order::permutation::removed` meets its contract.
use mathlib.Core.{List.List, Path.{◌≡◌, sym, ap, ◌∙◌}}
use borrow.Author.Rules.{rules}
use lib.ListN.{length, get_or, set, take}
use native.Mathlib.Omega.{arith}
use Prim.Native.Nat.{ℕ, ◌+◌}
use Rattle.call_order.proofs.ArrangeLaws.{moved, moved_none, moved_more, moved_all}
use Rattle.call_order.proofs.permutation.removed.Goals as goal

pub loop-j-init : goal.loop-j-init
loop-j-init c = let a = c.args in let long : length a.numbers ≡ 8 = search rules in
    (sym (moved_none a.q a.numbers (omega arith)), long)

pub loop-j-preserved : goal.loop-j-preserved
loop-j-preserved c = let l = c.loop-j in let a = c.args in (
  ap (λ (xs : List ℕ). set xs l.j (get_or xs (l.j + 1) 0)) l.invariant.0
      ∙ moved_more a.q a.numbers l.j (omega arith) (omega arith),
  l.invariant.1,
)

pub returns : goal.returns
returns c = let l = c.loop-j in let a = c.args in let e : l.j ≡ a.m = omega arith in
    ap (take a.m) (l.invariant.0 ∙ ap (moved a.q a.numbers) e)
    ∙ moved_all a.q a.m a.numbers (omega arith) (omega arith)
