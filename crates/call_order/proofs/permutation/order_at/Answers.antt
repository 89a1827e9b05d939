-- `call_order::permutation::order_at` meets its contract.
use mathlib.Core.{List.◌++◌, Path.{◌≡◌, sym, ap, ◌∙◌, subst}}
use lib.{ListN.{length, get_or, set, take, length-set}, Seq.{drop-set-lt}}
use native.Mathlib.{Nat.mod-lt, Omega.arith}
use Prim.Native.Nat.{ℕ, suc, ◌+◌, ◌-◌, ◌/◌, ◌%◌, ◌<◌}
use Rattle.spec_orders.specs.{Orders.{factorial, without}, Numbering.order_at}
use Rattle.call_order.proofs.ArrangeLaws.{drop-zeros, next-position, order-more, order-none}
use Rattle.call_order.proofs.permutation.order_at.Goals as goal

pub nonzero_div-q : goal.nonzero_div-q
nonzero_div-q c = (next-position _ _ _ _ c.factorial-f.ensures c.loop-k-test.true c.loop-k.invariant.0).0

pub removed-rest-requires : goal.removed-rest-requires
removed-rest-requires c = let next = next-position _ _ _ _ c.factorial-f.ensures c.loop-k-test.true c.loop-k.invariant.0 in
    (omega arith, omega (arith, next))

pub loop-k-preserved : goal.loop-k-preserved
loop-k-preserved c = let l = c.loop-k in let n = length c.args.list.numbers.now in let m : ℕ = n - l.k - 1 in
    let f = c.factorial-f.result in let q = l.left / f in
    let next : (0 < f) × (q < n - l.k) = next-position _ _ _ _ c.factorial-f.ensures c.loop-k-test.true c.loop-k.invariant.0 in
    let one_less : n - l.k ≡ suc m = omega arith in let e : n - (l.k + 1) ≡ m = omega arith in
    let after : take m c.removed-rest.result ≡ without q (take (suc m) l.rest) = c.removed-rest.ensures in (
      subst (λ (x : ℕ). l.left % f < x) (c.factorial-f.ensures ∙ ap factorial (sym e)) (mod-lt l.left next.0),
      length-set l.order l.k (get_or l.rest q 0) ∙ l.invariant.1,
      ap (λ (x : ℕ). take (l.k + 1) (set l.order l.k (get_or l.rest q 0)) ++ order_at x (l.left % f)
          (take x c.removed-rest.result)) e ∙ order-more l.order l.rest c.removed-rest.result l.k m l.left f
          (omega arith) c.factorial-f.ensures after (omega (arith, next)) ∙ ap (λ (x : ℕ). take l.k
          l.order ++ order_at x l.left (take x l.rest)) (sym one_less) ∙ l.invariant.2,
      drop-set-lt n l.order l.k (get_or l.rest q 0) (omega arith) ∙ l.invariant.3,
    )

pub returns : goal.returns
returns c = let l = c.loop-k in let n = length c.args.list.numbers.now in let e : l.k ≡ n = omega arith in
    let z : n - l.k ≡ 0 = omega arith in (
      ap (λ (x : ℕ). take x l.order) (sym e) ∙ sym (order-none (take l.k l.order) (take 0 l.rest) l.left)
          ∙ ap (λ (x : ℕ). take l.k l.order ++ order_at x l.left (take x l.rest)) (sym z) ∙ l.invariant.2,
      l.invariant.3 ∙ drop-zeros n 8,
    )
