-- `call_order::admit_list::occurs_again` meets its contract.
use mathlib.Core.Path.{◌≡◌, sym, ap, ◌∙◌}
use lib.{Dec.eqb, ListN.{length, get_or, take, drop, length-drop}, Seq.take_all}
use native.Mathlib.{Numerals.add-one, Omega.arith}
use Prim.Native.Nat.{ℕ, ◌+◌, ◌-◌}
use Rattle.std.specs.List.{list_any}
use Rattle.spec_orders.specs.Orders.{is_in}
use Rattle.call_order.proofs.ListLaws.{in-std}
use Rattle.call_order.proofs.admit_list.occurs_again.Goals as goal

pub returns : goal.returns
returns c = let ts = c.args.list.now in let k = c.args.k in let t = get_or ts k 0 in
    let found : c.contains.result ≡ list_any (λ u. eqb u t) (take (length ts - (k + 1)) (drop (k + 1) ts)) =
    c.contains.ensures.value in
    found ∙ ap (list_any (λ u. eqb u t)) (take_all (length ts - (k + 1)) (drop (k + 1) ts) (omega (arith, length-drop (k + 1) ts)))
    ∙ sym (in-std t (drop (k + 1) ts)) ∙ ap (λ (n : ℕ). is_in t (drop n ts)) (add-one k)
