-- Order number i of a list, from i itself. Nobody has to believe it: it is the order that stands there in the
-- list of all (`order-numbered`, proofs/Numbered.antt).
use Rattle.std.specs.Prelude.{List, [], ◌∷◌, get_or, ℕ, zero, suc, ◌/◌, ◌%◌}
use Rattle.spec_orders.specs.Orders.{without, factorial}

-- Order number i of a list of n, from i itself: the position of its first is the quotient by (n - 1)!, the
-- rest numbers the order of the others.
unfoldable pub order_at : ℕ → ℕ → List ℕ → List ℕ
order_at zero i ts = []
order_at (suc n) i ts =
    let q = i / factorial n in
    get_or ts q 0 ∷ order_at n (i % factorial n) (without q ts)
