-- `call_places::count_intervals` meets its contract. The loop's invariant: n intervals and those from p on are the list. Assumes
-- nothing.
use mathlib.Core.{List.{[], ◌∷◌, ◌++◌}, Path.{refl, sym, ap, ◌∙◌}}
use Prim.Native.Nat.{ℕ, ◌+◌}
use native.Mathlib.Omega.{arith}
use lib.ListN.{length}
use Rattle.read_lookup.specs.Lookup.{recorded_in}
use Rattle.call_places.specs.PlacesCall.{covered_at}
use Rattle.call_places.proofs.ListLaws.{as_listed, listing_none, listing-end, listing-all, listing-more, length-snoc}
use Rattle.call_places.proofs.count_intervals.Goals as goal

pub loop-p-init : goal.loop-p-init
loop-p-init c = let a = c.args in
    (omega arith, omega arith, [], refl, listing_none (covered_at (recorded_in a.records.now.state.now) a.records.now.t a.records.now.used.records a.f))

pub returns-then-s-eq0 : goal.returns-then-s-eq0
returns-then-s-eq0 c = let a = c.args in let l = c.loop-p in let n = c.next_interval-s in
    sym l.invariant.3 ∙ ap length (listing-all (covered_at (recorded_in a.records.now.state.now) a.records.now.t a.records.now.used.records a.f) l.p
    l.invariant.2 l.invariant.4 n.result n.ensures c.if-s-eq0.true)

pub loop-p-preserved : goal.loop-p-preserved
loop-p-preserved c = let a = c.args in let l = c.loop-p in let n = c.next_interval-s in (
  n.ensures.whole.within,
  omega (arith, n.ensures.before.start, c.if-s-eq0.false),
  l.invariant.2 ++ (as_listed n.result ∷ []),
  length-snoc l.invariant.2 (as_listed n.result) ∙ ap (λ (n : ℕ). n + 1) l.invariant.3,
  listing-more (covered_at (recorded_in a.records.now.state.now) a.records.now.t a.records.now.used.records a.f) l.p l.invariant.2 l.invariant.4 n.result
      n.ensures c.if-s-eq0.false,
)

pub returns : goal.returns
returns c = let a = c.args in let l = c.loop-p in
    sym l.invariant.3 ∙ ap length (listing-end (covered_at (recorded_in a.records.now.state.now) a.records.now.t a.records.now.used.records a.f) l.p
    l.invariant.2 l.invariant.4 c.loop-p-test.false)
