-- `call_places::write_interval_list` meets its contract. The loop's invariant: some intervals and those from p on are the list,
-- and the pairs of the former are written. Assumes nothing.
use mathlib.Core.{List.{List, [], ◌∷◌, ◌++◌}, Path.{refl, sym, ap, ◌∙◌}}
use Prim.Native.Nat.{ℕ}
use native.Mathlib.Omega.{arith}
use Rattle.buffers.specs.Parts.{pasted}
use Rattle.spec.specs.Places.{with_pairs, Interval as Listed}
use Rattle.read_lookup.specs.Lookup.{recorded_in}
use Rattle.call_places.specs.PlacesCall.{covered_at}
use Rattle.call_places.proofs.ListLaws.{as_listed, listing_none, listing-end, listing-all, listing-more, listing-room}
use Rattle.call_places.proofs.ListLaws.{length-snoc, pair, list-pairs-none, list-pairs-more, pairs-all}
use Rattle.call_places.proofs.write_interval_list.Goals as goal

pub loop-p-init : goal.loop-p-init
loop-p-init c = let a = c.args in (
  omega arith,
  refl,
  [],
  refl,
  listing_none (covered_at (recorded_in a.records.now.state.now) a.records.now.t a.records.now.used.records a.f),
  list-pairs-none a.out.now,
)

pub returns-then-s-eq0 : goal.returns-then-s-eq0
returns-then-s-eq0 c = let a = c.args in let l = c.loop-p in let n = c.next_interval-s in
    l.invariant.5 ∙ pairs-all a.out.now l.invariant.2 ∙ ap (λ (m : List Listed). with_pairs m a.out.now)
    (listing-all (covered_at (recorded_in a.records.now.state.now) a.records.now.t a.records.now.used.records a.f) l.p l.invariant.2 l.invariant.4 n.result
    n.ensures c.if-s-eq0.true)

-- The list has an interval more than those written.
pub put_pair-requires : goal.put_pair-requires
put_pair-requires c = let a = c.args in let l = c.loop-p in let n = c.next_interval-s in
    let room = listing-room (covered_at (recorded_in a.records.now.state.now) a.records.now.t a.records.now.used.records a.f) l.p l.invariant.2 l.invariant.4
    n.result n.ensures c.if-s-eq0.false in (
      omega (arith, room, l.invariant.3, l.invariant.1, c.requires.room),
      omega (arith, n.ensures.whole.within),
      omega (arith, n.ensures.whole.within),
    )

pub loop-p-preserved : goal.loop-p-preserved
loop-p-preserved c = let a = c.args in let l = c.loop-p in let n = c.next_interval-s in
    let room = listing-room (covered_at (recorded_in a.records.now.state.now) a.records.now.t a.records.now.used.records a.f) l.p l.invariant.2 l.invariant.4
    n.result n.ensures c.if-s-eq0.false in (
      n.ensures.whole.within,
      c.put_pair.auto.out ∙ l.invariant.1,
      l.invariant.2 ++ (as_listed n.result ∷ []),
      omega (arith, length-snoc l.invariant.2 (as_listed n.result), l.invariant.3),
      listing-more (covered_at (recorded_in a.records.now.state.now) a.records.now.t a.records.now.used.records a.f) l.p l.invariant.2 l.invariant.4 n.result
          n.ensures c.if-s-eq0.false,
      c.put_pair.ensures ∙ ap (λ (o : List ℕ). pasted o l.at (pair n.result)) l.invariant.5
          ∙ list-pairs-more a.out.now l.invariant.2 n.result l.at (sym l.invariant.3)
          (omega (arith, room, l.invariant.3, c.requires.room)),
    )

pub returns : goal.returns
returns c = let a = c.args in let l = c.loop-p in
    l.invariant.5 ∙ pairs-all a.out.now l.invariant.2 ∙ ap (λ (m : List Listed). with_pairs m a.out.now)
    (listing-end (covered_at (recorded_in a.records.now.state.now) a.records.now.t a.records.now.used.records a.f) l.p l.invariant.2 l.invariant.4
    c.loop-p-test.false)
