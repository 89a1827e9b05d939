-- The lengths put so far, and those that stood there after them.
use mathlib.Core.{List.List, Path.{◌≡◌, refl, sym, ap, ◌∙◌}}
use lib.ListN.{get_or}
use Prim.Native.Nat.{ℕ}
use native.Mathlib.Omega.{arith}
use Rattle.buffers.specs.Parts.{tabulate}
use Rattle.state.{specs.{StoreMeaning.with_lengths, Layout.store_of}, proofs.Filled.{filled_none, filled-all}}
use Rattle.spec.proofs.Refinement.IndexedLists.{tabulate-get_d}
use Rattle.refinement.proofs.Shapes.{shaped}
use Rattle.commit_apply.proofs.LengthLaws.{length-put}
use borrow.Author.Rules.{rules}
use Rattle.commit_apply.proofs.lengths.put_lengths.Invariants.{put_into}
use Rattle.commit_apply.proofs.lengths.put_lengths.Goals as goal

pub loop-f-init : goal.loop-f-init
loop-f-init c = let state = c.args.state.now in (
  record {
    store = ap (λ (ls : List ℕ). with_lengths ls (store_of state)) (sym (filled_none _ (store_of state).lengths));
    journal = refl;
    long = c.told-state;
  },
  search rules,
)

pub loop-f-preserved : goal.loop-f-preserved
loop-f-preserved c =
    let l = c.loop-f in
    let a = c.args in
    (length-put _ _ _ (λ f. get_or a.lengths f 0) l.f (omega arith) l.invariant.0 c.put_length.ensures, l.invariant.1)

pub returns : goal.returns
returns c = let l = c.loop-f in let a = c.args in let state = a.state.now in
    let e : l.f ≡ 8 = omega arith in
    let all : put_into a.lengths state l.f ≡ a.lengths = ap (put_into a.lengths state) e
    ∙ filled-all (λ f. get_or a.lengths f 0) (store_of state).lengths 8 (omega (arith, (shaped state).lengths))
    ∙ ap (tabulate (λ f. get_or a.lengths f 0)) (sym l.invariant.1) ∙ tabulate-get_d a.lengths 0 in record {
      store = l.invariant.0.store ∙ ap (λ (ls : List ℕ). with_lengths ls (store_of state)) all;
      journal = l.invariant.0.journal;
      long = l.invariant.0.long;
    }
