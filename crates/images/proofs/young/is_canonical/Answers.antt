-- `young::is_canonical` meets its contract.
use mathlib.Core.{Bool.{Bool, ◌&&◌, ◌||◌, true, false, not}, Path.{◌≡◌, refl, sym, ap, ◌∙◌}}
use Prim.Native.Nat.{ℕ}
use lib.Dec.{ltb}
use borrow.Author.Tests.{lt-ltb, le-ltb}
use native.Mathlib.Omega.{arith}
use Rattle.admission.proofs.Laws.{failed, test-held}
use Rattle.images.specs.{Words.word_at, Images.{blank_record, canonical}}
use Rattle.buffers.{specs.Below.below, proofs.BelowLaws.{below-zero, below_more, below_fails}}
use Rattle.images.proofs.young.is_canonical.Goals as goal
use Rattle.images.proofs.young.is_canonical.Goals.{else-k-records-via-then-k-records+else-not-is_blank, else-k-records-via-else-k-records}

not-both : (a b : Bool) → b ≡ false → false ≡ a && b
not-both true b e = sym e
not-both false b e = refl

pub loop-k-init : goal.loop-k-init
loop-k-init c = below-zero _

pub returns-then-not-is_blank : goal.returns-then-not-is_blank
unfolding canonical
returns-then-not-is_blank c = let e = c.from-records.ensures ∙ c.word_at.ensures in
    let f : below (λ (j : ℕ). ltb j c.from-records.result || blank_record (word_at c.args.image.now) j) 64 ≡ false =
    below_fails _ c.loop-k.k 64 (omega arith) (rw (le-ltb _ _ c.if-k-records.true) (failed c.is_blank.ensures
    (ap not c.if-not-is_blank.true))) in rw (← e) (not-both _ _ f)

pub loop-k-preserved : goal.loop-k-preserved
loop-k-preserved c = below_more _ _ c.loop-k.invariant (elim c.else-k-records.branch [
  | else-k-records-via-then-k-records+else-not-is_blank w ↦ rw (le-ltb _ _ w.if-k-records.true)
      (test-held w.is_blank.ensures (ap not w.if-not-is_blank.false))
  | else-k-records-via-else-k-records w ↦ rw (lt-ltb _ _ w.if-k-records.false) refl
])
