-- Who has sighted what a commit sets: the flags and the octet of a granted Commit.
use mathlib.Core.{Bool.{Bool, true, false, cond, not, ◌&&◌, ◌||◌}, List.{List, [], ◌∷◌}, Path.{◌≡◌, refl, ap₂}}
use lib.Dec.{eqb}
use Prim.Native.Nat.{ℕ, ◌<◌}
use native.Mathlib.Omega.{arith}
use borrow.Author.Tests.{le-leb}
use Rattle.limits.specs.Limits.{transaction_count, last_transaction}
use Rattle.state.specs.StoreMeaning.{transaction}
use Rattle.buffers.{specs.Bits.bits_of, proofs.SetLaws.bits-same}
use Rattle.spec.specs.{Items.{Item, byte, offset, file_length}, Transactions.put, Commits.Setting, Machine.{Machine, txn_of}}
use Rattle.spec.specs.Calls.{has_sighted, conflicts, made_stale}
use Rattle.spec.proofs.Abstract.AbstractStore.{vacant, occupied, abstract_sighted, hit, newly_stale}
use Rattle.spec.proofs.Refinement.Relation.{open_txn_in, seat}

module _ (m : Machine) (u : ℕ) where
  sighted-same : (i : Item) → has_sighted m.marks u (transaction m.store u) i ≡ abstract_sighted (open_txn_in m u) i
  unfolding has_sighted abstract_sighted open_txn_in txn_of
  sighted-same (byte q) = refl
  sighted-same (offset d) = refl
  sighted-same (file_length f) = refl

  pub conflicts-hit : (ss : List Setting) → conflicts m.marks u (transaction m.store u) ss ≡ hit ss (open_txn_in m u)
  unfolding conflicts hit
  conflicts-hit [] = refl
  conflicts-hit (x ∷ ss) = ap₂ ◌||◌ (sighted-same x.item) (conflicts-hit ss)

module _ (m : Machine) (t : ℕ) (ss : List Setting) where
  pub made-stale : (u : ℕ) → u < transaction_count → made_stale t ss m u ≡ newly_stale ss (put t vacant (seat m) u)
  unfolding made_stale newly_stale put seat open_txn_in
  made-stale u l = rw (le-leb u last_transaction (omega arith), conflicts-hit m u ss)
      (pick (eqb u t) (transaction m.store u).begun)
    where
      pick : (b c : Bool) → (not b && c && not (transaction m.store u).stale && hit ss (open_txn_in m u))
          ≡ newly_stale ss (cond b vacant (cond c (occupied (open_txn_in m u)) vacant))
      pick true c = refl
      pick false true = refl
      pick false false = refl

  pub octet-same : bits_of (made_stale t ss m) transaction_count ≡ bits_of (λ u. newly_stale ss (put t vacant (seat m) u)) 8
  octet-same = bits-same (made_stale t ss m) (λ u. newly_stale ss (put t vacant (seat m) u)) 8 made-stale

  -- The flag of another transaction after the commit: it was stale, or is open and has sighted what is set.
  pub stale-after : (u : ℕ) → eqb u t ≡ false → let x = transaction m.store u in
      x.stale || made_stale t ss m u ≡ x.stale || (x.begun && conflicts m.marks u x ss)
  unfolding made_stale
  stale-after u e = let x = transaction m.store u in rw e (pick x.stale x.begun)
    where
      pick : (z b : Bool) → let c = conflicts m.marks u (transaction m.store u) ss in z || (b && not z && c) ≡ z || (b && c)
      pick true b = refl
      pick false true = refl
      pick false false = refl
