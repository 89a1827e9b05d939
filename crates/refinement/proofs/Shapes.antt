-- What a state's numbers mean has the lengths that 01 gives its arrays.
use mathlib.Core.{Path.{◌≡◌, ap, ◌∙◌}, List.List}
use lib.{ListN.length, Seq.{get_or-set_same, set-set}}
use Prim.Native.Nat.{ℕ, ◌<◌}
use Rattle.limits.specs.Limits.{descriptor_count, transaction_count}
use Rattle.buffers.proofs.TableLaws.{length-tabulate}
use Rattle.state.specs.declared.{Transaction.Transaction, StoreMeaning.StoreMeaning}
use Rattle.state.specs.{StoreMeaning.{no_transaction, transaction, with_transaction}, Layout.{transaction_of, undo_of, store_of}}
use Rattle.state.proofs.LayoutLaws.{transaction-of}
use Rattle.spec.proofs.Refinement.Relation.{Shaped}

pub sixteen-descriptors : (state : List ℕ) (t : ℕ) → length (transaction_of state t).descriptors ≡ descriptor_count
sixteen-descriptors state t = unfold transaction_of in length-tabulate _ 16

pub shaped : (state : List ℕ) → Shaped (store_of state)
shaped state = unfold store_of undo_of in record {
  files = length-tabulate _ 16;
  offsets = length-tabulate _ 16;
  lengths = length-tabulate _ 8;
  windows = length-tabulate _ 8;
  found_offsets = length-tabulate _ 16;
  found_lengths = length-tabulate _ 8;
  transactions = length-tabulate _ 8;
  descriptors = λ t h. ap (λ (x : Transaction). length x.descriptors) (transaction-of state t h)
      ∙ sixteen-descriptors state t;
}

-- The eight transactions have numbers below 8.
pub eight : (state : List ℕ) (t : ℕ) → t < transaction_count → t < length (store_of state).transactions
eight state t small = rw (shaped state).transactions small

-- A transaction that was put is read back, and changed where it stands.
module _ (s : StoreMeaning) (t : ℕ) (x : Transaction) where
  pub put-read : t < length s.transactions → transaction (with_transaction t x s) t ≡ x
  put-read h = unfold with_transaction in get_or-set_same s.transactions t x no_transaction h

  pub shape-put-twice : (f : Transaction → Transaction) → t < length s.transactions
      → with_transaction t (f (transaction (with_transaction t x s) t)) (with_transaction t x s) ≡ with_transaction t (f x) s
  shape-put-twice f h = unfold with_transaction in rw (put-read h, set-set s.transactions t x (f x))
