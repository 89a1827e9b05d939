-- A begun transaction to which a call was admitted, and laws of writes that are decoded one by one.
use mathlib.Core.{Bool.{Bool, true, ◌||◌, or_assoc, or-false}, List.{List, [], ◌∷◌, ◌++◌}, Path.{◌≡◌, refl, sym, ap, ap₂, ◌∙◌}}
use lib.ListN.{length}
use native.Mathlib.Omega.{arith}
use Prim.Native.Nat.{ℕ, zero, suc, ◌+◌, ◌<◌}
use Rattle.state.specs.{Journal.journal_length, declared.StoreMeaning.StoreMeaning, StoreMeaning.transaction}
use Rattle.limits.specs.Limits.{buffer_bytes, transaction_count}
use Rattle.buffers.specs.Parts.{tabulate}
use Rattle.admission.{specs.FirstRefusal.{some_below, sum}, proofs.Laws.{TransactionInRange, Admitted, in-range}}
use Rattle.spec.specs.{Transactions.Write, Steps.total, Places.some_write, Machine.{Machine, sizes}}
use Rattle.spec.proofs.Refinement.{Relation.Shaped, StepPreserves.total-append}

-- What a call knows of the transaction that it was admitted to.
pub record Opened (s : StoreMeaning) (journal logs : List ℕ) (t : ℕ) : Type 0 where
  pub shape : Shaped s
  pub long : length journal ≡ journal_length
  pub size : length logs ≡ buffer_bytes
  pub small : t < transaction_count
  pub ranges : TransactionInRange (transaction s t) journal t

pub decoded-open : (m : Machine) (t : ℕ) → Shaped m.store → length m.journal ≡ journal_length → Admitted (sizes m)
    m.store m.journal t → (transaction m.store t).begun ≡ true → Opened m.store m.journal m.logs t
decoded-open m t shape long a begun = record {
  shape = shape;
  long = long;
  size = a.lengths.logs;
  small = a.small;
  ranges = (in-range m.store m.journal a.ranges).transactions t a.small begun;
}

pub total-tabulate : (f : ℕ → Write) (n : ℕ) → total (tabulate f n) ≡ sum (λ k. length (f k).bytes) n
unfolding tabulate total sum
total-tabulate f zero = refl
total-tabulate f (suc n) = total-append (tabulate f n) (f n) ∙ ap (λ (m : ℕ). m + length (f n).bytes) (total-tabulate f n)

-- A test of some write, of writes that are decoded one by one.
module _ (test : Write → Bool) where
  some-append : (xs ys : List Write) → some_write test (xs ++ ys) ≡ (some_write test xs || some_write test ys)
  unfolding some_write
  some-append [] ys = refl
  some-append (x ∷ xs) ys = ap (λ (b : Bool). test x || b) (some-append xs ys)
      ∙ sym (or_assoc (test x) (some_write test xs) (some_write test ys))

  pub some-one-more : (xs : List Write) (w : Write) → some_write test (xs ++ (w ∷ [])) ≡ (some_write test xs || test w)
  unfolding some_write
  some-one-more xs w = some-append xs (w ∷ []) ∙ ap (λ (b : Bool). some_write test xs || b) (or-false (test w))

  pub some-tabulate : (f : ℕ → Write) (p : ℕ → Bool) (n : ℕ) → ((k : ℕ) → k < n → test (f k) ≡ p k)
      → some_write test (tabulate f n) ≡ some_below p n
  unfolding tabulate some_write some_below
  some-tabulate f p zero h = refl
  some-tabulate f p (suc n) h =
      some-one-more (tabulate f n) (f n) ∙ ap₂ ◌||◌ (some-tabulate f p n (λ k l. h k (omega arith))) (h n (omega arith))
