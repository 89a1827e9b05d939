-- A state whose first transactions are ended one after the other.
use mathlib.Core.{Bool.false, List.List, Path.{◌≡◌, refl, sym, ap, ◌∙◌}}
use lib.ListN.{length}
use native.Mathlib.Omega.{arith}
use Prim.Native.Nat.{ℕ, ◌+◌, ◌<◌}
use Rattle.limits.specs.Limits.{transaction_count}
use Rattle.buffers.{specs.Parts.tabulate, proofs.TableLaws.length-tabulate}
use Rattle.state.specs.declared.{Transaction.Transaction, StoreMeaning.StoreMeaning}
use Rattle.state.specs.StoreMeaning.{ended, with_transaction, with_transactions}
use Rattle.state.specs.{Layout.{transaction_of, store_of, journal_of, state_length}, Updates.reset_at}
use Rattle.state.proofs.Filled.{filled, filled_none, filled-set, filled-all}
use Rattle.state.proofs.LayoutLaws.{length-reset, store-reset, journal-reset}
use Rattle.spec.specs.Recovery.{all_ended}

-- Those below n are ended, and all else is as before.
pub record EndedAll (before : List ℕ) (n : ℕ) (after : List ℕ) : Type 0 where
  pub long : length after ≡ state_length
  pub store : store_of after ≡ with_transactions (filled (λ _. ended) (store_of before).transactions n) (store_of before)
  pub journal : journal_of after ≡ journal_of before

module _ (before : List ℕ) where
  abbrev with_first : List Transaction → StoreMeaning
  with_first xs = with_transactions xs (store_of before)

  eight : length (store_of before).transactions ≡ transaction_count
  eight = unfold store_of in length-tabulate (transaction_of before) 8

  pub ended-none : length before ≡ state_length → EndedAll before 0 before
  ended-none l = record {
    long = l;
    store = ap with_first (sym (filled_none (λ _. ended) (store_of before).transactions));
    journal = refl;
  }

  pub ended-more : (n : ℕ) (state after : List ℕ) → n < 8 → EndedAll before n state → after ≡ reset_at state n false
      → EndedAll before (n + 1) after
  unfolding ended with_transaction
  ended-more n state after l e is = let xs = (store_of before).transactions in let w = eight in record {
    long = ap length is ∙ length-reset state n e.long l false ∙ e.long;
    store = ap store_of is ∙ store-reset state n e.long l false ∙ ap (with_transaction n ended) e.store
        ∙ ap with_first (filled-set (λ _. ended) xs n ended (omega arith) refl);
    journal = ap journal_of is ∙ journal-reset state n e.long l false ∙ e.journal;
  }

  pub ended-all : (after : List ℕ) → EndedAll before 8 after → store_of after ≡ all_ended (store_of before)
  ended-all after e = unfold all_ended tabulate in let w = eight in
      e.store ∙ ap with_first (filled-all (λ _. ended) (store_of before).transactions 8 (omega arith))
