-- Laws of a saved block. Assumes nothing.
use mathlib.Core.{List.{List, [], ◌∷◌, ◌++◌}, Path.{◌≡◌, sym, ap, ap₂, ◌∙◌}}
use lib.{ListN.{length, take, set}, Seq.{take_all, take-suc-set}}
use native.Mathlib.{Numerals.add-one, Omega.arith}
use Prim.Native.Nat.{ℕ, ◌+◌, ◌<◌}
use Rattle.buffers.specs.Parts.{tabulate}
use Rattle.state.specs.Layout.{state_length}
use Rattle.replay.specs.Blocks.{block_word_at, state_of_block}

module _ (bytes state : List ℕ) (i : ℕ) (front : take i state ≡ tabulate (block_word_at bytes) i) where
  pub word_more : (v : ℕ) → i < length state → v ≡ block_word_at bytes i → take (i + 1) (set state i v)
      ≡ tabulate (block_word_at bytes) (i + 1)
  unfolding tabulate
  word_more v h q = ap (λ (k : ℕ). take k (set state i v)) (add-one i) ∙ take-suc-set state i v h
      ∙ ap₂ (λ (l : List ℕ) (x : ℕ). l ++ (x ∷ [])) front q ∙ sym (ap (tabulate (block_word_at bytes)) (add-one i))

  pub words_all : i ≡ state_length → length state ≡ state_length → state ≡ state_of_block bytes
  words_all e l = unfold state_of_block in sym (take_all i state (omega arith)) ∙ front ∙ ap (tabulate (block_word_at bytes)) e
