-- Lists that a loop fills from the front with the entries of a table.
use mathlib.Core.{List.{List, ◌∷◌, ◌++◌, append-nil}, Path.{◌≡◌, refl, sym, ap, ap₂, ◌∙◌}}
use lib.{ListN.{length, get_or, set, drop, drop_of_length-le}, Seq.{drop-cons, append_snoc, set_at}}
use native.Mathlib.Numerals.{add-one}
use Prim.Native.Nat.{ℕ, suc, ◌+◌, ◌≤◌, ◌<◌}
use Rattle.buffers.{specs.Parts.tabulate, proofs.TableLaws.length-tabulate}

module _ {A : Type 0} (f : ℕ → A) (xs : List A) where
  abbrev pub filled : ℕ → List A
  filled n = tabulate f n ++ drop n xs

  pub filled_none : filled 0 ≡ xs
  filled_none = unfold tabulate in refl

  pub filled-all : (n : ℕ) → length xs ≤ n → filled n ≡ tabulate f n
  filled-all n h = ap (λ (l : List A). tabulate f n ++ l) (drop_of_length-le xs h) ∙ append-nil (tabulate f n)

  more : (n : ℕ) → filled (n + 1) ≡ tabulate f n ++ (f n ∷ drop (suc n) xs)
  more n = unfold tabulate in rw add-one (append_snoc (tabulate f n) (f n) (drop (suc n) xs))

  pub filled-set : (n : ℕ) (a : A) → n < length xs → a ≡ f n → set (filled n) n a ≡ filled (n + 1)
  filled-set n a h e = ap₂ (λ (l : List A) (b : A). set (tabulate f n ++ l) n b) (drop-cons xs n a h) e
      ∙ set_at (tabulate f n) (get_or xs n a) (drop (suc n) xs) (f n) n (length-tabulate f n) ∙ sym (more n)

  pub filled-preserved : (n : ℕ) (z : A) → n < length xs → f n ≡ get_or xs n z → filled n ≡ filled (n + 1)
  filled-preserved n z h e = ap (λ (l : List A). tabulate f n ++ l) (drop-cons xs n z h)
      ∙ ap (λ (a : A). tabulate f n ++ (a ∷ drop (suc n) xs)) (sym e) ∙ sym (more n)
