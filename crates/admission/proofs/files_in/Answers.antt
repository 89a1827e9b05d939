-- `admission::files_in` meets its contract.
use mathlib.Core.{Bool.{Bool, true, false}, List.List, Path.{◌≡◌, refl, sym}}
use Prim.Native.Nat.{ℕ, ◌≤◌, ◌<◌}
use native.Mathlib.Omega.{arith}
use lib.{Dec.leb, ListN.{length, get_or}}
use borrow.Author.{Tests.{leb-true, le-leb}, Rules.rules}
use Rattle.std.specs.Prelude.{IsTrue, ◌↔◌, EachIndex}
use Rattle.limits.specs.Limits.{last_file, descriptor_count}
use Rattle.admission.specs.FirstRefusal.{below}
use Rattle.admission.proofs.Laws.{below_at, below_all}
use Rattle.admission.proofs.files_in.Goals as goal

module _ (xs : List ℕ) (sixteen : length xs ≡ descriptor_count) where
  abbrev test : ℕ → Bool
  test d = leb (get_or xs d 0) last_file

  abbrev Each : Type 0
  Each = (k : ℕ) → k < length xs → get_or xs k 0 ≤ last_file

  each-passes : below test descriptor_count ≡ true → Each
  each-passes e k l = leb-true _ _ (below_at test descriptor_count k e (omega arith))

  passes : (r : Bool) → (r ≡ true → Each) → (Each → r ≡ true) → r ≡ below test descriptor_count
  passes true f g = sym (below_all test descriptor_count (λ k l. le-leb _ _ (f refl k (omega arith))))
  passes false f g = pick (below test descriptor_count) each-passes
    where
      pick : (t : Bool) → (t ≡ true → Each) → false ≡ t
      pick false h = refl
      pick true h = g (h refl)

pub returns : goal.returns
returns c = let each : IsTrue c.all.result ↔ EachIndex c.args.files.now (λ k. get_or c.args.files.now k 0 ≤ last_file)
    = search rules in passes _ c.requires _ each.0 each.1
