-- Where the writes of a transaction in range end: no later than the file.
use mathlib.Core.{Bool.{Bool, true, false, cond}, List.{List, [], ◌∷◌, ◌++◌}, Path.◌≡◌}
use borrow.Author.Tests.{leb-true}
use lib.{Dec.eqb, ListN.{length, get_or}}
use native.Mathlib.Omega.{arith}
use Prim.Native.Nat.{ℕ, zero, suc, ◌+◌, ◌≤◌, ◌<◌, max, suc-le-suc}
use Rattle.limits.specs.Limits.{file_bytes, log_bytes}
use Rattle.standings.specs.declared.{Standing.Standing, Place.{Place, TheVariants.{At, After}}}
use Rattle.admission.specs.Admission.{place_in}
use Rattle.spec.specs.{Transactions.{Txn, Write}, Reading.{write_end, placed_end, farthest, own_end, length_for}}
use Rattle.spec.specs.Machine.{no_write}
use Rattle.spec.proofs.Refinement.Relation.{TxnIn}

pub write-end : (p n : ℕ) → p + n ≤ file_bytes → write_end p n ≤ file_bytes
unfolding write_end
write-end p zero h = omega arith
write-end p (suc n) h = h

-- If no write ends past the file, neither does the farthest.
pub farthest-in : (file_of : ℕ → ℕ) (f : ℕ) (end : Write → ℕ) (ws : List Write)
    → ((k : ℕ) → k < length ws → end (get_or ws k no_write) ≤ file_bytes) → farthest file_of f end ws ≤ file_bytes
unfolding farthest
farthest-in file_of f end [] h = omega arith
farthest-in file_of f end (w ∷ ws) h = let later = farthest-in file_of f end ws (λ k l. h (suc k) (suc-le-suc l)) in
    let here = pick (eqb (file_of w.descriptor) f) in omega arith
  where
    pick : (b : Bool) → cond b (end w) 0 ≤ file_bytes
    pick true = h 0 (omega arith)
    pick false = omega arith

placed_end_lem : (z : Standing) (place : Place) (n : ℕ) → place_in z place n ≡ true → placed_end place n ≤ file_bytes
unfolding placed_end place_in
placed_end_lem z (At p) n e = write-end p n (leb-true (p + n) file_bytes e)
placed_end_lem z (After a) n e = omega arith

-- The transaction's own writes, and its length.
own-end : (file_of : ℕ → ℕ) (f : ℕ) (y : Txn) → TxnIn y → own_end file_of f y.writes ≤ log_bytes
unfolding own_end
own-end file_of f y h = farthest-in file_of f (λ w. placed_end w.place (length w.bytes)) y.writes (λ k l. let w = get_or
    y.writes k no_write in placed_end_lem (y.standing w.descriptor) w.place (length w.bytes) (h.writes k l).place)

pub length-for : (file_of : ℕ → ℕ) (f : ℕ) (y : Txn) (committed : ℕ) → committed ≤ file_bytes → TxnIn y
    → length_for file_of f y.writes committed ≤ file_bytes
length-for file_of f y committed l h = unfold length_for in let e = own-end file_of f y h in omega arith

-- The farthest end with one write more.
pub farthest-last : (file_of : ℕ → ℕ) (f : ℕ) (end : Write → ℕ) (ws : List Write) (w : Write)
    → farthest file_of f end (ws ++ (w ∷ [])) ≡ max (farthest file_of f end ws) (cond (eqb (file_of w.descriptor) f) (end w) 0)
unfolding farthest
farthest-last file_of f end [] w = omega arith
farthest-last file_of f end (x ∷ ws) w = let e = farthest-last file_of f end ws w in omega arith
