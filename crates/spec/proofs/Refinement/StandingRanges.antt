-- Standings and places stay in range: a function for each column of the table, and settling.
use mathlib.Core.{Bool.{true, false≢true}, Path.{◌≡◌, refl}}
use borrow.Author.Tests.{leb-true, le-leb}
use lib.Dec.{leb}
use native.Mathlib.Omega.{arith}
use Prim.Native.Nat.{ℕ, ◌+◌, ◌-◌, ◌≤◌}
use Rattle.limits.specs.Limits.{file_bytes}
use Rattle.standings.specs.declared.{Standing.{Standing, TheVariants.{Untouched, Placed, Deferred, Moved, Known}}, Place.Place}
use Rattle.standings.specs.declared.Place.TheVariants.{At, After}
use Rattle.standings.specs.Table.{place_number, after_seek, after_write, after_read, advance, settled, offset_of, write_place}
use Rattle.admission.{specs.Admission.{standing_in, ends_within, place_in}, proofs.Laws.{and_left, and_right, and_both}}
use Rattle.spec.specs.Transactions.{placed_at}

-- At most 4,096, of a number above one that is.
bounded : (a b : ℕ) → b ≤ file_bytes → a ≤ b → leb a file_bytes ≡ true
bounded a b h l = le-leb a file_bytes (omega arith)

pub seek-in : (v : ℕ) (z : Standing) → v ≤ file_bytes → standing_in z ≡ true → standing_in (after_seek v z) ≡ true
unfolding standing_in after_seek
seek-in v Untouched h e = le-leb v file_bytes h
seek-in v (Placed o) h e = le-leb v file_bytes h
seek-in v (Deferred a) h e = and_both (leb a file_bytes) (leb v file_bytes) (and_left (leb a file_bytes) true e)
    (le-leb v file_bytes h)
seek-in v (Moved a o) h e = and_both (leb a file_bytes) (leb v file_bytes) (and_left (leb a file_bytes) (leb o file_bytes) e)
    (le-leb v file_bytes h)
seek-in v (Known o) h e = le-leb v file_bytes h

pub write-in : (n : ℕ) (z : Standing) → place_number (write_place z) + n ≤ file_bytes → standing_in z ≡ true
    → standing_in (after_write n z) ≡ true
unfolding standing_in after_write write_place
write-in n Untouched h e = and_both (leb n file_bytes) true (bounded n (0 + n) h (omega arith)) refl
write-in n (Placed o) h e = le-leb (o + n) file_bytes h
write-in n (Deferred a) h e = and_both (leb (a + n) file_bytes) true (le-leb (a + n) file_bytes h) refl
write-in n (Moved a o) h e = and_both (leb a file_bytes) (leb (o + n) file_bytes) (and_left (leb a file_bytes) (leb o file_bytes) e)
    (le-leb (o + n) file_bytes h)
write-in n (Known o) h e = le-leb (o + n) file_bytes h

pub read-in : (n : ℕ) (z : Standing) → n ≤ file_bytes - offset_of z → standing_in z ≡ true → standing_in (after_read n z) ≡ true
unfolding standing_in after_read
read-in n Untouched h e = refl
read-in n (Placed o) h e = let l = leb-true o file_bytes e in le-leb (o + n) file_bytes (omega arith)
read-in n (Deferred a) h e = e
read-in n (Moved a o) h e = let l = leb-true o file_bytes (and_right (leb a file_bytes) (leb o file_bytes) e) in
    and_both (leb a file_bytes) (leb (o + n) file_bytes) (and_left (leb a file_bytes) (leb o file_bytes) e)
    (le-leb (o + n) file_bytes (omega arith))
read-in n (Known o) h e = let l = leb-true o file_bytes e in le-leb (o + n) file_bytes (omega arith)

pub settled-in : (c : ℕ) (z : Standing) → c + advance z ≤ file_bytes → standing_in z ≡ true → standing_in (settled c z) ≡ true
unfolding standing_in settled
settled-in c Untouched h e = bounded c (c + 0) h (omega arith)
settled-in c (Placed o) h e = e
settled-in c (Deferred a) h e = le-leb (c + a) file_bytes h
settled-in c (Moved a o) h e = and_right (leb a file_bytes) (leb o file_bytes) e
settled-in c (Known o) h e = e

-- A write without a place goes on ending within its descriptor's advance.
abbrev pub EndsPreserved : Standing → Standing → Type 0
EndsPreserved z y = (end : ℕ) → ends_within z end ≡ true → ends_within y end ≡ true

pub seek-ends : (v : ℕ) (z : Standing) → EndsPreserved z (after_seek v z)
unfolding ends_within after_seek
seek-ends v Untouched end e = e
seek-ends v (Placed o) end e = e
seek-ends v (Deferred a) end e = e
seek-ends v (Moved a o) end e = e
seek-ends v (Known o) end e = e

pub write-ends : (n : ℕ) (z : Standing) → EndsPreserved z (after_write n z)
unfolding ends_within after_write
write-ends n Untouched end e = absurd (false≢true e)
write-ends n (Placed o) end e = e
write-ends n (Deferred a) end e = let l = leb-true end a e in le-leb end (a + n) (omega arith)
write-ends n (Moved a o) end e = e
write-ends n (Known o) end e = e

pub read-ends : (n : ℕ) (z : Standing) → EndsPreserved z (after_read n z)
unfolding ends_within after_read
read-ends n Untouched end e = e
read-ends n (Placed o) end e = e
read-ends n (Deferred a) end e = e
read-ends n (Moved a o) end e = e
read-ends n (Known o) end e = e

pub place-preserved : (z y : Standing) (p : Place) (n : ℕ) → EndsPreserved z y → place_in z p n ≡ true → place_in y p n ≡ true
unfolding place_in
place-preserved z y (At p) n k e = e
place-preserved z y (After a) n k e =
    and_both (leb (a + n) file_bytes) (ends_within y (a + n)) (and_left (leb (a + n) file_bytes) (ends_within z (a + n)) e)
    (k (a + n) (and_right (leb (a + n) file_bytes) (ends_within z (a + n)) e))

ends-le : (z : Standing) (end : ℕ) → ends_within z end ≡ true → end ≤ advance z
unfolding ends_within
ends-le Untouched end e = absurd (false≢true e)
ends-le (Placed o) end e = absurd (false≢true e)
ends-le (Deferred a) end e = leb-true end a e
ends-le (Moved a o) end e = leb-true end a e
ends-le (Known o) end e = absurd (false≢true e)

-- A write that settling places, under any standing.
pub place-settled : (c : ℕ) (z y : Standing) (p : Place) (n : ℕ) → c + advance z ≤ file_bytes → place_in z p n ≡ true
    → place_in y (placed_at c p) n ≡ true
unfolding place_in placed_at
place-settled c z y (At p) n h e = e
place-settled c z y (After a) n h e = let l = ends-le z (a + n)
    (and_right (leb (a + n) file_bytes) (ends_within z (a + n)) e) in le-leb (c + a + n) file_bytes (omega arith)

-- A new write, under the standing that it leaves.
pub place-written : (n : ℕ) (z : Standing) → place_number (write_place z) + n ≤ file_bytes
    → place_in (after_write n z) (write_place z) n ≡ true
unfolding place_in ends_within after_write write_place
place-written n Untouched h = and_both (leb (0 + n) file_bytes) (leb (0 + n) n) (le-leb (0 + n) file_bytes h)
    (le-leb (0 + n) n (omega arith))
place-written n (Placed o) h = le-leb (o + n) file_bytes h
place-written n (Deferred a) h =
    and_both (leb (a + n) file_bytes) (leb (a + n) (a + n)) (le-leb (a + n) file_bytes h) (le-leb (a + n) (a + n) (omega arith))
place-written n (Moved a o) h = le-leb (o + n) file_bytes h
place-written n (Known o) h = le-leb (o + n) file_bytes h
