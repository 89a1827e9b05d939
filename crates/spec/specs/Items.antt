-- What a transaction can sight: the committed bytes, offsets and lengths, and programs that ask for them one
-- after the other.
use Rattle.std.specs.Prelude.{Bool, false, List, [], ◌∷◌, eqb, ℕ}

-- "which offset (by descriptor) or which byte (by file and place)" [R-7.3]: the byte at a place of the files
-- buffer, which is 4,096 × file + place in the file, or the committed offset of a descriptor; 02, F-8: "a
-- sighted length joins both lists as an entry of its own kind, by file" [R-7.3]: the committed length of a
-- file.
pub data Item : Type 0 where
  byte : ℕ → Item
  offset : ℕ → Item
  file_length : ℕ → Item

unfoldable pub same : Item → Item → Bool
same (byte p) (byte q) = eqb p q
same (byte p) (offset e) = false
same (byte p) (file_length g) = false
same (offset d) (byte q) = false
same (offset d) (offset e) = eqb d e
same (offset d) (file_length g) = false
same (file_length f) (byte q) = false
same (file_length f) (offset e) = false
same (file_length f) (file_length g) = eqb f g

-- The committed values, one for each item.
abbrev pub Values : Type 0
Values = Item → ℕ

-- A program that asks for committed items, and goes on by their values. What an accepted step asks for is
-- sighted.
pub data Prog (A : Type 0) : Type 0 where
  done : A → Prog A
  ask : Item → (ℕ → Prog A) → Prog A
  -- A file's committed length, which is not thereby sighted. A Read that gave all it wanted gives the same
  -- with any greater length, and while a transaction is open lengths only grow; one that gave fewer bytes
  -- asks for the length after its bytes, and so sights it.
  measure : ℕ → (ℕ → Prog A) → Prog A

module _ {A B : Type 0} where
  -- One program, then another that goes on with its result.
  unfoldable pub and_then : Prog A → (A → Prog B) → Prog B
  and_then (done a) k = k a
  and_then (ask i g) k = ask i (λ v. and_then (g v) k)
  and_then (measure f g) k = measure f (λ n. and_then (g n) k)

module _ {A : Type 0} where
  -- The result of a program on committed values.
  unfoldable pub result : Values → Prog A → A
  result v (done a) = a
  result v (ask i g) = result v (g (v i))
  result v (measure f g) = result v (g (v (file_length f)))

  -- The items that it asks for, in order.
  unfoldable pub asked : Values → Prog A → List Item
  asked v (done a) = []
  asked v (ask i g) = i ∷ asked v (g (v i))
  asked v (measure f g) = asked v (g (v (file_length f)))
