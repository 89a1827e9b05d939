-- Sightings with their setters, and what is committed.
use Rattle.std.specs.Prelude.{Bool, true, false, ◌&&◌, List, [], ◌∷◌, eqb, ℕ}
use Rattle.spec.specs.Items.{Item, same, Values}

-- "An entry of a list says which offset (by descriptor) or which byte (by file and place) was sighted,
-- together with its setter." [R-7.3] 02, F-8: "a sighted length joins both lists as an entry of its own kind,
-- by file, with its setter" [R-7.3].
pub record Entry : Type 0 where
  pub item : Item
  pub setter : ℕ

unfoldable pub same_entry : Entry → Entry → Bool
same_entry a b = same a.item b.item && eqb a.setter b.setter

unfoldable pub same_entries : List Entry → List Entry → Bool
same_entries [] [] = true
same_entries [] (b ∷ bs) = false
same_entries (a ∷ es) [] = false
same_entries (a ∷ es) (b ∷ bs) = same_entry a b && same_entries es bs

-- "The setter of an offset or byte is the number, from 1, of the granted commit that last set it, 0 for
-- Fresh." [R-7.4]
pub record Committed : Type 0 where
  pub value : Values
  pub setter : Values

-- The sightings "with the setters of that moment" [R-17.3].
unfoldable pub entries : Values → List Item → List Entry
entries setter [] = []
entries setter (i ∷ is) = record { item = i; setter = setter i } ∷ entries setter is
