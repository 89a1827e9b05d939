-- Paper 01, "Standings of a descriptor in a transaction" [R-3.1]: the table, a function for each column.
use Rattle.std.specs.Prelude.{Bool, true, false, ℕ, ◌+◌}
use Rattle.standings.specs.declared.Standing.{Standing}
use Rattle.standings.specs.declared.Standing.TheVariants.{Untouched, Placed, Deferred, Moved, Known}
use Rattle.standings.specs.declared.Place.{Place}
use Rattle.standings.specs.declared.Place.TheVariants.{At, After}

-- The column "Seek v" [R-3.2]: "A standing that carries an offset takes v at a Seek" [R-3.3].
unfoldable pub after_seek : ℕ → Standing → Standing
after_seek v Untouched = Placed v
after_seek v (Placed o) = Placed v
after_seek v (Deferred a) = Moved a v
after_seek v (Moved a o) = Moved a v
after_seek v (Known o) = Known v

-- The column "Write n" [R-3.2]: "n more at a Write" [R-3.3]; "The advance counts the bytes written before any
-- Seek" [R-3.1].
unfoldable pub after_write : ℕ → Standing → Standing
after_write n Untouched = Deferred n
after_write n (Placed o) = Placed (o + n)
after_write n (Deferred a) = Deferred (a + n)
after_write n (Moved a o) = Moved a (o + n)
after_write n (Known o) = Known (o + n)

-- "n more .. at a Read that gave n bytes" [R-3.3]. A Read leaves its descriptor with an offset before this.
unfoldable pub after_read : ℕ → Standing → Standing
after_read n Untouched = Untouched
after_read n (Placed o) = Placed (o + n)
after_read n (Deferred a) = Deferred a
after_read n (Moved a o) = Moved a (o + n)
after_read n (Known o) = Known (o + n)

-- The column "GetFilePointer" [R-3.2]: which standings it settles.
abbrev pub pointer_settles : Standing → Bool
pointer_settles Untouched = true
pointer_settles (Placed o) = false
pointer_settles (Deferred a) = true
pointer_settles (Moved a o) = false
pointer_settles (Known o) = false

-- "Before a Read through descriptor d fetches bytes, it settles every descriptor of d's file that stands
-- Deferred or Moved, and d if Untouched" [R-4.4]: of a descriptor, whether it is of d's file, and whether it
-- is d.
abbrev pub read_settles : Bool → Bool → Standing → Bool
read_settles of_file is_it Untouched = is_it
read_settles of_file is_it (Placed o) = false
read_settles of_file is_it (Deferred a) = of_file
read_settles of_file is_it (Moved a o) = of_file
read_settles of_file is_it (Known o) = false

-- The advance that a standing carries; 0 where it carries none.
abbrev pub advance : Standing → ℕ
advance Untouched = 0
advance (Placed o) = 0
advance (Deferred a) = a
advance (Moved a o) = a
advance (Known o) = 0

-- "To settle is to take the committed offset c. Untouched becomes Known at c. Deferred becomes Known at c +
-- advance. Moved becomes Known at its own offset." [R-4.1]
unfoldable pub settled : ℕ → Standing → Standing
settled c Untouched = Known c
settled c (Placed o) = Placed o
settled c (Deferred a) = Known (c + a)
settled c (Moved a o) = Known o
settled c (Known o) = Known o

-- "GetFilePointer answers the offset" [R-3.3]: the offset that a standing carries; 0 where it carries none.
abbrev pub offset_of : Standing → ℕ
offset_of Untouched = 0
offset_of (Placed o) = o
offset_of (Deferred a) = 0
offset_of (Moved a o) = o
offset_of (Known o) = o

-- Where a Write lies: at the offset or, where the place is unknown, after the advance before it.
unfoldable pub write_place : Standing → Place
write_place Untouched = After 0
write_place (Placed o) = At o
write_place (Deferred a) = After a
write_place (Moved a o) = At o
write_place (Known o) = At o

-- "the offset of every descriptor not Untouched is set (EndTransaction in the notes): committed offset plus
-- advance if Deferred, otherwise its own" [R-9.7]: whether it is not Untouched, and the offset, at committed
-- offset c.
abbrev pub is_touched : Standing → Bool
is_touched Untouched = false
is_touched (Placed o) = true
is_touched (Deferred a) = true
is_touched (Moved a o) = true
is_touched (Known o) = true

unfoldable pub final_offset : ℕ → Standing → ℕ
final_offset c Untouched = c
final_offset c (Placed o) = o
final_offset c (Deferred a) = c + a
final_offset c (Moved a o) = o
final_offset c (Known o) = o

-- A descriptor's offset was sighted exactly where it stands Known (paper 01: "A sighting is an offset that
-- was settled" [R-7.1]).
abbrev pub is_known : Standing → Bool
is_known Untouched = false
is_known (Placed o) = false
is_known (Deferred a) = false
is_known (Moved a o) = false
is_known (Known o) = true

-- "a record without a place only under Deferred or Moved" [R-16.4]: whether one may stand under this
-- standing.
abbrev pub may_wait : Standing → Bool
may_wait Untouched = false
may_wait (Placed o) = false
may_wait (Deferred a) = true
may_wait (Moved a o) = true
may_wait (Known o) = false

-- The number of a place: the place itself, or the advance before the write.
abbrev pub place_number : Place → ℕ
place_number (At p) = p
place_number (After a) = a
