-- Paper 01, "Commit and Abort" [R-9.5]: what a commit sets.
use Rattle.std.specs.Prelude.{Bool, cond, ◌&&◌, List, [], ◌∷◌, ◌++◌, leb, ltb, length, ℕ, zero, suc, ◌+◌, ◌*◌}
use Rattle.limits.specs.Limits.{file_count, file_bytes, descriptor_count}
use Rattle.standings.specs.declared.Place.{Place}
use Rattle.standings.specs.declared.Place.TheVariants.{At, After}
use Rattle.admission.specs.FirstRefusal.{below}
use Rattle.spec.specs.Items.{Item, byte, offset, file_length, same, Values}
use Rattle.standings.specs.Table.{advance, is_touched, final_offset}
use Rattle.spec.specs.Transactions.{Txn, Write}
use Rattle.spec.specs.Reading.{write_end, farthest}

-- An item, and the value that a commit sets it to.
pub record Setting : Type 0 where
  pub item : Item
  pub to : ℕ

-- "The writes of the transaction land in call order; those still deferred lie from the committed offset of
-- that moment." [R-9.5]
unfoldable pub lands_at : ℕ → Place → ℕ
lands_at c (At p) = p
lands_at c (After a) = c + a

unfoldable pub bytes_from : ℕ → List ℕ → List Setting
bytes_from q [] = []
bytes_from q (b ∷ bs) = record { item = byte q; to = b } ∷ bytes_from (suc q) bs

unfoldable pub byte_settings : (ℕ → ℕ) → Values → List Write → List Setting
byte_settings file_of v [] = []
byte_settings file_of v (w ∷ ws) =
    bytes_from (file_bytes * file_of w.descriptor + lands_at (v (offset w.descriptor)) w.place)
    w.bytes
    ++ byte_settings file_of v ws

-- "Then the offset of every descriptor not Untouched is set (EndTransaction in the notes)" [R-9.7]; 02, F-2:
-- "Commit sets the offset of a descriptor only if the transaction made a Seek, Read or Write on it" [R-9.7].
unfoldable pub sets_offset : Txn → ℕ → Bool
sets_offset x d = x.dirty d && is_touched (x.standing d)

-- "committed offset plus advance if Deferred, otherwise its own" [R-9.7]: those of the first n descriptors.
unfoldable pub offset_settings : Values → Txn → ℕ → List Setting
offset_settings v x zero = []
offset_settings v x (suc d) =
    offset_settings v x d
    ++ cond (sets_offset x d) (record { item = offset d; to = final_offset (v (offset d)) (x.standing d) }
    ∷ []) []

-- 02, F-8: "a granted write of at least one byte raises it to the write's end" [R-9.6]: how far the writes
-- reach in file f as they land.
unfoldable pub landed_end : (ℕ → ℕ) → Values → ℕ → List Write → ℕ
landed_end file_of v f ws = farthest file_of f
    (λ w. write_end (lands_at (v (offset w.descriptor)) w.place) (length w.bytes)) ws

-- F-8: "a commit that raises a length sets it" [R-7.4], and no other does: the lengths of the first n files.
unfoldable pub length_settings : (ℕ → ℕ) → Values → List Write → ℕ → List Setting
length_settings file_of v ws zero = []
length_settings file_of v ws (suc f) =
    length_settings file_of v ws f
    ++ cond (ltb (v (file_length f)) (landed_end file_of v f ws))
    (record { item = file_length f; to = landed_end file_of v f ws } ∷ []) []

-- All that a commit sets, in order: landing, setters and staleness go by this one list.
unfoldable pub settings : (ℕ → ℕ) → Values → Txn → List Setting
settings file_of v x =
    byte_settings file_of v x.writes
    ++ (offset_settings v x descriptor_count ++ length_settings file_of v x.writes file_count)

-- 12: "settling, or Commit's placing, takes committed offset plus advance above 4,096" [R-16.1]. Commit's
-- placing passes.
unfoldable pub fits : Values → Txn → Bool
fits v x = below (λ d. leb (v (offset d) + advance (x.standing d)) file_bytes) descriptor_count

-- Values with one item set, and after a list of settings.
unfoldable pub put_item : Item → ℕ → Values → Values
put_item i n v j = cond (same j i) n (v j)

unfoldable pub landed : List Setting → Values → Values
landed [] v = v
landed (s ∷ ss) v = landed ss (put_item s.item s.to v)

-- "makes the count the setter of all it set" [R-17.4]
unfoldable pub set_by : ℕ → List Setting → Values → Values
set_by n [] v = v
set_by n (s ∷ ss) v = set_by n ss (put_item s.item n v)

-- Commit's refusals after 4 in order, "save that 13 comes before 12" [R-16.2]; 02, F-11: 21 "after 13 and
-- before 12" [R-16.2], "22 when a minute is above 1,439, after 4 in Commit" [R-16.2]; 0 stands for none. They
-- go by whether the minute is one of the day, the transaction is stale, a byte would go to a closed file, and
-- Commit's placing passes.
unfoldable pub commit_refusal : Bool → Bool → Bool → Bool → ℕ
commit_refusal minute stale shut placed = cond minute (cond stale 13 (cond shut 21 (cond placed 0 12))) 22
