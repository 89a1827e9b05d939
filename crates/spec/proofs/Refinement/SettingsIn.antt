-- All that a granted commit sets lies inside the files buffer, or is the offset of a descriptor or the length of a file and at
-- most 4,096.
use mathlib.Core.{Bool.{Bool, true, false, cond, false≢true}, List.{List, [], ◌∷◌, ◌++◌}, Path.{◌≡◌, refl}}
use lib.{Dec.{leb, ltb}, ListN.{length, get_or}}
use Prim.Native.Nat.{ℕ, zero, suc, ◌+◌, ◌*◌, ◌≤◌, ◌<◌, suc-le-suc}
use native.Mathlib.Omega.{arith}
use borrow.Author.Tests.{leb-true}
use Rattle.limits.specs.Limits.{file_count, last_file, file_bytes, buffer_bytes, descriptor_count, log_bytes}
use Rattle.standings.specs.declared.{Standing.{Standing, TheVariants.{Untouched, Placed, Deferred, Moved, Known}}, Place.Place}
use Rattle.standings.specs.{declared.Place.TheVariants.{At, After}, Table.{advance, is_touched, final_offset}}
use Rattle.admission.{specs.Admission.{standing_in, ends_within, place_in}, proofs.Laws.{and_right, below_at}}
use Rattle.spec.specs.{Items.{Item, byte, offset, file_length, Values}, Transactions.{Txn, Write}}
use Rattle.spec.specs.Commits.{Setting, lands_at, bytes_from, byte_settings, sets_offset, offset_settings, landed_end}
use Rattle.spec.specs.{Commits.{length_settings, settings, fits}, Reading.write_end, Machine.no_write}
use Rattle.spec.proofs.Refinement.{Relation.{WriteIn, TxnIn}, WriteEnds.{write-end, farthest-in}}

-- Where an item may lie, and what it may be set to.
abbrev pub SetIn : Item → ℕ → Type 0
SetIn (byte q) n = q < buffer_bytes
SetIn (offset d) n = (d < descriptor_count) × (n ≤ file_bytes)
SetIn (file_length f) n = (f < file_count) × (n ≤ file_bytes)

abbrev pub AllIn : List Setting → Type 0
AllIn [] = Unit {0}
AllIn (x ∷ ss) = SetIn x.item x.to × AllIn ss

all_append : (ss rs : List Setting) → AllIn ss → AllIn rs → AllIn (ss ++ rs)
all_append [] rs a b = b
all_append (x ∷ ss) rs a b = (a.0, all_append ss rs a.1 b)

-- ---- bytes

interval-in : (q : ℕ) (bs : List ℕ) → q + length bs ≤ buffer_bytes → AllIn (bytes_from q bs)
unfolding bytes_from
interval-in q [] h = tt
interval-in q (b ∷ bs) h = (omega arith, interval-in (suc q) bs (omega arith))

-- A write without a place ends within the advance of its descriptor.
ends-within : (z : Standing) (end : ℕ) → ends_within z end ≡ true → end ≤ advance z
unfolding ends_within
ends-within Untouched end e = absurd (false≢true e)
ends-within (Placed o) end e = absurd (false≢true e)
ends-within (Deferred a) end e = leb-true end a e
ends-within (Moved a o) end e = leb-true end a e
ends-within (Known o) end e = absurd (false≢true e)

pub lands-in : (c : ℕ) (z : Standing) (p : Place) (n : ℕ) → c + advance z ≤ file_bytes → place_in z p n ≡ true
    → lands_at c p + n ≤ file_bytes
unfolding place_in lands_at
lands-in c z (At p) n h e = leb-true (p + n) file_bytes e
lands-in c z (After a) n h e = let f = ends-within z (a + n) (and_right (leb (a + n) file_bytes) (ends_within z (a + n)) e) in omega
    arith

-- ---- offsets

final-in : (c : ℕ) (z : Standing) → is_touched z ≡ true → c + advance z ≤ file_bytes → standing_in z ≡ true
    → final_offset c z ≤ file_bytes
unfolding standing_in final_offset
final-in c Untouched s h e = absurd (false≢true s)
final-in c (Placed o) s h e = leb-true o file_bytes e
final-in c (Deferred a) s h e = h
final-in c (Moved a o) s h e = leb-true o file_bytes (and_right (leb a file_bytes) (leb o file_bytes) e)
final-in c (Known o) s h e = leb-true o file_bytes e

-- ---- a transaction in range whose placing fits

pub settings-fit-at : (v : Values) (y : Txn) → fits v y ≡ true → (d : ℕ) → d < descriptor_count
    → v (offset d) + advance (y.standing d) ≤ file_bytes
unfolding fits
settings-fit-at v y fit d l = leb-true (v (offset d) + advance (y.standing d)) file_bytes
    (below_at (λ e. leb (v (offset e) + advance (y.standing e)) file_bytes) descriptor_count d fit l)

module _ (file_of : ℕ → ℕ) (v : Values) (y : Txn) (files : (d : ℕ) → d < descriptor_count → file_of d ≤ last_file) (ranges : TxnIn y)
    (fit : fits v y ≡ true) where
  bytes-in : (ws : List Write) → ((k : ℕ) → k < length ws → WriteIn y (get_or ws k no_write)) → AllIn (byte_settings file_of v ws)
  unfolding byte_settings
  bytes-in [] h = tt
  bytes-in (w ∷ ws) h = let i = h 0 (omega arith) in let d = w.descriptor in let f = files d i.descriptor in
      let g = lands-in (v (offset d)) (y.standing d) w.place (length w.bytes)
      (settings-fit-at v y fit d i.descriptor) i.place in
      all_append (bytes_from (file_bytes * file_of d + lands_at (v (offset d)) w.place) w.bytes) (byte_settings file_of v
      ws) (interval-in (file_bytes * file_of d + lands_at (v (offset d)) w.place) w.bytes (omega arith))
      (bytes-in ws (λ k l. h (suc k) (suc-le-suc l)))

  one_in : (d : ℕ) → d < descriptor_count → (b : Bool) → sets_offset y d ≡ b
      → AllIn (cond b (record { item = offset d; to = final_offset (v (offset d)) (y.standing d) } ∷ []) [])
  unfolding sets_offset
  one_in d l true e = (
    (
      l,
      final-in (v (offset d)) (y.standing d) (and_right (y.dirty d) _ e) (settings-fit-at v y fit d l)
          (ranges.standings d),
    ),
    tt,
  )
  one_in d l false e = tt

  offsets-in : (n : ℕ) → n ≤ 16 → AllIn (offset_settings v y n)
  unfolding offset_settings
  offsets-in zero h = tt
  offsets-in (suc n) h = all_append (offset_settings v y n)
      (cond (sets_offset y n) (record { item = offset n; to = final_offset (v (offset n)) (y.standing n) } ∷ []) [])
      (offsets-in n (omega arith)) (one_in n (omega arith) (sets_offset y n) refl)

  landed-end : (f : ℕ) → landed_end file_of v f y.writes ≤ log_bytes
  unfolding landed_end
  landed-end f = farthest-in file_of f (λ w. write_end (lands_at (v (offset w.descriptor)) w.place) (length w.bytes))
      y.writes (λ k l. let w = get_or y.writes k no_write in let i = ranges.writes k l in write-end (lands_at
      (v (offset w.descriptor)) w.place) (length w.bytes) (lands-in (v (offset w.descriptor)) (y.standing
      w.descriptor) w.place (length w.bytes) (settings-fit-at v y fit w.descriptor i.descriptor) i.place))

  lengths-in : (n : ℕ) → n ≤ 8 → AllIn (length_settings file_of v y.writes n)
  unfolding length_settings
  lengths-in zero h = tt
  lengths-in (suc f) h = all_append (length_settings file_of v y.writes f) _ (lengths-in f (omega arith))
      (pick (ltb (v (file_length f)) (landed_end file_of v f y.writes)))
    where
      pick : (b : Bool) → AllIn (cond b (record { item = file_length f; to = landed_end file_of v f y.writes } ∷ []) [])
      pick true = ((omega arith, landed-end f), tt)
      pick false = tt

  pub settings-in : AllIn (settings file_of v y)
  unfolding settings
  settings-in = all_append (byte_settings file_of v y.writes) _ (bytes-in y.writes ranges.writes)
      (all_append (offset_settings v y 16) _ (offsets-in 16 (omega arith)) (lengths-in 8 (omega arith)))
