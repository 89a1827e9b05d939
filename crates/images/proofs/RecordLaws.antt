-- Write records, their three numbers, and how many a grant has.
use mathlib.Core.{Bool.{Bool, true, false}, List.List, Path.{◌≡◌, refl}}
use borrow.Author.Tests.{ltb-true, ltb-false}
use lib.{Dec.ltb, ListN.get_or}
use native.Mathlib.Omega.{arith}
use Prim.Native.Nat.{ℕ, ◌+◌, ◌-◌, ◌*◌, ◌<◌}
use Rattle.limits.specs.Limits.{record_count}
use Rattle.state.specs.{Journal.{decoded_as, decoded, last_grant, write_record_at}, Layout.{store_of, undo_of, journal_of, undo_valid_at}}
use Rattle.state.proofs.LayoutLaws.{record_of}

-- A write record of a record whose numbers have 16 bits.
pub low-code : (h p n : ℕ) → h < 65536 → (decoded h p n).descriptor < 65520
unfolding decoded decoded_as
low-code h p n l = pick (ltb h 16) refl
  where
    pick : (b : Bool) → ltb h 16 ≡ b → (decoded_as b h p n).descriptor < 65520
    pick true e = let r : h < 65520 = let q = ltb-true h 16 e in omega arith in r
    pick false e = let r : h - 16 < 65520 = let q = ltb-false h 16 e in omega arith in r

module _ (state : List ℕ) (fits : (i : ℕ) → get_or state i 0 < 65536) where
  pub low-record-descriptor : (k : ℕ) → k < record_count → (write_record_at (journal_of state) last_grant k).descriptor < 65520
  low-record-descriptor k h = unfold write_record_at in
      rw (record_of state last_grant k (omega arith) h) (low-code _ _ _ (fits (3 * (record_count * last_grant + k))))

  pub few-records : (store_of state).undo.used.records < 65536
  few-records = unfold store_of undo_of in fits (undo_valid_at + 1)

-- What a state of 16-bit numbers says of the last grant's records.
pub ruleset records = (low-record-descriptor, few-records)
