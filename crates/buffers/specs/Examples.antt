-- Both arrangements of marks, computed: transaction 3 and byte 17 of the files.
use Rattle.std.specs.Prelude.{true, false, [], ◌∷◌, ◌≡◌}
use Rattle.buffers.specs.Marks.{by_byte, by_transaction, names}

pub record Arranged : Type 0 where
  pub old : (by_byte.octet_of 3 17 ≡ 17) × (by_byte.bit_of 3 17 ≡ 3)
  -- 02, F-9: "transaction t's starting at 4,096 × t, a bit for each file byte in the order of the file
  -- buffer, lowest bit first" [R-2.3]
  pub new : (by_transaction.octet_of 3 17 ≡ 12290) × (by_transaction.bit_of 3 17 ≡ 1)
  pub lowest_first :
      (names by_transaction (1 ∷ []) 0 0 ≡ true) × (names by_transaction (128 ∷ []) 0 7 ≡ true)
      × (names by_transaction (0 ∷ 1 ∷ []) 0 8 ≡ true)
  pub by_place : (names by_byte (0 ∷ 128 ∷ []) 7 1 ≡ true) × (names by_byte (0 ∷ 128 ∷ []) 1 7 ≡ false)
