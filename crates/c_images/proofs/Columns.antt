-- The number at each place of an image.
use mathlib.Core.{List.List, Path.{◌≡◌, refl}}
use borrow.Author.Tests.{lt-ltb, le-ltb}
use lib.ListN.{get_or}
use native.Mathlib.Omega.{arith}
use Prim.Native.Nat.{ℕ, ◌-◌, ◌≤◌, ◌<◌}
use Rattle.standings.specs.Table.{place_number}
use Rattle.state.specs.{declared.StoreMeaning.StoreMeaning, StoreMeaning.window_at, Updates.flag_number}
use Rattle.images.specs.Images.{grant_record, record_code, record_number, grant_number, table_number, number_of}

module _ (s : StoreMeaning) (journal : List ℕ) where
  pub format-number : number_of s journal 0 ≡ 1
  format-number = unfold number_of table_number in refl

  pub valid-number : number_of s journal 57 ≡ flag_number s.undo.valid
  valid-number = unfold number_of grant_number in refl

  pub records-number : number_of s journal 58 ≡ s.undo.used.records
  records-number = unfold number_of grant_number in refl

  pub bytes-number : number_of s journal 59 ≡ s.undo.used.bytes
  bytes-number = unfold number_of grant_number in refl

  module _ (i : ℕ) where
    pub file-number : 1 ≤ i → i < 17 → number_of s journal i ≡ get_or s.filenumbers (i - 1) 0
    unfolding number_of table_number
    file-number l h = rw (lt-ltb i 57 (omega arith), le-ltb i 1 (omega arith), lt-ltb i 17 (omega arith))

    pub offset-number : 17 ≤ i → i < 33 → number_of s journal i ≡ get_or s.offsets (i - 17) 0
    offset-number l h = unfold number_of table_number in
        rw (lt-ltb i 57 (omega arith), le-ltb i 1 (omega arith), le-ltb i 17 (omega arith), lt-ltb i 33 (omega arith))

    pub committed-length-number : 33 ≤ i → i < 41 → number_of s journal i ≡ get_or s.lengths (i - 33) 0
    committed-length-number l h = unfold number_of table_number in rw (
      lt-ltb i 57 (omega arith),
      le-ltb i 1 (omega arith),
      le-ltb i 17 (omega arith),
      le-ltb i 33 (omega arith),
      lt-ltb i 41 (omega arith),
    )

    pub start-number : 41 ≤ i → i < 49 → number_of s journal i ≡ (window_at s (i - 41)).start
    start-number l h = unfold number_of table_number in rw (
      lt-ltb i 57 (omega arith),
      le-ltb i 1 (omega arith),
      le-ltb i 17 (omega arith),
      le-ltb i 33 (omega arith),
      le-ltb i 41 (omega arith),
      lt-ltb i 49 (omega arith),
    )

    pub end-number : 49 ≤ i → i < 57 → number_of s journal i ≡ (window_at s (i - 49)).end
    end-number l h = unfold number_of table_number in rw (
      lt-ltb i 57 (omega arith),
      le-ltb i 1 (omega arith),
      le-ltb i 17 (omega arith),
      le-ltb i 33 (omega arith),
      le-ltb i 41 (omega arith),
      le-ltb i 49 (omega arith),
    )

    pub found-offset-number : 60 ≤ i → i < 76 → number_of s journal i ≡ get_or s.undo.offsets (i - 60) 0
    found-offset-number l h = unfold number_of grant_number in rw (
      le-ltb i 57 (omega arith),
      le-ltb i 58 (omega arith),
      le-ltb i 59 (omega arith),
      le-ltb i 60 (omega arith),
      lt-ltb i 76 (omega arith),
    )

    pub found-length-number : 76 ≤ i → i < 84 → number_of s journal i ≡ get_or s.undo.lengths (i - 76) 0
    found-length-number l h = unfold number_of grant_number in rw (
      le-ltb i 57 (omega arith),
      le-ltb i 58 (omega arith),
      le-ltb i 59 (omega arith),
      le-ltb i 60 (omega arith),
      le-ltb i 76 (omega arith),
      lt-ltb i 84 (omega arith),
    )

    pub code-number : 84 ≤ i → i < 148 → number_of s journal i ≡ record_code (grant_record s.undo.used.records journal (i - 84))
    code-number l h = unfold number_of grant_number record_number in rw (
      le-ltb i 57 (omega arith),
      le-ltb i 58 (omega arith),
      le-ltb i 59 (omega arith),
      le-ltb i 60 (omega arith),
      le-ltb i 76 (omega arith),
      le-ltb i 84 (omega arith),
      lt-ltb i 148 (omega arith),
    )

    pub place-number : 148 ≤ i → i < 212 → number_of s journal i ≡ place_number (grant_record s.undo.used.records journal
        (i - 148)).place
    place-number l h = unfold number_of grant_number record_number in rw (
      le-ltb i 57 (omega arith),
      le-ltb i 58 (omega arith),
      le-ltb i 59 (omega arith),
      le-ltb i 60 (omega arith),
      le-ltb i 76 (omega arith),
      le-ltb i 84 (omega arith),
      le-ltb i 148 (omega arith),
      lt-ltb i 212 (omega arith),
    )

    pub record-length-number : 212 ≤ i → i < 276 → number_of s journal i ≡ (grant_record s.undo.used.records journal
        (i - 212)).length
    record-length-number l h = unfold number_of grant_number record_number in rw (
      le-ltb i 57 (omega arith),
      le-ltb i 58 (omega arith),
      le-ltb i 59 (omega arith),
      le-ltb i 60 (omega arith),
      le-ltb i 76 (omega arith),
      le-ltb i 84 (omega arith),
      le-ltb i 148 (omega arith),
      le-ltb i 212 (omega arith),
    )
