-- Marks, the read sets of bytes, by meaning: which transaction has marked which byte of the files. Above this
-- crate nothing else is known of them.
use Rattle.std.specs.Prelude.{Bool, false, not, ◌&&◌, ◌||◌, List, ◌≡◌, eqb, ltb, length, get_or, set, ℕ, zero, suc, ◌+◌, ◌*◌, ◌/◌, ◌%◌, ◌<◌}
use Rattle.limits.specs.Limits.{buffer_bytes, transaction_count, mark_octets}
use Rattle.buffers.specs.Parts.{tabulate}
use Rattle.buffers.specs.Bits.{bit, with_bit, bits_of, cleared}

-- An arrangement of marks: in which octet of the buffer, and as which bit of it, the mark of transaction t on
-- byte q stands.
pub record Arrangement : Type 0 where
  pub octet_of : ℕ → ℕ → ℕ
  pub bit_of : ℕ → ℕ → ℕ

-- 01: "one octet for each file byte, in the same place, bit t (worth 2 to the power t) set where transaction
-- t has sighted that byte" [R-2.4]
abbrev pub by_byte : Arrangement
by_byte = record { octet_of = λ t q. q; bit_of = λ t q. t }

-- 02, F-9: "eight stretches of 4,096 bytes, transaction t's starting at 4,096 × t, a bit for each file byte
-- in the order of the file buffer, lowest bit first" [R-2.3]
abbrev pub by_transaction : Arrangement
by_transaction = record { octet_of = λ t q. mark_octets * t + q / 8; bit_of = λ t q. q % 8 }

-- The pairs of transaction and byte that marks name: one of the 32,768 bytes, whose bit is set.
unfoldable pub names : Arrangement → List ℕ → ℕ → ℕ → Bool
names a marks t q = ltb q buffer_bytes && eqb (bit (a.bit_of t q) (get_or marks (a.octet_of t q) 0)) 1

-- F-9, "each old arrangement and its new one" [R-2.4]: octet i of the new one has the marks of transaction i
-- / 4096 on the eight bytes from 8 * (i % 4096) on.
unfoldable pub rearranged : List ℕ → List ℕ
rearranged marks =
    tabulate (λ i. bits_of (λ k. names by_byte marks (i / mark_octets) (8 * (i % mark_octets) + k)) 8) buffer_bytes

-- Transaction t has marked byte q.
unfoldable pub has_mark : List ℕ → ℕ → ℕ → Bool
has_mark marks t q = names by_transaction marks t q

-- The marks once transaction t has marked byte q.
unfoldable pub with_mark : ℕ → ℕ → List ℕ → List ℕ
with_mark t q marks =
    let i = by_transaction.octet_of t q in
    set marks i (with_bit (by_transaction.bit_of t q) (get_or marks i 0))

-- The marks once transaction t has marked the n bytes from `from` on.
unfoldable pub with_marks : ℕ → ℕ → ℕ → List ℕ → List ℕ
with_marks t from zero marks = marks
with_marks t from (suc n) marks = with_mark t (from + n) (with_marks t from n marks)

-- The marks with those of transaction t cleared: all its octets.
unfoldable pub without_marks : ℕ → List ℕ → List ℕ
without_marks t marks = cleared (mark_octets * t) mark_octets marks

-- Transaction t has marked some of the n bytes from `from` on.
unfoldable pub has_mark_in : List ℕ → ℕ → ℕ → ℕ → Bool
has_mark_in marks t from zero = false
has_mark_in marks t from (suc n) = has_mark_in marks t from n || has_mark marks t (from + n)

-- A set of numbers as the bits of one, of transactions as an octet: bit t, worth 2 to the power t, for
-- transaction t.
unfoldable pub contains : ℕ → ℕ → Bool
contains octet t = eqb (bit t octet) 1

-- F-9: "Show that each old arrangement and its new one name the same pairs of transaction and byte" [R-2.4].
pub record SamePairs : Type 0 where
  pub size : (marks : List ℕ) → length (rearranged marks) ≡ buffer_bytes
  pub pairs :
      (marks : List ℕ) (t q : ℕ) → t < transaction_count
      → names by_transaction (rearranged marks) t q ≡ names by_byte marks t q
  -- No other buffer names them: two of 32,768 octets that name the same pairs are one.
  pub only : (xs ys : List ℕ) → length xs ≡ buffer_bytes → length ys ≡ buffer_bytes
      → ((i : ℕ) → get_or xs i 0 < 256) → ((i : ℕ) → get_or ys i 0 < 256)
      → ((t q : ℕ) → t < transaction_count → names by_transaction xs t q ≡ names by_transaction ys t q)
      → xs ≡ ys
  -- "let all else rest on that fact" [R-2.4]: what is done with marks is done with the pairs that the old
  -- arrangement names.
  pub marking : (marks : List ℕ) (t q u p : ℕ) → t < transaction_count → u < transaction_count → q < buffer_bytes
      → has_mark (with_mark t q (rearranged marks)) u p ≡ (eqb u t && eqb p q) || names by_byte marks u p
  pub clearing : (marks : List ℕ) (t u p : ℕ) → u < transaction_count
      → has_mark (without_marks t (rearranged marks)) u p ≡ not (eqb u t) && names by_byte marks u p
