-- Each old arrangement of marks and its new one name the same pairs of transaction and byte. Assumes nothing.
use mathlib.Core.{Path.{◌≡◌, refl, sym, ap, ap₂, ◌∙◌}, Bool.{Bool, true, false, not, ◌&&◌, ◌||◌}, List.List}
use Prim.Native.Nat.{ℕ, ◌+◌, ◌*◌, ◌/◌, ◌%◌, ◌<◌}
use native.Mathlib.Omega.{arith}
use lib.{Dec.{eqb, ltb}, ListN.{length, get_or}, Seq.ext_get_or}
use borrow.Author.Tests.{ltb-true, lt-ltb}
use Rattle.limits.specs.Limits.{buffer_bytes, transaction_count, mark_octets}
use Rattle.buffers.specs.Bits.{bit, bits_of}
use Rattle.buffers.specs.Marks.{by_byte, by_transaction, names, rearranged, has_mark, with_mark, without_marks, contains}
use Rattle.buffers.specs.{Marks.SamePairs, Examples.Arranged}
use Rattle.buffers.proofs.{MarkLaws.{has-with-mark, has-without-marks}, SetLaws.{contains-bits, octets-same}}
use Rattle.buffers.proofs.TableLaws.{length-tabulate, get_d_tabulate}

-- octet i of the new arrangement
octet : List ℕ → ℕ → ℕ
octet marks i = bits_of (λ (k : ℕ). names by_byte marks (i / mark_octets) (8 * (i % mark_octets) + k)) 8

size : (marks : List ℕ) → length (rearranged marks) ≡ buffer_bytes
size marks = unfold rearranged octet in length-tabulate (octet marks) buffer_bytes

-- its bit k is the mark of transaction i / 4096 on byte 8 * (i % 4096) + k
octet-bit : (marks : List ℕ) (i k : ℕ) → k < 8 → i < buffer_bytes
    → eqb (bit k (get_or (rearranged marks) i 0)) 1 ≡ names by_byte marks (i / mark_octets) (8 * (i % mark_octets) + k)
unfolding rearranged octet contains
octet-bit marks i k h g = ap (λ (x : ℕ). eqb (bit k x) 1) (get_d_tabulate (octet marks) buffer_bytes i 0 g)
    ∙ contains-bits (λ (k : ℕ). names by_byte marks (i / mark_octets) (8 * (i % mark_octets) + k)) 8 k h

pairs : (marks : List ℕ) (t q : ℕ) → t < transaction_count → names by_transaction (rearranged marks) t q ≡ names by_byte marks t q
unfolding names
pairs marks t q small = pick (ltb q buffer_bytes) refl
  where
    pick : (b : Bool) → ltb q buffer_bytes ≡ b
        → b && eqb (bit (q % 8) (get_or (rearranged marks) (mark_octets * t + q / 8) 0)) 1 ≡ b && eqb (bit t (get_or marks q 0)) 1
    pick false e = refl
    pick true e = let h = ltb-true q buffer_bytes e in let i = mark_octets * t + q / 8 in
        let whose : i / mark_octets ≡ t = omega arith in let which : 8 * (i % mark_octets) + q % 8 ≡ q = omega arith in
        octet-bit marks i (q % 8) (omega arith) (omega arith) ∙ ap₂ (λ (u p : ℕ). names by_byte marks u p) whose which
        ∙ ap (λ (b : Bool). b && eqb (bit t (get_or marks q 0)) 1) e

only : (xs ys : List ℕ) → length xs ≡ buffer_bytes → length ys ≡ buffer_bytes → ((i : ℕ) → get_or xs i 0 < 256)
    → ((i : ℕ) → get_or ys i 0 < 256)
    → ((t q : ℕ) → t < transaction_count → names by_transaction xs t q ≡ names by_transaction ys t q) → xs ≡ ys
unfolding names contains
only xs ys l m small small' same =
    ext_get_or 0 xs ys (l ∙ sym m) (λ i h. octets-same (get_or xs i 0) (get_or ys i 0) (small i) (small' i) (each i (omega arith)))
  where
    each : (i : ℕ) → i < buffer_bytes → (u : ℕ) → u < 8 → contains (get_or xs i 0) u ≡ contains (get_or ys i 0) u
    each i h u g = let t = i / mark_octets in let q = 8 * (i % mark_octets) + u in
        let e : mark_octets * t + q / 8 ≡ i = omega arith in let f : q % 8 ≡ u = omega arith in
        let in32 = lt-ltb q buffer_bytes (omega arith) in rw (in32, e, f) at (same t q (omega arith))

marking : (marks : List ℕ) (t q u p : ℕ) → t < transaction_count → u < 8 → q < buffer_bytes
    → has_mark (with_mark t q (rearranged marks)) u p ≡ (eqb u t && eqb p q) || names by_byte marks u p
unfolding has_mark
marking marks t q u p ht hu hq = has-with-mark t q u p (rearranged marks) ht hq (size marks)
    ∙ ap (λ (b : Bool). (eqb u t && eqb p q) || b) (pairs marks u p hu)

clearing : (marks : List ℕ) (t u p : ℕ) → u < 8 → has_mark (without_marks t (rearranged marks)) u p ≡ not (eqb u t)
    && names by_byte marks u p
unfolding has_mark
clearing marks t u p hu = has-without-marks t u p (rearranged marks) ∙ ap (λ (b : Bool). not (eqb u t) && b) (pairs marks u p hu)

pub same-pairs : SamePairs
same-pairs = record { size = size; pairs = pairs; only = only; marking = marking; clearing = clearing }

pub arranged : Arranged
unfolding names bit
arranged = record { old = (refl, refl); new = (refl, refl); lowest_first = (refl, refl, refl); by_place = (refl, refl) }
