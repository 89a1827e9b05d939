-- The marks after sightings: transaction t's at the bytes sighted, and no other's.
use mathlib.Core.{Bool.{Bool, true, false, cond, ◌||◌}, List.{List, [], ◌∷◌}, Path.{◌≡◌, refl, ap, ◌∙◌, fun_ext}}
use borrow.Author.Tests.{eq-eqb, ne_eqb}
use lib.{Dec.eqb, ListN.length}
use Prim.Native.Nat.{ℕ, ◌<◌}
use Rattle.limits.specs.Limits.{file_count, buffer_bytes, descriptor_count, transaction_count}
use Rattle.buffers.{specs.{Bits.with_bit, Marks.{has_mark, with_mark, contains}}, proofs.SetLaws.contains-with}
use Rattle.buffers.proofs.MarkLaws.{length-with-mark, has-with-mark}
use Rattle.spec.specs.{Items.{Item, byte, offset, file_length}, Transactions.put, Machine.lengthmarked, Calls.marked}
use Rattle.spec.proofs.Abstract.AbstractStore.{mark_all, length_all}

-- An item that a store has: one of its 32,768 bytes, of its 16 offsets, or of the lengths of its 8 files.
abbrev pub ItemIn : Item → Type 0
ItemIn (byte q) = q < buffer_bytes
ItemIn (offset d) = d < descriptor_count
ItemIn (file_length f) = f < file_count

abbrev pub ItemsIn : List Item → Type 0
ItemsIn [] = Unit {0}
ItemsIn (i ∷ is) = ItemIn i × ItemsIn is

pub length_marked : (t : ℕ) (is : List Item) (marks : List ℕ) → length (marked t is marks) ≡ length marks
unfolding marked
length_marked t [] marks = refl
length_marked t (byte q ∷ is) marks = length_marked t is (with_mark t q marks) ∙ length-with-mark t q marks
length_marked t (offset d ∷ is) marks = length_marked t is marks
length_marked t (file_length f ∷ is) marks = length_marked t is marks

module _ (t q : ℕ) (marks : List ℕ) (small : t < transaction_count) (there : q < buffer_bytes)
    (size : length marks ≡ buffer_bytes) where
  -- One mark more: transaction t's own, and another's.
  own-mark : (p : ℕ) → has_mark (with_mark t q marks) t p ≡ put q true (has_mark marks t) p
  unfolding put
  own-mark p = has-with-mark t q t p marks small there size ∙ rw (eq-eqb t t refl) (pick (eqb p q))
    where
      pick : (b : Bool) → b || has_mark marks t p ≡ cond b true (has_mark marks t p)
      pick true = refl
      pick false = refl

  other-mark : (u : ℕ) → (u ≡ t → ⊥) → (p : ℕ) → has_mark (with_mark t q marks) u p ≡ has_mark marks u p
  other-mark u ne p = has-with-mark t q u p marks small there size ∙ rw (ne_eqb u t ne)

-- The bytes that transaction t has sighted after sightings.
pub marked-own : (t : ℕ) (is : List Item) (marks : List ℕ) → t < transaction_count → length marks ≡ buffer_bytes → ItemsIn is
    → has_mark (marked t is marks) t ≡ mark_all is (has_mark marks t)
unfolding marked mark_all
marked-own t [] marks small l h = refl
marked-own t (byte q ∷ is) marks small l h = marked-own t is (with_mark t q marks) small (length-with-mark t q marks ∙ l)
    h.1 ∙ ap (mark_all is) (fun_ext (own-mark t q marks small h.0 l))
marked-own t (offset d ∷ is) marks small l h = marked-own t is marks small l h.1
marked-own t (file_length f ∷ is) marks small l h = marked-own t is marks small l h.1

-- Those of another transaction.
pub marked_other : (t u : ℕ) (is : List Item) (marks : List ℕ) → t < transaction_count → length marks ≡ buffer_bytes
    → ItemsIn is → (u ≡ t → ⊥) → (p : ℕ) → has_mark (marked t is marks) u p ≡ has_mark marks u p
unfolding marked
marked_other t u [] marks small l h ne p = refl
marked_other t u (byte q ∷ is) marks small l h ne p = marked_other t u is (with_mark t q marks) small
    (length-with-mark t q marks ∙ l) h.1 ne p ∙ other-mark t q marks small h.0 l u ne p
marked_other t u (offset d ∷ is) marks small l h ne p = marked_other t u is marks small l h.1 ne p
marked_other t u (file_length f ∷ is) marks small l h ne p = marked_other t u is marks small l h.1 ne p

-- The lengths that it has sighted after sightings.
own-length : (f n g : ℕ) → contains (with_bit f n) g ≡ put f true (contains n) g
own-length f n g = unfold put in contains-with f n g

pub lengths-own : (is : List Item) (n : ℕ) → contains (lengthmarked is n) ≡ length_all is (contains n)
unfolding lengthmarked length_all
lengths-own [] n = refl
lengths-own (byte q ∷ is) n = lengths-own is n
lengths-own (offset d ∷ is) n = lengths-own is n
lengths-own (file_length f ∷ is) n = lengths-own is (with_bit f n) ∙ ap (length_all is) (fun_ext (own-length f n))
