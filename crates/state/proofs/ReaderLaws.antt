-- What the tests of src/readers.rt and src/journal.rt decide: from the record's numbers to the standings, write records and
-- tables.
use Rattle.std.specs.List.{slice_range}
use Rattle.std.proofs.lemmas.List.{get_or-take, get_or-drop, length-take-le, length-drop}
use mathlib.Core.{Bool.{Bool, true, false, not, ◌&&◌, ◌||◌}, List.List, Logic.⊎_elim, Path.{◌≡◌, refl, sym, ap, ap₂, ◌∙◌}}
use lib.{Bits.{bit_or, or_add_and, and_le_l, and_le_r}, Dec.{leb, ltb, eqb}, ListN.{get_or, length, drop}}
use native.Mathlib.{Numerals.add-two, Omega.arith}
use borrow.Author.Tests.{eqb-true, eq-eqb, ne_eqb, lt-ltb, le-ltb, le-leb, lt-leb, not-false}
use Prim.Native.Nat.{ℕ, zero, suc, ◌+◌, ◌-◌, ◌*◌, ◌≤◌, ◌<◌}
use Rattle.limits.specs.Limits.{file_count, descriptor_count, last_descriptor, record_count}
use Rattle.buffers.{specs.{Below.below, Marks.contains}, proofs.BelowLaws.{below-same, below_both, below-sum, none_yet, one_more}}
use Rattle.buffers.proofs.{MarkLaws.contains-none, PartLaws.le-or-lt}
use Rattle.standings.specs.{declared.Standing.Standing, Table.{read_settles, advance, offset_of, is_known, is_touched, may_wait}}
use Rattle.state.specs.declared.{Descriptor.Descriptor, Transaction.Transaction, journal.WriteRecord.WriteRecord}
use Rattle.state.specs.{Journal.{decoded_as, decoded, write_record_at}, WriteEnds.{place_ends_by, ends_by}}
use Rattle.state.specs.StoreMeaning.{standing_at, dirty_at, window_at}
use Rattle.state.specs.Layout.{number_at, standing_of, window_of, descriptor_of, transaction_of, store_of, journal_of}
use Rattle.state.specs.Layout.{file_numbers_at, offsets_at, lengths_at, starts_at, ends_at, found_offsets_at, found_lengths_at}
use Rattle.state.specs.Layout.{state_length, undo_valid_at}
use Rattle.state.proofs.JournalLaws.{length-decoded}
use Rattle.state.proofs.LayoutLaws.{record_of, descriptor-of, standing-of, file-of, offset-of, length-of, window-of}
use Rattle.state.proofs.LayoutLaws.{found-offset-of, found-length-of}

-- ---- one standing

-- What a standing carries, from its two numbers.
offset-number : (a b : ℕ) → offset_of (standing_of a b) ≡ a - 1
unfolding standing_of
offset-number zero zero = refl
offset-number (suc o) zero = omega arith
offset-number zero (suc zero) = refl
offset-number (suc o) (suc zero) = refl
offset-number zero (suc (suc n)) = refl
offset-number (suc o) (suc (suc n)) = omega arith

advance-number : (a b : ℕ) → advance (standing_of a b) ≡ b - 2
unfolding standing_of
advance-number zero zero = refl
advance-number (suc o) zero = refl
advance-number zero (suc zero) = refl
advance-number (suc o) (suc zero) = refl
advance-number zero (suc (suc n)) = omega arith
advance-number (suc o) (suc (suc n)) = omega arith

known-number : (a b : ℕ) → eqb b 1 ≡ is_known (standing_of a b)
unfolding standing_of
known-number zero zero = refl
known-number (suc o) zero = refl
known-number zero (suc zero) = refl
known-number (suc o) (suc zero) = refl
known-number zero (suc (suc n)) = ne_eqb (suc (suc n)) 1 (λ p. omega arith)
known-number (suc o) (suc (suc n)) = ne_eqb (suc (suc n)) 1 (λ p. omega arith)

settles-number : (a b : ℕ) (f i : Bool) → ((ltb 1 b && f) || ((eqb a 0 && eqb b 0) && i)) ≡ read_settles f i (standing_of a b)
unfolding standing_of
settles-number zero zero f i = refl
settles-number (suc o) zero f i = rw (ne_eqb (suc o) 0 (λ p. omega arith))
settles-number zero (suc zero) f i = refl
settles-number (suc o) (suc zero) f i = rw (ne_eqb (suc o) 0 (λ p. omega arith))
settles-number zero (suc (suc n)) true i = rw (lt-ltb 1 (suc (suc n)) (omega arith))
settles-number zero (suc (suc n)) false i =
    rw (lt-ltb 1 (suc (suc n)) (omega arith), ne_eqb (suc (suc n)) 0 (λ p. omega arith))
settles-number (suc o) (suc (suc n)) true i = rw (lt-ltb 1 (suc (suc n)) (omega arith))
settles-number (suc o) (suc (suc n)) false i =
    rw (lt-ltb 1 (suc (suc n)) (omega arith), ne_eqb (suc o) 0 (λ p. omega arith))

-- A number against a sum is the number less one part against the other.
less-leb : (b k m : ℕ) → leb b (m + k) ≡ leb (b - k) m
less-leb b k m = ⊎_elim (λ h. le-leb b (m + k) h ∙ sym (le-leb (b - k) m (omega arith))) (λ h. lt-leb b (m + k) h
    ∙ sym (lt-leb (b - k) m (omega arith))) (le-or-lt b (m + k))

more-leb : (e k n : ℕ) → leb (e + k) (n + k) ≡ leb e n
more-leb e k n = less-leb (e + k) k n ∙ (let c : e + k - k ≡ e = omega arith in ap (λ (x : ℕ). leb x n) c)

waits-number : (a b e : ℕ) → leb (e + 2) b ≡ may_wait (standing_of a b) && leb e (advance (standing_of a b))
unfolding standing_of
waits-number zero zero e = lt-leb (e + 2) 0 (omega arith)
waits-number (suc o) zero e = lt-leb (e + 2) 0 (omega arith)
waits-number zero (suc zero) e = lt-leb (e + 2) 1 (omega arith)
waits-number (suc o) (suc zero) e = lt-leb (e + 2) 1 (omega arith)
waits-number zero (suc (suc n)) e = ap (λ (x : ℕ). leb (e + 2) x) (sym (add-two n)) ∙ more-leb e 2 n
waits-number (suc o) (suc (suc n)) e = ap (λ (x : ℕ). leb (e + 2) x) (sym (add-two n)) ∙ more-leb e 2 n

carried-number : (a b m : ℕ)
    → leb b (m + 2) && leb a (m + 1) ≡ leb (advance (standing_of a b)) m && leb (offset_of (standing_of a b)) m
carried-number a b m = rw (advance-number a b, offset-number a b, less-leb b 2 m, less-leb a 1 m)

-- Descriptor d of transaction t, from its two numbers.
module _ (r : List ℕ) (t d : ℕ) (few : d < descriptor_count) (b : ℕ) (is_b : b ≡ get_or r (number_at t (16 + d)) 0) where
  abbrev own : ℕ
  own = get_or r (number_at t d) 0

  abbrev z : Standing
  z = standing_at (transaction_of r t) d

  its-standing : standing_of own b ≡ z
  its-standing = rw is_b (sym (standing-of r t d few))

  pub known-decides : eqb b 1 ≡ is_known z
  known-decides = known-number own b ∙ ap is_known its-standing

  pub waits-decides : (e : ℕ) → leb (e + 2) b ≡ may_wait z && leb e (advance z)
  waits-decides e = waits-number own b e ∙ ap (λ (y : Standing). may_wait y && leb e (advance y)) its-standing

  module _ (a : ℕ) (is-a : a ≡ get_or r (number_at t d) 0) where
    pub settles-decides : (f i : Bool) → ((ltb 1 b && f) || ((eqb a 0 && eqb b 0) && i)) ≡ read_settles f i z
    settles-decides f i = rw is-a (settles-number own b f i ∙ ap (read_settles f i) its-standing)

    pub carried-decides : (m : ℕ) → leb b (m + 2) && leb a (m + 1) ≡ leb (advance z) m && leb (offset_of z) m
    carried-decides m =
        rw is-a (carried-number own b m ∙ ap (λ (y : Standing). leb (advance y) m && leb (offset_of y) m) its-standing)

-- Two numbers are 0 where their bits together are.
pub or-none : (a b : ℕ) → eqb (bit_or a b) 0 ≡ eqb a 0 && eqb b 0
or-none zero zero = let s = or_add_and 0 0 in eq-eqb (bit_or 0 0) 0 (omega arith)
or-none zero (suc b) = let s = or_add_and 0 (suc b) in let l = and_le_l 0 (suc b) in
    ne_eqb (bit_or 0 (suc b)) 0 (λ p. omega arith) ∙ sym (ne_eqb (suc b) 0 (λ p. omega arith))
or-none (suc a) b = let s = or_add_and (suc a) b in let l = and_le_r (suc a) b in
    ne_eqb (bit_or (suc a) b) 0 (λ p. omega arith)
    ∙ sym (ap (λ (x : Bool). x && eqb b 0) (ne_eqb (suc a) 0 (λ p. omega arith)))

-- One descriptor more, from what its two numbers are above their bounds.
pub none_above : (bad v u : ℕ) (before now : Bool) → eqb bad 0 ≡ before → eqb v 0 && eqb u 0 ≡ now
    → eqb (bit_or bad (bit_or v u)) 0 ≡ before && now
none_above bad v u before now e f = or-none bad (bit_or v u) ∙ ap₂ ◌&&◌ e (or-none v u ∙ f)

-- Two numbers are at most their bounds where what they are above them is 0 together.
pub two_none : (v u : ℕ) (a b : Bool) → eqb v 0 ≡ a → eqb u 0 ≡ b → eqb (bit_or v u) 0 ≡ a && b
two_none v u a b e f = or-none v u ∙ ap₂ ◌&&◌ e f

-- ---- the descriptors of a transaction

pub none-dirty : (r : List ℕ) (t : ℕ) → not (eqb (get_or r (number_at t 35) 0) 0) ≡ false
    → (d : ℕ) → d < descriptor_count → dirty_at (transaction_of r t) d ≡ false
unfolding descriptor_of
none-dirty r t none d few = ap (λ (q : Descriptor). q.dirty) (descriptor-of r t d few)
    ∙ ap (λ (n : ℕ). contains n d) (eqb-true _ 0 (not-false _ none)) ∙ contains-none d

-- ---- a write record

-- Record k of stretch t: its first number h, and its end.
module _ (r : List ℕ) (t k : ℕ) (small : t < 9) (few : k < record_count) where
  abbrev at : ℕ
  at = 3 * (record_count * t + k)

  abbrev x : Transaction
  x = transaction_of r t

  abbrev w : WriteRecord
  w = write_record_at (journal_of r) t k

  pub length-expected : get_or r (at + 2) 0 ≡ w.length
  unfolding write_record_at
  length-expected = sym (ap (λ (v : WriteRecord). v.length) (record_of r t k small few) ∙ length-decoded _ _ _)

  module _ (m h e : ℕ) (is-h : h ≡ get_or r at 0) (is-e : e ≡ get_or r (at + 1) 0 + get_or r (at + 2) 0) where
    expected : w ≡ decoded h (get_or r (at + 1) 0) (get_or r (at + 2) 0)
    unfolding write_record_at
    expected = record_of r t k small few ∙ rw is-h

    pub placed-ends : h < descriptor_count → leb e m ≡ ends_by m x w
    unfolding ends_by place_ends_by decoded decoded_as
    placed-ends l = sym (ap (ends_by m x) expected ∙ rw (lt-ltb h 16 l, le-leb h last_descriptor (omega arith), is-e))

    pub no-descriptor : 31 < h → false ≡ ends_by m x w
    no-descriptor l = unfold ends_by decoded decoded_as in
        sym (ap (ends_by m x) expected ∙ rw (le-ltb h 16 (omega arith), lt-leb (h - 16) last_descriptor (omega arith)))

    pub waiting-ends : 16 ≤ h → h ≤ 31 → (b : Bool)
        → b ≡ may_wait (standing_at x (h - 16)) && leb e (advance (standing_at x (h - 16))) → b ≡ ends_by m x w
    waiting-ends l u b is_b = unfold ends_by place_ends_by decoded decoded_as in
        is_b ∙ sym (ap (ends_by m x) expected ∙ rw (le-ltb h 16 l, le-leb (h - 16) last_descriptor (omega arith), is-e))

-- ---- the tables

module _ (r : List ℕ) (m : ℕ) where
  pub files-decide : below (λ k. leb (get_or r (file_numbers_at + k) 0) m) 16
      ≡ below (λ d. leb (get_or (store_of r).filenumbers d 0) m) descriptor_count
  files-decide = below-same _ _ 16 (λ d h. rw (file-of r d h))

  pub offsets-decide : below (λ k. leb (get_or r (offsets_at + k) 0) m) 16
      ≡ below (λ d. leb (get_or (store_of r).offsets d 0) m) descriptor_count
  offsets-decide = below-same _ _ 16 (λ d h. rw (offset-of r d h))

  pub lengths-decide : below (λ k. leb (get_or r (lengths_at + k) 0) m) 8
      ≡ below (λ f. leb (get_or (store_of r).lengths f 0) m) file_count
  lengths-decide = below-same _ _ 8 (λ f h. rw (length-of r f h))

  -- The starts of the windows, and behind them their ends.
  pub windows-decide : below (λ k. leb (get_or r (starts_at + k) 0) m) 16
      ≡ below (λ f. leb (window_at (store_of r) f).start m && leb (window_at (store_of r) f).end m) file_count
  windows-decide = below-sum starts 8 8 ∙ ap (λ (b : Bool). below starts 8 && b) (below-same (λ k. starts (8 + k)) ends 8
      behind) ∙ below_both starts ends 8 ∙ below-same (λ f. starts f && ends f) _ 8 (λ f h. rw (window-of r f h) (both f))
    where
      starts : ℕ → Bool
      starts k = leb (get_or r (starts_at + k) 0) m

      ends : ℕ → Bool
      ends k = leb (get_or r (ends_at + k) 0) m

      behind : (k : ℕ) → k < 8 → starts (8 + k) ≡ ends k
      behind k h = let e : starts_at + (8 + k) ≡ ends_at + k = omega arith in ap (λ (i : ℕ). leb (get_or r i 0) m) e

      both : (f : ℕ) → starts f && ends f ≡ leb (window_of r f).start m && leb (window_of r f).end m
      both f = unfold window_of in refl

-- The tables by entries k and 8 + k of each.
module _ (r : List ℕ) (file offset span minute : ℕ) where
  halves : (p : ℕ → Bool) → below (λ k. p k && p (8 + k)) 8 ≡ below p 16
  halves p = sym (below-sum p 8 8 ∙ below_both p (λ k. p (8 + k)) 8)

  pub tables-decide : below (λ k. (leb (get_or r (file_numbers_at + k) 0) file && leb (get_or r (file_numbers_at + (8 + k)) 0) file)
      && (leb (get_or r (offsets_at + k) 0) offset && leb (get_or r (offsets_at + (8 + k)) 0) offset) && leb (get_or r
      (lengths_at + k) 0) span && (leb (get_or r (starts_at + k) 0) minute && leb (get_or r (starts_at + (8 + k)) 0) minute))
      8 ≡ below (λ d. leb (get_or (store_of r).filenumbers d 0) file) descriptor_count && below (λ d. leb (get_or
      (store_of r).offsets d 0) offset) descriptor_count && below (λ f. leb (get_or (store_of r).lengths f 0) span) file_count
      && below (λ f. leb (window_at (store_of r) f).start minute && leb (window_at (store_of r) f).end minute) file_count
  tables-decide = sym (below_both (λ k. files k && offsets k && lengths k) windows 8)
      ∙ ap₂ ◌&&◌ (sym (below_both (λ k. files k && offsets k) lengths 8) ∙ ap₂ ◌&&◌ (sym (below_both files offsets 8)
      ∙ ap₂ ◌&&◌ (halves (λ k. leb (get_or r (file_numbers_at + k) 0) file) ∙ files-decide r file)
      (halves (λ k. leb (get_or r (offsets_at + k) 0) offset) ∙ offsets-decide r offset)) (lengths-decide r span))
      (halves (λ k. leb (get_or r (starts_at + k) 0) minute) ∙ windows-decide r minute)
    where
      files : ℕ → Bool
      files k = leb (get_or r (file_numbers_at + k) 0) file && leb (get_or r (file_numbers_at + (8 + k)) 0) file

      offsets : ℕ → Bool
      offsets k = leb (get_or r (offsets_at + k) 0) offset && leb (get_or r (offsets_at + (8 + k)) 0) offset

      lengths : ℕ → Bool
      lengths k = leb (get_or r (lengths_at + k) 0) span

      windows : ℕ → Bool
      windows k = leb (get_or r (starts_at + k) 0) minute && leb (get_or r (starts_at + (8 + k)) 0) minute

module _ (r : List ℕ) (m : ℕ) where
  -- The offsets that the last grant found, and behind them the lengths, as one slice.
  pub found-decide : length r ≡ state_length → let xs = slice_range r found_offsets_at undo_valid_at in
      below (λ k. leb (get_or xs k 0) m) (length xs) ≡ below (λ d. leb (get_or (store_of r).undo.offsets d 0) m) descriptor_count
      && below (λ f. leb (get_or (store_of r).undo.lengths f 0) m) file_count
  found-decide long = let xs = slice_range r found_offsets_at undo_valid_at in let fit : 24 ≤ length (drop found_offsets_at r) =
      simp length-drop (omega arith) in let n : length xs ≡ 24 = length-take-le 24 (drop found_offsets_at r) fit in
      rw n (below-same (λ k. leb (get_or xs k 0) m) found 24 inside ∙ rw (
        below-same (λ d. leb (get_or (store_of r).undo.offsets d 0) m) found 16 (λ d h. rw (found-offset-of r d h)),
        below-same (λ f. leb (get_or (store_of r).undo.lengths f 0) m) (λ k. found (16 + k)) 8 behind,
      ) (below-sum found 16 8))
    where
      found : ℕ → Bool
      found k = leb (get_or r (found_offsets_at + k) 0) m

      inside : (k : ℕ) → k < 24 → leb (get_or (slice_range r found_offsets_at undo_valid_at) k 0) m ≡ found k
      inside k h = ap (λ (n : ℕ). leb n m) (get_or-take 24 (drop found_offsets_at r) k 0 h ∙ get_or-drop found_offsets_at r k 0)

      behind : (f : ℕ) → f < file_count → leb (get_or (store_of r).undo.lengths f 0) m ≡ found (16 + f)
      behind f h = let e : found_offsets_at + (16 + f) ≡ found_lengths_at + f = omega arith in rw (found-length-of r f h, e)

not-zero : (n : ℕ) → eqb (suc n) 0 ≡ false
not-zero n = ne_eqb (suc n) 0 (λ p. omega arith)

-- A standing is Untouched where both of its numbers are 0.
pub touched_decides : (a b : ℕ) → (not (eqb a 0) || not (eqb b 0)) ≡ is_touched (standing_of a b)
unfolding standing_of
touched_decides zero zero = refl
touched_decides (suc o) zero = rw (not-zero o)
touched_decides zero (suc zero) = refl
touched_decides (suc o) (suc zero) = rw (not-zero o)
touched_decides zero (suc (suc n)) = rw (not-zero (suc n))
touched_decides (suc o) (suc (suc n)) = rw (not-zero o)

-- What the tests of src/readers.rt are proved by, and those of src/journal.rt.
pub ruleset tests = (
  none_yet,
  one_more,
  two_none,
  none_above,
  known-decides,
  settles-decides,
  waits-decides,
  carried-decides,
  none-dirty,
)

pub ruleset record_tests = (length-expected, placed-ends, no-descriptor, waiting-ends)
