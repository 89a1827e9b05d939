-- Two records of one meaning have the same numbers, flags that are not set and Known at 0 aside: each number is read off the
-- meaning by the layout.
use mathlib.Core.{List.List, Path.{◌≡◌, refl, sym, ap, ◌∙◌}}
use lib.ListN.{get_or}
use native.Mathlib.{Numerals.add-one, Omega.arith}
use Prim.Native.Nat.{ℕ, zero, suc, ◌+◌, ◌-◌, ◌*◌, ◌<◌, max}
use Rattle.buffers.proofs.TableLaws.{get_d_tabulate}
use Rattle.counters.specs.declared.Used.{Used}
use Rattle.windows.specs.{declared.Window.Window, Windows.window}
use Rattle.standings.specs.declared.Standing.{Standing}
use Rattle.state.specs.{declared.StoreMeaning.StoreMeaning, StoreMeaning.{transaction, standing_at, dirty_at, window_at}}
use Rattle.state.specs.{Layout.{standing_of, store_of, journal_of}, Updates.{first_number, second_number}}
use Rattle.c_images.specs.LayoutNumber.{NumberedLayout, records_of_grant}
use Rattle.c_images.specs.FixedNumbers.{SameStanding, SameNumbers, MeaningFixes}
use Rattle.c_images.proofs.Layouts.{layout-is-numbered}

-- ---- the two numbers of a standing, from the standing

add-two : (n : ℕ) → n + 2 ≡ suc (suc n)
add-two n = omega arith

one-back : (o : ℕ) → suc o - 1 + 1 ≡ suc o
one-back o = omega arith

second_back : (a b : ℕ) → second_number (standing_of a b) ≡ b
unfolding standing_of
second_back a (suc zero) = refl
second_back zero zero = refl
second_back (suc o) zero = refl
second_back zero (suc (suc n)) = add-two n
second_back (suc o) (suc (suc n)) = add-two n

first_back : (a b : ℕ) → (b ≡ 1 → ⊥) → first_number (standing_of a b) ≡ a
unfolding standing_of
first_back a (suc zero) h = absurd (h refl)
first_back zero zero h = refl
first_back (suc o) zero h = add-one o
first_back zero (suc (suc n)) h = refl
first_back (suc o) (suc (suc n)) h = add-one o

first-known : (a b : ℕ) → max (first_number (standing_of a b)) 1 ≡ max a 1
unfolding standing_of
first-known zero (suc zero) = refl
first-known (suc o) (suc zero) = ap (λ (k : ℕ). max k 1) (one-back o)
first-known zero zero = refl
first-known (suc o) zero = ap (λ (k : ℕ). max k 1) (add-one o)
first-known zero (suc (suc n)) = refl
first-known (suc o) (suc (suc n)) = ap (λ (k : ℕ). max k 1) (add-one o)

pair_same : (a b c d : ℕ) → standing_of a b ≡ standing_of c d → SameStanding a b c d
pair_same a b c d e = let second = sym (second_back a b) ∙ ap second_number e ∙ second_back c d in record {
  second = second;
  first = λ h. sym (first_back a b h) ∙ ap first_number e ∙ first_back c d (λ q. h (second ∙ q));
  first_of_known = sym (first-known a b) ∙ ap (λ (z : Standing). max (first_number z) 1) e ∙ first-known c d;
}

-- ---- all numbers

module _ (r s : List ℕ) (e : store_of r ≡ store_of s) where
  abbrev l : NumberedLayout r
  l = layout-is-numbered r

  abbrev m : NumberedLayout s
  m = layout-is-numbered s

  used-same : (t : ℕ) → t < 8 → records_of_grant (get_or r (2016 + t) 0) (get_or r (2024 + t) 0)
      ≡ records_of_grant (get_or s (2016 + t) 0) (get_or s (2024 + t) 0)
  used-same t h = sym (l.used t h) ∙ ap (λ (x : StoreMeaning). (transaction x t).used) e ∙ m.used t h

  window_same : (f : ℕ) → f < 8 → window (get_or r (2072 + f) 0) (get_or r (2080 + f) 0)
      ≡ window (get_or s (2072 + f) 0) (get_or s (2080 + f) 0)
  window_same f h = sym (l.windows f h) ∙ ap (λ (x : StoreMeaning). window_at x f) e ∙ m.windows f h

  grant-same : records_of_grant (get_or r 2113 0) (get_or r 2114 0) ≡ records_of_grant (get_or s 2113 0) (get_or s 2114 0)
  grant-same = sym l.grant_used ∙ ap (λ (x : StoreMeaning). x.undo.used) e ∙ m.grant_used

  numbers-same : journal_of r ≡ journal_of s → SameNumbers r s
  numbers-same f = unfold journal_of in record {
    records = λ i h. sym (get_d_tabulate (λ k. get_or r k 0) 1728 i 0 h) ∙ ap (λ (j : List ℕ). get_or j i 0) f
        ∙ get_d_tabulate (λ k. get_or s k 0) 1728 i 0 h;
    standings = λ t d h g. pair_same (get_or r (1728 + 8 * d + t) 0) (get_or r (1856 + 8 * d + t) 0)
        (get_or s (1728 + 8 * d + t) 0) (get_or s (1856 + 8 * d + t) 0) (sym (l.standings t d h g)
        ∙ ap (λ (x : StoreMeaning). standing_at (transaction x t) d) e ∙ m.standings t d h g);
    begun = λ t h. sym (l.begun t h) ∙ ap (λ (x : StoreMeaning). (transaction x t).begun) e ∙ m.begun t h;
    stale = λ t h. sym (l.stale t h) ∙ ap (λ (x : StoreMeaning). (transaction x t).stale) e ∙ m.stale t h;
    lengths_sighted = λ t h. sym (l.lengths_sighted t h) ∙ ap (λ (x : StoreMeaning). (transaction x t).lengthmarks) e
        ∙ m.lengths_sighted t h;
    dirty = λ t d h g. sym (l.dirty t d h g) ∙ ap (λ (x : StoreMeaning). dirty_at (transaction x t) d) e ∙ m.dirty t d h g;
    records_used = λ t h. ap (λ (u : Used). u.records) (used-same t h);
    bytes_used = λ t h. ap (λ (u : Used). u.bytes) (used-same t h);
    files = λ d h. sym (l.files d h) ∙ ap (λ (x : StoreMeaning). get_or x.filenumbers d 0) e ∙ m.files d h;
    offsets = λ d h. sym (l.offsets d h) ∙ ap (λ (x : StoreMeaning). get_or x.offsets d 0) e ∙ m.offsets d h;
    lengths = λ g h. sym (l.lengths g h) ∙ ap (λ (x : StoreMeaning). get_or x.lengths g 0) e ∙ m.lengths g h;
    starts = λ g h. ap (λ (w : Window). w.start) (window_same g h);
    ends = λ g h. ap (λ (w : Window). w.end) (window_same g h);
    found_offsets = λ d h. sym (l.found_offsets d h) ∙ ap (λ (x : StoreMeaning). get_or x.undo.offsets d 0) e
        ∙ m.found_offsets d h;
    found_lengths = λ g h. sym (l.found_lengths g h) ∙ ap (λ (x : StoreMeaning). get_or x.undo.lengths g 0) e
        ∙ m.found_lengths g h;
    undo_valid = sym l.undo_valid ∙ ap (λ (x : StoreMeaning). x.undo.valid) e ∙ m.undo_valid;
    grant_records = ap (λ (u : Used). u.records) grant-same;
    grant_bytes = ap (λ (u : Used). u.bytes) grant-same;
  }

pub meaning-fixes : MeaningFixes
meaning-fixes r s e f = numbers-same r s e f
