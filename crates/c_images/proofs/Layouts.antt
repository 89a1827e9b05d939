-- The record's layout is the one that has the number that `luzhanem_parts_layout` answers.
use mathlib.Core.Path.{◌≡◌, refl, ap, ◌∙◌}
use lib.ListN.{get_or}
use native.Mathlib.{Numerals.add-one, Omega.arith}
use Prim.Native.Nat.{ℕ, suc, ◌+◌, ◌-◌, ◌*◌}
use Rattle.standings.specs.declared.Standing.TheVariants.{Known}
use Rattle.state.specs.{declared.{Descriptor.Descriptor, Transaction.Transaction}, StoreMeaning.{standing_at, dirty_at}}
use Rattle.state.specs.Journal.{write_record_at}
use Rattle.state.specs.Layout.{standing_of, descriptor_of, used_of, transaction_of, window_of, undo_of, store_of}
use Rattle.state.proofs.LayoutLaws.{record_of, transaction-of, descriptor-of, standing-of, file-of, offset-of, length-of}
use Rattle.state.proofs.LayoutLaws.{window-of, found-offset-of, found-length-of}
use Rattle.c_images.specs.LayoutNumber.{StandingCodes, LayoutIsNumbered}

standing-codes : StandingCodes
unfolding standing_of
standing-codes = record {
  untouched = refl;
  placed = λ o. rw (add-one o);
  deferred = λ a. rw (add-two a);
  moved = λ a o. rw (add-one o, add-two a);
  known = λ o. ap (λ (n : ℕ). Known n) (less_one o);
  left_over = refl;
}
  where
    add-two : (a : ℕ) → a + 2 ≡ suc (suc a)
    add-two a = omega arith

    less_one : (o : ℕ) → o + 1 - 1 ≡ o
    less_one o = omega arith

second_at : (t d : ℕ) → 1728 + 8 * (16 + d) + t ≡ 1856 + 8 * d + t
second_at t d = omega arith

pub layout-is-numbered : LayoutIsNumbered
unfolding write_record_at descriptor_of used_of transaction_of window_of undo_of store_of
layout-is-numbered r = record {
  size = refl;
  records = record_of r;
  codes = standing-codes;
  standings = λ t d h l. ap (λ (x : Transaction). standing_at x d) (transaction-of r t h) ∙ standing-of r t d l
      ∙ ap (λ (k : ℕ). standing_of (get_or r (1728 + 8 * d + t) 0) (get_or r k 0)) (second_at t d);
  dirty = λ t d h l. ap (λ (x : Transaction). dirty_at x d) (transaction-of r t h)
      ∙ ap (λ (q : Descriptor). q.dirty) (descriptor-of r t d l);
  begun = λ t h. ap (λ (x : Transaction). x.begun) (transaction-of r t h);
  stale = λ t h. ap (λ (x : Transaction). x.stale) (transaction-of r t h);
  lengths_sighted = λ t h. ap (λ (x : Transaction). x.lengthmarks) (transaction-of r t h);
  used = λ t h. ap (λ (x : Transaction). x.used) (transaction-of r t h);
  files = file-of r;
  offsets = offset-of r;
  lengths = length-of r;
  windows = window-of r;
  found_offsets = found-offset-of r;
  found_lengths = found-length-of r;
  undo_valid = refl;
  grant_used = refl;
}
