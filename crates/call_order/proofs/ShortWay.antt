-- Where nobody stands Deferred or Moved, 12 cannot come, and one octet is enough.
use mathlib.Core.{Bool.{Bool, true, false, cond, ◌||◌, true≢false}, List.{List, [], ◌∷◌}, Path.{◌≡◌, refl, sym, ap, ◌∙◌, subst}}
use borrow.Author.Tests.{le-leb, leb-true}
use lib.{Bits.bit_or, ListN.get_or}
use native.Mathlib.Omega.{arith}
use Prim.Native.Nat.{ℕ, ◌+◌, ◌≤◌, ◌<◌}
use Rattle.limits.specs.Limits.{file_bytes, descriptor_count, transaction_count}
use Rattle.buffers.{specs.Marks.contains, proofs.{SetLaws.contains-or, TableLaws.get_d_tabulate}}
use Rattle.standings.specs.declared.{Standing.{Standing, TheVariants.{Untouched, Placed, Deferred, Moved, Known}}}
use Rattle.standings.specs.Table.{advance, final_offset, may_wait}
use Rattle.admission.specs.{FirstRefusal.some_below, Admission.standing_in}
use Rattle.admission.proofs.Laws.{below_all, some-found, and_left, and_right}
use Rattle.spec_orders.specs.Orders.{all_in}
use Rattle.spec.specs.{Transactions.Txn, Commits.sets_offset}
use Rattle.call_order.specs.OrderStatements.{Pass, fits_at, offsets_after, follow_one, follow_all, waits, Short, pass_one}
use Rattle.call_order.specs.OrderStatements.{pass_all}

none_below : (p : ℕ → Bool) (n : ℕ) → some_below p n ≡ false → (k : ℕ) → k < n → p k ≡ false
none_below p n e k l = pick (p k) refl
  where
    pick : (b : Bool) → p k ≡ b → b ≡ false
    pick true q = absurd (true≢false (sym (some-found p n k l q) ∙ e))
    pick false q = refl

-- A standing that carries no advance, and an offset in its range.
no-advance : (z : Standing) → may_wait z ≡ false → advance z ≡ 0
no-advance Untouched e = refl
no-advance (Placed o) e = refl
no-advance (Deferred a) e = absurd (true≢false e)
no-advance (Moved a o) e = absurd (true≢false e)
no-advance (Known o) e = refl

final-low : (c : ℕ) (z : Standing) → may_wait z ≡ false → standing_in z ≡ true → c ≤ file_bytes → final_offset c z ≤ file_bytes
unfolding final_offset standing_in
final-low c Untouched e r l = l
final-low c (Placed o) e r l = leb-true o file_bytes r
final-low c (Deferred a) e r l = absurd (true≢false e)
final-low c (Moved a o) e r l = absurd (true≢false e)
final-low c (Known o) e r l = leb-true o file_bytes r

abbrev pub Low : List ℕ → Type 0
Low offsets = (d : ℕ) → d < descriptor_count → get_or offsets d 0 ≤ file_bytes

module _ (x : Txn) (offsets : List ℕ) (low : Low offsets) (free : (d : ℕ) → d < descriptor_count
    → may_wait (x.standing d) ≡ false) where
  fits-free : fits_at x offsets ≡ true
  unfolding fits_at
  fits-free = below_all _ 16 (λ d l. let a = no-advance (x.standing d) (free d l) in let b =
      low d l in le-leb (get_or offsets d 0 + advance (x.standing d)) file_bytes (omega arith))

  low-after : ((d : ℕ) → standing_in (x.standing d) ≡ true) → Low (offsets_after x offsets)
  unfolding offsets_after
  low-after r d l = subst (λ (n : ℕ). n ≤ file_bytes) (sym (get_d_tabulate (λ e. cond (sets_offset x e)
      (final_offset (get_or offsets e 0) (x.standing e)) (get_or offsets e 0)) descriptor_count d 0 l)) (pick (sets_offset x d))
    where
      pick : (b : Bool) → cond b (final_offset (get_or offsets d 0) (x.standing d)) (get_or offsets d 0) ≤ file_bytes
      pick true = final-low (get_or offsets d 0) (x.standing d) (free d l) (r d) (low d l)
      pick false = low d l

module _ (row : ℕ → ℕ) (closed : ℕ → Bool) (txn : ℕ → Txn) (ok : ℕ → Bool) (small : (t : ℕ) → ok t ≡ true
    → t < transaction_count) (free : (t : ℕ) → ok t ≡ true → waits (txn t) ≡ false) (ranges : (t : ℕ) → ok t ≡ true → (d : ℕ)
    → standing_in ((txn t).standing d) ≡ true) where
  pub record Alike (p : Pass) (q : Short) : Type 0 where
    pub grants : q.grants ≡ p.grants
    pub skipped : (u : ℕ) → u < transaction_count → contains q.skipped u ≡ contains p.stale u || closed u
    pub low : Low p.offsets

  module _ (t : ℕ) (p : Pass) (q : Short) (good : ok t ≡ true) (a : Alike p q) where
    frees : (d : ℕ) → d < descriptor_count → may_wait ((txn t).standing d) ≡ false
    frees d l = unfold waits in none_below (λ e. may_wait ((txn t).standing e)) 16 (free t good) d l

    joined : (u : ℕ) → u < transaction_count → contains (bit_or q.skipped (row t)) u ≡ contains
        (bit_or p.stale (row t)) u || closed u
    joined u l = contains-or q.skipped (row t) u ∙ ap (λ (b : Bool). b || contains (row t) u) (a.skipped u l)
        ∙ swap (contains p.stale u) (closed u) (contains (row t) u)
        ∙ ap (λ (b : Bool). b || closed u) (sym (contains-or p.stale (row t) u))
      where
        swap : (b c d : Bool) → (b || c) || d ≡ (b || d) || c
        swap true c d = refl
        swap false true true = refl
        swap false true false = refl
        swap false false true = refl
        swap false false false = refl

    next : Alike
        (record { stale = bit_or p.stale (row t); offsets = offsets_after (txn t) p.offsets; grants = p.grants + 1 })
        (record { skipped = bit_or q.skipped (row t); grants = q.grants + 1 })
    next = record {
      grants = ap (λ (n : ℕ). n + 1) a.grants;
      skipped = joined;
      low = low-after (txn t) p.offsets a.low frees (ranges t good);
    }

    alike-one : Alike (follow_one row closed txn t p) (pass_one row t q)
    unfolding follow_one pass_one
    alike-one = rw (a.skipped t (small t good), fits-free (txn t) p.offsets a.low frees)
        (pick (contains p.stale t) (closed t))
      where
        pick : (b c : Bool) → Alike (cond (b || (c || false)) p (record
            { stale = bit_or p.stale (row t); offsets = offsets_after (txn t) p.offsets; grants = p.grants + 1 }))
            (cond (b || c) q (record { skipped = bit_or q.skipped (row t); grants = q.grants + 1 }))
        pick true c = a
        pick false true = a
        pick false false = next

  pub short-way : (o : List ℕ) (p : Pass) (q : Short) → all_in ok o ≡ true → Alike p q
      → (follow_all row closed txn o p).grants ≡ (pass_all row o q).grants
  unfolding follow_all pass_all all_in
  short-way [] p q e a = sym a.grants
  short-way (t ∷ o) p q e a = short-way o (follow_one row closed txn t p) (pass_one row t q) (and_right (ok t) _ e)
      (alike-one t p q (and_left (ok t) _ e) a)
