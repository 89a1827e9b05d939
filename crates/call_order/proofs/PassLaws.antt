-- A pass over an order, one Commit after the other.
use mathlib.Core.{Bool.{Bool, true, false, cond, not, ◌||◌}, List.List, Path.{◌≡◌, refl, sym, ap, ◌∙◌}}
use lib.{Bits.bit_or, ListN.{length, get_or, drop, drop_of_length-le}}
use native.Mathlib.Omega.{arith}
use Prim.Native.Nat.{ℕ, ◌+◌, ◌≤◌, ◌<◌}
use Rattle.buffers.specs.Marks.{contains}
use Rattle.spec.specs.Transactions.{Txn}
use Rattle.call_order.specs.OrderStatements.{Pass, fits_at, offsets_after, follow_one, follow_all, Short, pass_one, pass_all}
use Rattle.call_order.proofs.ListLaws.{rest, small_at}

abbrev pub short : ℕ → ℕ → Short
short s g = record { skipped = s; grants = g }

module _ (row : ℕ → ℕ) (o : List ℕ) (k t s g : ℕ) (l : k < length o) (e : t ≡ get_or o k 0) where
  pass-rest : pass_all row (drop k o) (short s g) ≡ pass_all row (drop (k + 1) o) (pass_one row t (short s g))
  unfolding pass_all
  pass-rest = ap (λ (ts : List ℕ). pass_all row ts (short s g)) (rest o k l)
      ∙ ap (λ (u : ℕ). pass_all row (drop (k + 1) o) (pass_one row u (short s g))) (sym e)

  pub pass-granted : contains s t ≡ false
      → pass_all row (drop k o) (short s g) ≡ pass_all row (drop (k + 1) o) (short (bit_or s (row t)) (g + 1))
  pass-granted h = unfold pass_one in
      pass-rest ∙ ap (λ (b : Bool). pass_all row (drop (k + 1) o) (cond b (short s g) (short (bit_or s (row t)) (g + 1)))) h

  pub pass-skipped : contains s t ≡ true → pass_all row (drop k o) (short s g) ≡ pass_all row (drop (k + 1) o) (short s g)
  pass-skipped h = unfold pass_one in
      pass-rest ∙ ap (λ (b : Bool). pass_all row (drop (k + 1) o) (cond b (short s g) (short (bit_or s (row t)) (g + 1)))) h

pub pass-done : (row : ℕ → ℕ) (o : List ℕ) (k : ℕ) (p : Short) → length o ≤ k → pass_all row (drop k o) p ≡ p
pass-done row o k p l = unfold pass_all in ap (λ (ts : List ℕ). pass_all row ts p) (drop_of_length-le o l)

-- ---- with Commit's placing

module _ (row : ℕ → ℕ) (closed : ℕ → Bool) (txn : ℕ → Txn) where
  abbrev granted : ℕ → Pass → Pass
  granted t p = record { stale = bit_or p.stale (row t); offsets = offsets_after (txn t) p.offsets; grants = p.grants + 1 }

  pub decided : (t : ℕ) (p : Pass) (a b c : Bool) → contains p.stale t ≡ a → closed t ≡ b → fits_at (txn t) p.offsets ≡ c
      → follow_one row closed txn t p ≡ cond (a || (b || not c)) p (granted t p)
  unfolding follow_one
  decided t p a b c e f g = rw (e, f, g) refl

  pub few-grants : (t : ℕ) (p : Pass) → (follow_one row closed txn t p).grants ≤ p.grants + 1
  unfolding follow_one
  few-grants t p = pick (contains p.stale t || (closed t || not (fits_at (txn t) p.offsets)))
    where
      pick : (b : Bool) → (cond b p (granted t p)).grants ≤ p.grants + 1
      pick true = omega arith
      pick false = omega arith

  pub follow-rest : (o : List ℕ) (k t : ℕ) (p : Pass) → k < length o → t ≡ get_or o k 0
      → follow_all row closed txn (drop k o) p ≡ follow_all row closed txn (drop (k + 1) o) (follow_one row closed txn t p)
  unfolding follow_all
  follow-rest o k t p l e = ap (λ (ts : List ℕ). follow_all row closed txn ts p) (rest o k l)
      ∙ ap (λ (u : ℕ). follow_all row closed txn (drop (k + 1) o) (follow_one row closed txn u p)) (sym e)

  pub follow-done : (o : List ℕ) (k : ℕ) (p : Pass) → length o ≤ k → follow_all row closed txn (drop k o) p ≡ p
  follow-done o k p l = unfold follow_all in ap (λ (ts : List ℕ). follow_all row closed txn ts p) (drop_of_length-le o l)

-- One octet is asked of the table.
pub one-octet : (row : ℕ → ℕ) (closed : ℕ → Bool) (txn : ℕ → Txn) (t : ℕ) (p : Pass)
    → follow_one (λ u. row t) closed txn t p ≡ follow_one row closed txn t p
one-octet row closed txn t p = unfold follow_one in refl

-- The sets that the passes are proved by.
pub ruleset passing = (small_at, pass-granted, pass-skipped, pass-done)

pub ruleset following = (small_at, few-grants, follow-rest, follow-done, one-octet)
