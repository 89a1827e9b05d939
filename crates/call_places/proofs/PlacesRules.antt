-- The rule of the call that lists places, after each of its tests. Assumes nothing.
use Rattle.std.specs.declared.result.Result.TheVariants.{Ok}
use mathlib.Core.{Bool.{Bool, true, false, cond}, List.{List, [], ◌∷◌}, Path.{◌≡◌, sym, ap, ◌∙◌}}
use borrow.Author.Tests.{le-leb, lt-leb}
use lib.{Dec.eqb, ListN.length}
use native.Mathlib.Omega.{arith}
use Prim.Native.Nat.{ℕ, zero, suc, ◌*◌, ◌≤◌, ◌<◌}
use Rattle.limits.specs.Limits.{last_file, file_bytes}
use Rattle.state.specs.{StoreMeaning.transaction, Outcomes.{pairs, said}, declared.outcomes.Answer.TheVariants.{Pairs}}
use Rattle.admission.specs.{Admission.admission, FirstRefusal.unless}
use Rattle.spec.specs.{Transactions.Txn, Messages.places, Machine.{Machine, sizes, file_of, txn_of}}
use Rattle.spec.specs.Calls.{Turn, refuse_turn, admitted, places_turn, call}
use Rattle.spec.specs.Places.{Interval, interval, with_place, intervals_from, intervals_of, covered, unplaced, with_pairs}
use Rattle.spec.specs.{Places.{places_refusal, places_reply, places_of}, Promises.Meets}
use Rattle.refinement.proofs.{Decoded.Opened, TurnLaws.passing-on}
use Rattle.read_lookup.specs.Lookup.{Recorded, recorded}
use Rattle.call_places.specs.PlacesCall.{covered_at, waits_on_file}
use Rattle.call_places.proofs.MachineLaws.{unplaced-in, intervals-in}

-- ---- the list has no more intervals than there are places

with-length : (p : ℕ) (l : List Interval) → length (with_place p l) ≤ suc (length l)
unfolding with_place
with-length p [] = omega arith
with-length p (s ∷ l) = pick (eqb s.offset (suc p))
  where
    pick : (b : Bool) → length (cond b (interval p (suc s.length) ∷ l) (interval p 1 ∷ (s ∷ l))) ≤ suc (suc (length l))
    pick true = omega arith
    pick false = omega arith

from-length : (S : ℕ → Bool) (p n : ℕ) → length (intervals_from S p n) ≤ n
unfolding intervals_from
from-length S p zero = omega arith
from-length S p (suc n) = pick (S p) (from-length S (suc p) n)
  where
    pick : (b : Bool) → length (intervals_from S (suc p) n) ≤ n
        → length (cond b (with_place p (intervals_from S (suc p) n)) (intervals_from S (suc p) n)) ≤ suc n
    pick true h = omega (arith, with-length p (intervals_from S (suc p) n))
    pick false h = omega arith

pub intervals-few : (S : ℕ → Bool) → length (intervals_of S) ≤ file_bytes
intervals-few S = unfold intervals_of in from-length S 0 file_bytes

-- ---- the call

module _ (t f : ℕ) (out : List ℕ) (m : Machine) (passes : admission (sizes m) m.store m.journal t ≡ 0) where
  -- The transaction, and its write records.
  abbrev txn : Txn
  txn = txn_of m.store m.journal m.logs t

  abbrev held : Recorded
  held = recorded m.journal m.store.filenumbers

  -- The reply, by the first test that refuses.
  replied : (n : ℕ) → places_refusal (file_of m.store) f out txn ≡ n
      → call (places t f out) m ≡ record { reply = places_reply (file_of m.store) f out txn n; after = m }
  unfolding call admitted places_turn places_of
  replied n e = passing-on (admission (sizes m) m.store m.journal t) out m (places_turn t f out m) passes
      ∙ ap (λ (k : ℕ). record { reply = places_reply (file_of m.store) f out txn k; after = m }) e

  pub places-no-file : last_file < f → call (places t f out) m ≡ refuse_turn 6 out m
  places-no-file h = unfold places_refusal unless places_reply refuse_turn in replied 6 (rw (lt-leb f last_file h))

  -- So many write records the code read.
  module _ (low : f ≤ last_file) (records : ℕ) (read : records ≡ (transaction m.store t).used.records) where
    abbrev list : List Interval
    list = intervals_of (covered_at held t records f)

    waiting-is : unplaced (file_of m.store) f txn.writes ≡ waits_on_file held t records f
    waiting-is = unplaced-in m.store m.journal m.logs t f ∙ ap (λ (n : ℕ). waits_on_file held t n f) (sym read)

    pub places-waiting : waits_on_file held t records f ≡ true → call (places t f out) m ≡ refuse_turn 15 out m
    unfolding places_refusal unless places_reply refuse_turn
    places-waiting w = replied 15 (rw (le-leb f last_file low, waiting-is, w))

    module _ (o : Opened m.store m.journal m.logs t) (placed : waits_on_file held t records f ≡ false) where
      listed : intervals_of (covered (file_of m.store) f txn.writes) ≡ list
      listed = intervals-in m.store m.journal m.logs t f o.small o.size o.ranges
          ∙ ap (λ (n : ℕ). intervals_of (covered_at held t n f)) (sym read)

      pub places-too-long : length out < 4 * length list → call (places t f out) m ≡ refuse_turn 16 out m
      places-too-long h = unfold places_refusal unless places_reply refuse_turn in
          replied 16 (rw (le-leb f last_file low, waiting-is, placed, listed, lt-leb (4 * length list) (length out) h))

      pub places-meets : 4 * length list ≤ length out → (n : ℕ) → n ≡ length list
          → Meets (call (places t f out) m) (Ok (Pairs n)) m (with_pairs list out)
      unfolding places_refusal unless places_reply said
      places-meets h n e = let reply = replied 0
          (rw (le-leb f last_file low, waiting-is, placed, listed, le-leb (4 * length list) (length out) h)) in record {
            outcome = ap pairs (e ∙ sym (ap length listed)) ∙ sym (ap (λ (w : Turn). w.reply.answer) reply);
            machine = sym (ap (λ (w : Turn). w.after) reply);
            reader = ap (λ (l : List Interval). with_pairs l out) (sym listed)
                ∙ sym (ap (λ (w : Turn). w.reply.buffer) reply);
          }
