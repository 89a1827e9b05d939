-- Request F-14: the grants of an order without making a Commit. Whom a granted Commit makes stale can be read
-- off what is committed at the start: one octet for each transaction, the table (`stale_by` of crate
-- commit_conflicts). The code counts grants so. Nobody has to believe it: the promise of `best_order` goes by
-- Commits made one after the other (spec/specs/OrderReply.antt).
use Rattle.std.specs.Prelude.{Bool, true, false, cond, not, ◌||◌, List, [], ◌∷◌, ◌++◌, ◌↔◌, ◌≡◌, leb, get_or, ℕ, ◌+◌, ◌≤◌}
use Rattle.std.specs.Int.Bits.{bit_or}
use Rattle.limits.specs.Limits.{file_bytes, descriptor_count, transaction_count, last_transaction}
use Rattle.buffers.specs.Bits.{bits_of}
use Rattle.buffers.specs.Marks.{contains}
use Rattle.buffers.specs.Parts.{tabulate}
use Rattle.standings.specs.Table.{advance, final_offset, may_wait}
use Rattle.state.specs.declared.outcomes.Refusal.TheVariants.{Stale}
use Rattle.state.specs.Outcomes.{number, refused}
use Rattle.state.specs.StoreMeaning.{transaction}
use Rattle.admission.specs.FirstRefusal.{below, some_below}
use Rattle.admission.specs.Admission.{first_tests}
use Rattle.spec_orders.specs.Orders.{all_in, Arranges}
use Rattle.spec.specs.Transactions.{Txn}
use Rattle.spec.specs.Commits.{sets_offset}
use Rattle.spec.specs.Messages.{commit}
use Rattle.spec.specs.OrderReply.{has_unplaced, order_refusal}
use Rattle.spec.specs.Machine.{Machine, sizes, txn_of}
use Rattle.spec.specs.Calls.{asked_of, call, calls_after}
use Rattle.spec.specs.Promises.{machine_of}
use Rattle.spec.specs.Recovery.{Reached}
use Rattle.spec.specs.BestOrder.{commits_in}
use Rattle.commit_conflicts.specs.Conflicts.{stale_by}

-- Transaction t as a machine holds it.
abbrev pub txn_in : Machine → ℕ → Txn
txn_in m t = txn_of m.store m.journal m.logs t

-- The octet of those with a byte for a file closed at the minute: they are granted in no order, and make
-- nobody stale.
unfoldable pub closed_in : ℕ → Machine → ℕ
closed_in minute m = bits_of (asked_of minute m).has_closed transaction_count

-- ---- along an order

-- After some Commits: the octet of those whom the granted ones made stale, the sixteen committed offsets, and
-- how many were granted.
pub record Pass : Type 0 where
  pub stale : ℕ
  pub offsets : List ℕ
  pub grants : ℕ

-- Commit's placing of x passes on these offsets (12), and what they are after its grant.
unfoldable pub fits_at : Txn → List ℕ → Bool
fits_at x offsets = below (λ d. leb (get_or offsets d 0 + advance (x.standing d)) file_bytes) descriptor_count

unfoldable pub offsets_after : Txn → List ℕ → List ℕ
offsets_after x offsets =
    tabulate (λ d. cond (sets_offset x d) (final_offset (get_or offsets d 0) (x.standing d)) (get_or offsets d 0))
    descriptor_count

-- One more Commit: refused with 13 where its bit is set, with 21 where it has a byte for a closed file, with
-- 12, or granted. The table, those with such a byte, and the transactions are handed in.
unfoldable pub follow_one : (ℕ → ℕ) → (ℕ → Bool) → (ℕ → Txn) → ℕ → Pass → Pass
follow_one row closed txn t p =
    cond (contains p.stale t || (closed t || not (fits_at (txn t) p.offsets))) p
    (record {
      stale = bit_or p.stale (row t);
      offsets = offsets_after (txn t) p.offsets;
      grants = p.grants + 1;
    })

unfoldable pub follow_all : (ℕ → ℕ) → (ℕ → Bool) → (ℕ → Txn) → List ℕ → Pass → Pass
follow_all row closed txn [] p = p
follow_all row closed txn (t ∷ o) p = follow_all row closed txn o (follow_one row closed txn t p)

-- Of a machine, from its own offsets.
unfoldable pub followed : ℕ → Machine → List ℕ → Pass
followed minute m o =
    follow_all (stale_by m) (asked_of minute m).has_closed (txn_in m) o
    (record { stale = 0; offsets = m.store.offsets; grants = 0 })

-- ---- the short way, where nobody stands Deferred or Moved: 12 cannot come

unfoldable pub waits : Txn → Bool
waits x = some_below (λ d. may_wait (x.standing d)) descriptor_count

-- `skipped` has who has a byte for a closed file, or was made stale.
pub record Short : Type 0 where
  pub skipped : ℕ
  pub grants : ℕ

unfoldable pub pass_one : (ℕ → ℕ) → ℕ → Short → Short
pass_one row t p = cond (contains p.skipped t) p
    (record { skipped = bit_or p.skipped (row t); grants = p.grants + 1 })

unfoldable pub pass_all : (ℕ → ℕ) → List ℕ → Short → Short
pass_all row [] p = p
pass_all row (t ∷ o) p = pass_all row o (pass_one row t p)

-- ---- the law

-- A state and buffers that meet neither 1 nor 2, and a list, a minute and a budget that meet none of 26, 3,
-- 4, 22, 25 and 27.
pub record Asking (m : Machine) (ts : List ℕ) (minute budget : ℕ) : Type 0 where
  pub admitted : first_tests (sizes m) m.store m.journal 0 ≡ 0
  pub passed : order_refusal (asked_of minute m) ts minute budget ≡ 0

-- In any order, on any state.
pub record TableHolds (m : Machine) (ts : List ℕ) (minute : ℕ) : Type 0 where
  -- "how many grants Commit would give in it" [R-14.1]
  pub grants : (o : List ℕ) → Arranges ts o → (asked_of minute m).grants o ≡ (followed minute m o).grants
  -- .. where no listed transaction stands Deferred or Moved.
  pub short :
      all_in (λ t. not (waits (txn_in m t))) ts ≡ true → (o : List ℕ) → Arranges ts o
      → (asked_of minute m).grants o
      ≡ (pass_all (stale_by m) o (record { skipped = closed_in minute m; grants = 0 })).grants
  -- A Commit of j is refused with 13 exactly when some i granted before it has j in its octet.
  pub stale :
      (xs ys : List ℕ) (j : ℕ) → Arranges ts (xs ++ (j ∷ ys))
      → ((call (commit j minute) (calls_after (commits_in xs minute) m)).reply.answer ≡ refused (number Stale))
      ↔ (contains (followed minute m xs).stale j ≡ true)

abbrev pub TableLaw : Type 0
TableLaw =
    (state files logs marks undo ts : List ℕ) (minute budget : ℕ)
    → Asking (machine_of state files logs marks undo) ts minute budget
    → TableHolds (machine_of state files logs marks undo) ts minute

-- The short way is that of every store reached from Fresh: an open transaction that stands Deferred or Moved
-- has a write without a place.
abbrev pub NeverWaits : Type 0
NeverWaits =
    (m : Machine) → Reached m → (t : ℕ) → t ≤ last_transaction
    → (transaction m.store t).begun ≡ true → has_unplaced (txn_in m t).writes ≡ false → waits (txn_in m t)
    ≡ false
