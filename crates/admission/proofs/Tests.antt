-- What each test of src/lib.rt decides, in the order in which they are made.
use mathlib.Core.{Bool.{Bool, true, false, not, ◌&&◌, ◌||◌}, List.List, Path.{◌≡◌, refl, sym, ap, ap₂, ◌∙◌}, Logic.⊎_elim}
use lib.{ListN.{get_or, replicate, get_or-replicate, get_or-eq_default}, Dec.{leb, eqb}}
use Prim.Native.Nat.{ℕ, ◌+◌, ◌≤◌, ◌<◌}
use native.Mathlib.Omega.{arith}
use borrow.Author.Tests.{leb-true, le-leb, lt-leb, not-true, not-false}
use Rattle.limits.specs.Limits.{file_count, last_file, file_bytes, descriptor_count, last_descriptor, record_count, log_bytes}
use Rattle.limits.specs.Limits.{last_minute}
use Rattle.standings.specs.declared.{Standing.{Standing, TheVariants.{Untouched, Placed, Deferred, Moved, Known}}, Place.Place}
use Rattle.standings.specs.{declared.Place.TheVariants.{At, After}, Table.{advance, offset_of, may_wait, place_number}}
use Rattle.state.specs.declared.{Transaction.Transaction, Undo.Undo, StoreMeaning.StoreMeaning, journal.WriteRecord.WriteRecord}
use Rattle.state.specs.{StoreMeaning.{no_descriptor, ended, transaction, standing_at, window_at}, declared.Descriptor.Descriptor}
use Rattle.state.{specs.{Layout.{transaction_of, store_of, journal_of}, Journal.write_record_at}, proofs.LayoutLaws.transaction-of}
use Rattle.state.specs.WriteEnds.{place_ends_by, ends_by}
use Rattle.buffers.proofs.{PartLaws.le-or-lt, BelowLaws.{below_both, none_yet, one_more}}
use Rattle.windows.specs.Windows.{minute_in}
use Rattle.admission.specs.FirstRefusal.{below}
use Rattle.admission.specs.Admission.{standing_in, ends_within, place_in, record_in, lengths_before, journal_in, journal_passes}
use Rattle.admission.specs.Admission.{transaction_in, window_in, tables_in, landed_in, grant_passes, undo_in, none_begun}
use Rattle.admission.proofs.Laws.{and_left, and_right, and_both, and-true, below-zero, below_at, below_all, below-same}
use Rattle.admission.proofs.Laws.{sum-zero, sum_more, standing-numbers}

and-false : (a : Bool) → a && false ≡ false
and-false true = refl
and-false false = refl

-- ---- standings

-- The numbers that they carry are those of the range.
pub standings-decide : (r : List ℕ) (t : ℕ)
    → below (λ d. let z = standing_at (transaction_of r t) d in leb (advance z) file_bytes && leb (offset_of z) file_bytes)
    descriptor_count ≡ below (λ d. standing_in (standing_at (transaction_of r t) d)) descriptor_count
standings-decide r t = below-same _ _ 16 (λ d h. sym (standing-numbers (standing_at (transaction_of r t) d)))

-- ---- a write record

-- A number at most a is at most 4,096, where a is.
both_under : (e a : ℕ) → leb a file_bytes ≡ true → leb e file_bytes && leb e a ≡ leb e a
both_under e a h = pick (leb e a) refl
  where
    pick : (b : Bool) → leb e a ≡ b → leb e file_bytes && b ≡ b
    pick true q = let l = leb-true a file_bytes h in let m = leb-true e a q in rw (le-leb e file_bytes (omega arith))
    pick false q = and-false (leb e file_bytes)

within-waits : (z : Standing) (e : ℕ) → standing_in z ≡ true → leb e file_bytes && ends_within z e ≡ may_wait z && leb e (advance z)
unfolding standing_in ends_within
within-waits Untouched e h = and-false (leb e file_bytes)
within-waits (Placed o) e h = and-false (leb e file_bytes)
within-waits (Deferred a) e h = both_under e a (and_left (leb a file_bytes) true h)
within-waits (Moved a o) e h = both_under e a (and_left (leb a file_bytes) (leb o file_bytes) h)
within-waits (Known o) e h = and-false (leb e file_bytes)

-- Where the standings are in range, a record in range ends by 4,096 or where it may.
place-ends : (z : Standing) (q : Place) (n : ℕ) → standing_in z ≡ true → place_ends_by file_bytes z q n ≡ place_in z q n
unfolding place_ends_by place_in
place-ends z (At p) n h = refl
place-ends z (After a) n h = sym (within-waits z (a + n) h)

pub record-decides : (x : Transaction) (w : WriteRecord) → below (λ d. standing_in (standing_at x d)) descriptor_count ≡ true
    → ends_by file_bytes x w ≡ record_in x w
unfolding ends_by record_in
record-decides x w all = low (leb w.descriptor last_descriptor) refl
  where
    z : Standing
    z = standing_at x w.descriptor

    low : (b : Bool) → leb w.descriptor last_descriptor ≡ b
        → b && place_ends_by file_bytes z w.place w.length ≡ b && place_in z w.place w.length
    low true e = let l = leb-true w.descriptor last_descriptor e in
        place-ends z w.place w.length
        (below_at (λ d. standing_in (standing_at x d)) descriptor_count w.descriptor all (omega arith))
    low false e = refl

pub lengths_none : (journal : List ℕ) (t : ℕ) → 0 ≡ lengths_before journal t 0
lengths_none journal t = unfold lengths_before in sym (sum-zero _)

pub lengths-more : (journal : List ℕ) (t n s v : ℕ) → s ≡ lengths_before journal t n → v ≡ (write_record_at journal t n).length
    → s + v ≡ lengths_before journal t (n + 1)
lengths-more journal t n s v e f = unfold lengths_before in rw (e, f) (sym (sum_more _ n))

-- ---- a write record of the last grant

module _ (q : Place) (n : ℕ) where
  pub placed-decides : {p : ℕ} (k m : ℕ) → q ≡ At p → k ≡ place_number q → m ≡ n → leb (k + m) file_bytes ≡ place_in Untouched q n
  placed-decides k m is_at is-k is_m = unfold place_in in rw (is-k, is_m, is_at)

  pub unplaced-out : {a : ℕ} → q ≡ After a → false ≡ place_in Untouched q n
  unfolding place_in ends_within
  unplaced-out {a} is-after = rw is-after (sym (and-false (leb (a + n) file_bytes)))

-- An ended transaction has sixteen Untouched descriptors.
untouched : (d : ℕ) → standing_at ended d ≡ Untouched
unfolding ended
untouched d = ap (λ (q : Descriptor). q.standing) (⊎_elim (λ l. get_or-eq_default (replicate 16 no_descriptor)
    no_descriptor l) (λ l. get_or-replicate 16 d no_descriptor no_descriptor l) (le-or-lt 16 d))

-- Record w, read from the journal.
module _ (w v : WriteRecord) (is-v : w ≡ v) where
  pub high-out : last_descriptor < w.descriptor → landed_in v ≡ false
  high-out l = unfold landed_in record_in in rw (← is-v, lt-leb w.descriptor last_descriptor l)

  module _ (low : w.descriptor ≤ last_descriptor) (r : Bool) (is-r : r ≡ place_in Untouched w.place w.length) where
    landed-decides : landed_in v ≡ r
    unfolding landed_in record_in
    landed-decides = rw (← is-v, le-leb w.descriptor last_descriptor low, untouched w.descriptor, is-r)

    pub landed-out : not r ≡ true → landed_in v ≡ false
    landed-out h = landed-decides ∙ not-true _ h

    pub landed-passes : not r ≡ false → landed_in v ≡ true
    landed-passes h = landed-decides ∙ not-false _ h

-- The last two tests of a journal, joined.
pub and-fails : (a b : Bool) → a ≡ false → false ≡ a && b
and-fails a b e = rw e

pub and_last : (a b c : Bool) → a ≡ true → b ≡ c → b ≡ a && c
and_last a b c e f = rw (e, f)

-- ---- a transaction

-- The tests of a begun transaction, in the order in which they are made.
turned : (s r j e u : Bool) → s && (r && j && e && u) ≡ r && u && s && (j && e)
turned true true j e true = and-true (j && e)
turned true true j e false = and-false (j && e)
turned true false j e u = refl
turned false true j e true = refl
turned false true j e false = refl
turned false false j e u = refl

or-closed : (b q : Bool) → b ≡ false → true ≡ not b || q
or-closed b q e = rw e

or-begun : (b q : Bool) → b ≡ true → not b || q ≡ q
or-begun b q e = rw e

-- Two tests of a transaction, each where it is open.
shared-out : (b s r : Bool) → not b || (s && r) ≡ (not b || s) && (not b || r)
shared-out true s r = refl
shared-out false s r = refl

-- Its counters, its standings and its records, each where it is open.
parts : (b s r j e u : Bool) → not b || (s && (r && j && e && u)) ≡ (not b || (r && u)) && (not b || s) && (not b || (j && e))
parts true s r j e u = turned s r j e u
parts false s r j e u = refl

module _ (r : List ℕ) where
  abbrev pub counters_in : ℕ → Bool
  counters_in t = not (transaction_of r t).begun
      || (leb (transaction_of r t).used.records record_count && leb (transaction_of r t).used.bytes log_bytes)

  abbrev pub standings_in : ℕ → Bool
  standings_in t = not (transaction_of r t).begun || below (λ d. standing_in (standing_at (transaction_of r t) d)) descriptor_count

  abbrev pub records_in : ℕ → Bool
  records_in t = not (transaction_of r t).begun
      || journal_passes (transaction_of r t) (journal_of r) t (transaction_of r t).used.records (transaction_of r t).used.bytes

  abbrev pub empty_in : ℕ → Bool
  empty_in t = not (transaction_of r t).begun
      || (leb (transaction_of r t).used.records 0 && leb (transaction_of r t).used.bytes 0)

  abbrev pub all_in : Bool
  all_in = below (λ t. transaction_in (transaction_of r t) (journal_of r) t) 8

  -- Counters and standings, tested together.
  pub open-decides : below (λ t. not (transaction_of r t).begun || (leb (transaction_of r t).used.records record_count
      && leb (transaction_of r t).used.bytes log_bytes && below (λ d. let z = standing_at (transaction_of r t) d in leb
      (advance z) file_bytes && leb (offset_of z) file_bytes) descriptor_count)) 8 ≡ below counters_in 8 && below standings_in 8
  open-decides = below-same _ _ 8 (λ t h. let x = transaction_of r t in let few = leb x.used.records record_count && leb
      x.used.bytes log_bytes in ap (λ (b : Bool). not x.begun || (few && b)) (standings-decide r t)
      ∙ shared-out x.begun few _) ∙ sym (below_both counters_in standings_in 8)

  transaction-parts : (t : ℕ) → transaction_in (transaction_of r t) (journal_of r) t
      ≡ counters_in t && standings_in t && records_in t
  transaction-parts t = unfold transaction_in journal_in journal_passes in let x = transaction_of r t in
      parts x.begun (below (λ d. standing_in (standing_at x d)) descriptor_count) (leb x.used.records record_count) _ _
      (leb x.used.bytes log_bytes)

  all-parts : all_in ≡ below counters_in 8 && below standings_in 8 && below records_in 8
  all-parts = below-same _ _ 8 (λ t h. transaction-parts t) ∙ sym (ap (λ (b : Bool). b && below records_in 8)
      (below_both counters_in standings_in 8) ∙ below_both (λ t. counters_in t && standings_in t) records_in 8)

  pub open-fails : below counters_in 8 && below standings_in 8 ≡ false → false ≡ all_in
  open-fails e = sym (all-parts ∙ rw e)

  module _ (passed : below counters_in 8 && below standings_in 8 ≡ true) where
    pub counters-hold : below counters_in 8 ≡ true
    counters-hold = and_left (below counters_in 8) (below standings_in 8) passed

    pub standings-hold : below standings_in 8 ≡ true
    standings-hold = and_right (below counters_in 8) (below standings_in 8) passed

    pub records-decide : (b : Bool) → b ≡ below records_in 8 → b ≡ all_in
    records-decide b e = e ∙ sym (all-parts ∙ rw passed)

  empty-passes : (t : ℕ) → journal_passes (transaction_of r t) (journal_of r) t 0 0 ≡ true
  unfolding journal_passes
  empty-passes t = and_both _ _ (below-zero _) (ap (λ (n : ℕ). eqb n 0) (sym (lengths_none (journal_of r) t)))

  -- One that has neither records nor bytes.
  pub empty-in : (t : ℕ) → empty_in t ≡ true → records_in t ≡ true
  empty-in t e = pick (transaction_of r t).begun (transaction_of r t).used.records (transaction_of r t).used.bytes e
    where
      pick : (b : Bool) (n m : ℕ) → not b || (leb n 0 && leb m 0) ≡ true
          → not b || journal_passes (transaction_of r t) (journal_of r) t n m ≡ true
      pick false n m h = refl
      pick true n m h = let k = leb-true n 0 (and_left (leb n 0) (leb m 0) h) in
          let l = leb-true m 0 (and_right (leb n 0) (leb m 0) h) in let no-records : n ≡ 0 = omega arith in
          let no_bytes : m ≡ 0 = omega arith in rw (no-records, no_bytes) (empty-passes t)

  pub all-empty : below empty_in 8 ≡ true → true ≡ below records_in 8
  all-empty e = sym (below_all records_in 8 (λ t h. empty-in t (below_at empty_in 8 t e h)))

  -- One that has some: it is open, and what was tested of open ones holds of it.
  module _ (t : ℕ) (some : empty_in t ≡ false) where
    open-one : (transaction_of r t).begun ≡ true
    open-one = pick (transaction_of r t).begun _ some
      where
        pick : (b q : Bool) → not b || q ≡ false → b ≡ true
        pick true q h = refl
        pick false q h = cc

    pub its-standings : standings_in t ≡ true → below (λ d. standing_in (standing_at (transaction_of r t) d)) descriptor_count ≡ true
    its-standings e = sym (or-begun (transaction_of r t).begun _ open-one) ∙ e

    pub its-count : counters_in t ≡ true → (transaction_of r t).used.records ≤ record_count
    its-count e = leb-true _ record_count (and_left _ _ (sym (or-begun (transaction_of r t).begun _ open-one) ∙ e))

    pub its-records : (n m : ℕ) (b : Bool) → n ≡ (transaction_of r t).used.records → m ≡ (transaction_of r t).used.bytes
        → b ≡ journal_passes (transaction_of r t) (journal_of r) t n m → b ≡ records_in t
    its-records n m b is-n is_m e = e ∙ ap₂ (λ (i j : ℕ). journal_passes (transaction_of r t) (journal_of r) t i j) is-n is_m
        ∙ sym (or-begun (transaction_of r t).begun _ open-one)

-- ---- what is held of the last grant

module _ (r : List ℕ) where
  abbrev undo : Undo
  undo = (store_of r).undo

  abbrev found : Bool
  found = below (λ d. leb (get_or undo.offsets d 0) file_bytes) descriptor_count
      && below (λ f. leb (get_or undo.lengths f 0) file_bytes) file_count

  pub nothing-to-undo : undo.valid ≡ false → true ≡ undo_in undo (journal_of r)
  nothing-to-undo e = unfold undo_in in or-closed undo.valid _ e

  module _ (held : undo.valid ≡ true) where
    joined : (a b c d e : Bool) → a && b && c && d && e ≡ a && b && (c && d) && e
    joined true true c d e = refl
    joined true false c d e = refl
    joined false b c d e = refl

    valid-in : undo_in undo (journal_of r) ≡ leb undo.used.records record_count && leb undo.used.bytes
        log_bytes && found && grant_passes (journal_of r) undo.used.records undo.used.bytes
    valid-in = unfold undo_in in or-begun undo.valid _ held ∙ joined (leb undo.used.records record_count) _ _ _ _

    pub grant-records-fail : (n : ℕ) → n ≡ undo.used.records → record_count < n → false ≡ undo_in undo (journal_of r)
    grant-records-fail n e l = sym (valid-in ∙ rw (lt-leb undo.used.records record_count (rw e at l)))

    module _ (n m : ℕ) (is-n : n ≡ undo.used.records) (is_m : m ≡ undo.used.bytes) (few : n ≤ record_count) where
      pub grant-bytes-fail : log_bytes < m → false ≡ undo_in undo (journal_of r)
      grant-bytes-fail l = sym (valid-in ∙ rw (
        le-leb undo.used.records record_count (rw is-n at few),
        lt-leb undo.used.bytes log_bytes (rw is_m at l),
      ))

      module _ (fits : m ≤ log_bytes) where
        grant-counted : undo_in undo (journal_of r) ≡ found && grant_passes (journal_of r) n m
        grant-counted = rw (is-n, is_m) (valid-in ∙ rw (
          le-leb undo.used.records record_count (rw is-n at few),
          le-leb undo.used.bytes log_bytes (rw is_m at fits),
        ))

        pub found-fails : found ≡ false → false ≡ undo_in undo (journal_of r)
        found-fails e = sym (grant-counted ∙ rw e)

        pub grant-decides : (b : Bool) → found ≡ true → b ≡ grant_passes (journal_of r) n m → b ≡ undo_in undo (journal_of r)
        grant-decides b all e = e ∙ sym (grant-counted ∙ rw all)

-- ---- the whole record

-- No transaction is open, read by name.
pub none-decides : (r : List ℕ) → below (λ t. not (transaction_of r t).begun) 8 ≡ none_begun (store_of r)
none-decides r = unfold none_begun in below-same _ _ 8 (λ t h. rw (transaction-of r t h))

-- Where none is, each is in range.
closed_in : (r : List ℕ) (t : ℕ) → not (transaction_of r t).begun ≡ true
    → transaction_in (transaction_of r t) (journal_of r) t ≡ true
closed_in r t e = unfold transaction_in in rw e

pub none_in : (r : List ℕ) → none_begun (store_of r) ≡ true → true ≡ all_in r
none_in r e =
    sym (below_all _ 8 (λ t h. closed_in r t (below_at (λ u. not (transaction_of r u).begun) 8 t (none-decides r ∙ e) h)))

-- The starts and ends of the windows are minutes.
windows-decide : (s : StoreMeaning) → below (λ f. leb (window_at s f).start last_minute && leb (window_at s f).end
    last_minute) file_count ≡ below (λ f. window_in (window_at s f)) file_count
windows-decide s = unfold window_in minute_in in refl

-- Check 2, read by name, but for what is held of the last grant.
module _ (r : List ℕ) where
  abbrev tables_pass : Bool
  tables_pass = below (λ d. leb (get_or (store_of r).filenumbers d 0) last_file) descriptor_count
      && below (λ d. leb (get_or (store_of r).offsets d 0) file_bytes) descriptor_count
      && below (λ f. leb (get_or (store_of r).lengths f 0) file_bytes) file_count
      && below (λ f. leb (window_at (store_of r) f).start last_minute && leb (window_at (store_of r) f).end last_minute) file_count

  tables-decide : tables_in (store_of r) (journal_of r) ≡ tables_pass && all_in r
  tables-decide = unfold tables_in in rw (
    windows-decide (store_of r),
    below-same (λ t. transaction_in (transaction (store_of r) t) (journal_of r) t)
        (λ t. transaction_in (transaction_of r t) (journal_of r) t) 8 (λ t h. rw (transaction-of r t h)),
  )

  pub tables-fail : tables_pass ≡ false → false ≡ tables_in (store_of r) (journal_of r)
  tables-fail e = sym (tables-decide ∙ rw e)

  pub tables-pass : tables_pass ≡ true → (b : Bool) → b ≡ all_in r → b ≡ tables_in (store_of r) (journal_of r)
  tables-pass e b f = f ∙ sym (tables-decide ∙ rw e)

-- What the functions of src/lib.rt cite.
pub ruleset tests = (
  none_yet,
  one_more,
  empty-in,
  tables-pass,
  tables-fail,
  placed-decides,
  unplaced-out,
  nothing-to-undo,
  grant-records-fail,
  grant-bytes-fail,
  found-fails,
  grant-decides,
)
