-- Laws of the definitions in specs/: what a passed test of a call tells, and what the ranges say. Those of tests and sums by
-- index come from octets.
use Rattle.std.specs.declared.result.Result.TheVariants.{Ok, Err}
use mathlib.Core.{Bool.{Bool, true, false, cond, not, ◌&&◌, ◌||◌}, List.List, Path.{◌≡◌, refl, sym, ap, ◌∙◌}}
use lib.{Dec.{leb, eqb}, ListN.{get_or, length}}
use Prim.Native.Nat.{ℕ, suc, ◌+◌, ◌≤◌, ◌<◌}
use native.Mathlib.Omega.{arith}
use borrow.Author.Tests.{leb-true, le-leb, eqb-true, eq-eqb, not-true, not-false}
use Rattle.limits.specs.Limits.{file_count, last_file, file_bytes, buffer_bytes, descriptor_count, last_descriptor, transaction_count}
use Rattle.limits.specs.Limits.{last_transaction, record_count, log_bytes, undo_bytes}
use Rattle.windows.specs.Windows.{minute_in}
use Rattle.standings.specs.declared.{Standing.Standing, Place.{Place, TheVariants.{At, After}}}
use Rattle.standings.specs.Table.{advance, offset_of, place_number}
use Rattle.state.specs.declared.{Transaction.Transaction, Undo.Undo, StoreMeaning.StoreMeaning, journal.WriteRecord.WriteRecord}
use Rattle.state.specs.{StoreMeaning.{ended, transaction, standing_at, window_at}, Journal.{write_record_at, last_grant}}
use Rattle.state.specs.{Outcomes.number, declared.outcomes.Refusal.Refusal}
use Rattle.state.specs.declared.outcomes.Refusal.TheVariants.{BufferLength, RecordRange, NoSuchTransaction, NotOpen, AlreadyOpen}
use Rattle.state.specs.declared.outcomes.Refusal.TheVariants.{NoSuchTarget, ReaderTooShort, SeekPastEnd, WritePastEnd}
use Rattle.state.specs.declared.outcomes.Refusal.TheVariants.{RecordsFull, LogFull, AppendPastEnd, Stale, NoSuchFile, NoPlaceYet}
use Rattle.state.specs.declared.outcomes.Refusal.TheVariants.{ListTooLong, BadLine, StaleReader, NotAtRest, ScriptRange}
use Rattle.state.specs.declared.outcomes.Refusal.TheVariants.{FileClosed, NoSuchMinute, StillOpen, NoGrant, NotReady, BadList}
use Rattle.state.specs.declared.outcomes.Refusal.TheVariants.{BadBudget}
use Rattle.admission.specs.FirstRefusal.{below, unless}
use Rattle.admission.specs.Admission.{standing_in, ends_within, place_in, record_in, lengths_before, journal_in, transaction_in}
use Rattle.admission.specs.Admission.{window_in, tables_in, landed_in, grant_passes, undo_in, store_in, sizes_in}
use Rattle.admission.specs.declared.Sizes.{Sizes}
use Rattle.admission.specs.Admission.{first_tests, shared, window_refusal, admission_of_window, none_begun, admission_of_undo}
use Rattle.admission.specs.Admission.{Gate, admission_of_dispatch, admission_of_fresh, gate_number}
pub use Rattle.buffers.proofs.BelowLaws.{and_left, and_right, and_both, and-true}
pub use Rattle.buffers.proofs.BelowLaws.{below-zero, below_more, below_at, below_all, below_fails, below-same}
pub use Rattle.buffers.proofs.BelowLaws.{some-none, some_more, some-found, sum-zero, sum_more, sum_same}

-- Three tests joined by &&.
and-three : (a b c : Bool) → a && b && c ≡ true → (a ≡ true) × (b ≡ true) × (c ≡ true)
and-three a b c e = let f = and_left (a && b) c e in (and_left a b f, and_right a b f, and_right (a && b) c e)

-- A test r whose value is q, and what `if !r` tells of q.
pub failed : {r q : Bool} → r ≡ q → not r ≡ true → q ≡ false
failed e h = sym e ∙ not-true _ h

pub test-held : {r q : Bool} → r ≡ q → not r ≡ false → q ≡ true
test-held e h = sym e ∙ not-false _ h

-- A test under a condition.
or_right : (a b : Bool) → a ≡ true → not a || b ≡ true → b ≡ true
or_right true b e f = f
or_right false b e f = cc

or-intro : (a b : Bool) → (a ≡ true → b ≡ true) → not a || b ≡ true
or-intro true b h = h refl
or-intro false b h = refl

-- Refusals 1 and 2, from the tests in the table's order, and what comes after them.
module _ (z : Sizes) (s : StoreMeaning) (journal : List ℕ) (later : ℕ) where
  pub first-lengths : sizes_in z ≡ false → 1 ≡ first_tests z s journal later
  first-lengths e = unfold first_tests unless in rw e

  pub first-ranges : sizes_in z ≡ true → store_in s journal ≡ false → 2 ≡ first_tests z s journal later
  first-ranges lengths e = unfold first_tests unless in rw (lengths, e)

  pub first-later : sizes_in z ≡ true → store_in s journal ≡ true → first_tests z s journal later ≡ later
  first-later lengths ranges = unfold first_tests unless in rw (lengths, ranges)

-- The tests after 1 and 2 decide where these pass, and where not they don't matter.
module _ (z : Sizes) (s : StoreMeaning) (journal : List ℕ) where
  first-passed : (later : ℕ) → first_tests z s journal 0 ≡ 0 → first_tests z s journal later ≡ later
  unfolding first_tests unless
  first-passed later e = pick (sizes_in z) (store_in s journal) e
    where
      pick : (a b : Bool) → ◌≡◌ {A = ℕ} (cond a (cond b 0 2) 1) 0 → cond a (cond b later 2) 1 ≡ later
      pick true true e = refl
      pick true false e = absurd (omega arith)
      pick false b e = absurd (omega arith)

  first-refused : (later n : ℕ) → n ≡ first_tests z s journal 0 → 0 < n → first_tests z s journal later ≡ n
  unfolding first_tests unless
  first-refused later n e h = pick (sizes_in z) (store_in s journal) e
    where
      pick : (a b : Bool) → n ≡ cond a (cond b 0 2) 1 → cond a (cond b later 2) 1 ≡ n
      pick true true e = absurd (omega arith)
      pick true false e = sym e
      pick false b e = sym e

-- A refusal's number is not 0.
pub number-suc : (r : Refusal) → (k : ℕ) × (number r ≡ suc k)
number-suc BufferLength = (0, refl)
number-suc RecordRange = (1, refl)
number-suc NoSuchTransaction = (2, refl)
number-suc NotOpen = (3, refl)
number-suc AlreadyOpen = (4, refl)
number-suc NoSuchTarget = (5, refl)
number-suc ReaderTooShort = (6, refl)
number-suc SeekPastEnd = (7, refl)
number-suc WritePastEnd = (8, refl)
number-suc RecordsFull = (9, refl)
number-suc LogFull = (10, refl)
number-suc AppendPastEnd = (11, refl)
number-suc Stale = (12, refl)
number-suc NoSuchFile = (13, refl)
number-suc NoPlaceYet = (14, refl)
number-suc ListTooLong = (15, refl)
number-suc BadLine = (16, refl)
number-suc StaleReader = (17, refl)
number-suc NotAtRest = (18, refl)
number-suc ScriptRange = (19, refl)
number-suc FileClosed = (20, refl)
number-suc NoSuchMinute = (21, refl)
number-suc StillOpen = (22, refl)
number-suc NoGrant = (23, refl)
number-suc NotReady = (24, refl)
number-suc BadList = (25, refl)
number-suc BadBudget = (26, refl)

-- What the gate of tests 1 and 2 tells of those after them.
module _ (g : Gate) (z : Sizes) (s : StoreMeaning) (journal : List ℕ) (says : gate_number g ≡ first_tests z s journal 0)
    (later : ℕ) where
  pub gate-before : (r : Refusal) → g ≡ Err r → number r ≡ first_tests z s journal later
  gate-before r e = unfold gate_number in let n = number-suc r in
      sym (first-refused z s journal later (number r) (sym (ap gate_number e) ∙ says) (let q = n.1 in omega arith))

  pub gate-after : (n : ℕ) → g ≡ Ok tt → n ≡ later → n ≡ first_tests z s journal later
  gate-after n e h = unfold gate_number in h ∙ sym (first-passed z s journal later (sym says ∙ ap gate_number e))

-- A test of a call that passed, and the tests after it.
pub unless-zero : (ok : Bool) (n later : ℕ) → 0 < n → unless ok n later ≡ 0 → (ok ≡ true) × (later ≡ 0)
unfolding unless
unless-zero true n later l e = (refl, e)
unless-zero false n later l e = absurd (let f : n ≡ 0 = e in omega arith)

-- The store buffers have 32,768 bytes each, that of the old bytes 4,096.
pub record Lengths (z : Sizes) : Type 0 where
  pub files : z.files ≡ buffer_bytes
  pub logs : z.logs ≡ buffer_bytes
  pub marks : z.marks ≡ buffer_bytes
  pub undo : z.undo ≡ undo_bytes

lengths-in : (z : Sizes) → sizes_in z ≡ true → Lengths z
unfolding sizes_in
lengths-in z e = let last = and-three (eqb z.files buffer_bytes && eqb z.logs buffer_bytes) (eqb z.marks buffer_bytes)
    (eqb z.undo undo_bytes) e in record {
      files = eqb-true _ _ (and_left _ (eqb z.logs buffer_bytes) last.0);
      logs = eqb-true _ _ (and_right (eqb z.files buffer_bytes) _ last.0);
      marks = eqb-true _ _ last.1;
      undo = eqb-true _ _ last.2;
    }

-- Tests 1 and 2 passed, and those after them.
pub first-zero : (z : Sizes) (s : StoreMeaning) (journal : List ℕ) (later : ℕ) → first_tests z s journal later ≡ 0
    → Lengths z × (store_in s journal ≡ true) × (later ≡ 0)
first-zero z s journal later e = unfold first_tests in let a = unless-zero (sizes_in z) 1 _ (omega arith) e in
    let b = unless-zero (store_in s journal) 2 later (omega arith) a.1 in (lengths-in z a.0, b.0, b.1)

-- What a passed gate tells, and then whether the transaction is open.
pub record Admitted (z : Sizes) (s : StoreMeaning) (journal : List ℕ) (t : ℕ) : Type 0 where
  pub lengths : Lengths z
  pub ranges : store_in s journal ≡ true
  pub small : t < transaction_count

module _ (z : Sizes) (s : StoreMeaning) (journal : List ℕ) (t : ℕ) where
  pub shared-zero : (later : ℕ) → shared z s journal t later ≡ 0 → Admitted z s journal t × (later ≡ 0)
  shared-zero later e = unfold shared in let a = first-zero z s journal _ e in
      let c = unless-zero (leb t last_transaction) 3 later (omega arith) a.2 in
      let l = leb-true t last_transaction c.0 in (record { lengths = a.0; ranges = a.1; small = omega arith }, c.1)

  -- The tests after 1 to 3 decide where these pass, and where not they don't matter.
  pub shared-passed : (later : ℕ) → shared z s journal t 0 ≡ 0 → shared z s journal t later ≡ later
  unfolding shared first_tests unless
  shared-passed later e = pick (sizes_in z) (store_in s journal) (leb t last_transaction) e
    where
      pick : (a b c : Bool) → ◌≡◌ {A = ℕ} (cond a (cond b (cond c 0 3) 2) 1) 0 → cond a (cond b (cond c later 3) 2) 1 ≡ later
      pick true true true e = refl
      pick true true false e = absurd (omega arith)
      pick true false c e = absurd (omega arith)
      pick false b c e = absurd (omega arith)

  pub shared-refused : (later n : ℕ) → n ≡ shared z s journal t 0 → 0 < n → shared z s journal t later ≡ n
  unfolding shared first_tests unless
  shared-refused later n e h = pick (sizes_in z) (store_in s journal) (leb t last_transaction) e
    where
      pick : (a b c : Bool) → n ≡ cond a (cond b (cond c 0 3) 2) 1 → cond a (cond b (cond c later 3) 2) 1 ≡ n
      pick true true true e = absurd (omega arith)
      pick true true false e = sym e
      pick true false c e = sym e
      pick false b c e = sym e

-- What passed tests of the setting of a window tell.
pub record AdmittedWindow (z : Sizes) (s : StoreMeaning) (journal : List ℕ) (f start end : ℕ) : Type 0 where
  pub lengths : Lengths z
  pub ranges : store_in s journal ≡ true
  pub small : f < file_count
  pub minutes : minute_in start && minute_in end ≡ true

pub admitted-window : (z : Sizes) (s : StoreMeaning) (journal : List ℕ) (f start end : ℕ)
    → admission_of_window z s journal f start end ≡ 0 → AdmittedWindow z s journal f start end
admitted-window z s journal f start end e = unfold admission_of_window window_refusal in let a = first-zero z s journal _ e in
    let c = unless-zero (leb f last_file) 6 _ (omega arith) a.2 in
    let d = unless-zero (minute_in start && minute_in end) 22 0 (omega arith) c.1 in let l = leb-true f last_file c.0 in
    record { lengths = a.0; ranges = a.1; small = omega arith; minutes = d.0 }

-- What passed tests of an undo tell.
pub record AdmittedUndo (z : Sizes) (s : StoreMeaning) (journal : List ℕ) : Type 0 where
  pub lengths : Lengths z
  pub ranges : store_in s journal ≡ true
  pub idle : (t : ℕ) → t < transaction_count → (transaction s t).begun ≡ false
  pub valid : s.undo.valid ≡ true

pub admitted-undo : (z : Sizes) (s : StoreMeaning) (journal : List ℕ) → admission_of_undo z s journal ≡ 0 → AdmittedUndo z s journal
admitted-undo z s journal e = unfold admission_of_undo none_begun in let a = first-zero z s journal _ e in
    let c = unless-zero (below (λ t. not (transaction s t).begun) 8) 23 _ (omega arith) a.2 in
    let d = unless-zero s.undo.valid 24 0 (omega arith) c.1 in record {
      lengths = a.0;
      ranges = a.1;
      idle = λ t l. not-true _ (below_at (λ t. not (transaction s t).begun) 8 t c.0 l);
      valid = d.0;
    }

-- What passed tests of the dispatcher tell.
pub record AdmittedDispatch (z : Sizes) (s : StoreMeaning) (journal : List ℕ) (scripts : Bool) : Type 0 where
  pub lengths : Lengths z
  pub ranges : store_in s journal ≡ true
  pub idle : (t : ℕ) → t < transaction_count → (transaction s t).begun ≡ false
  pub pass : scripts ≡ true

pub admitted-dispatch : (z : Sizes) (s : StoreMeaning) (journal : List ℕ) (scripts : Bool)
    → admission_of_dispatch z s journal scripts ≡ 0 → AdmittedDispatch z s journal scripts
unfolding admission_of_dispatch first_tests none_begun
admitted-dispatch z s journal scripts e = let a = unless-zero (sizes_in z) 1 _ (omega arith) e in
    let b = unless-zero (store_in s journal) 2 _ (omega arith) a.1 in
    let c = unless-zero (below (λ t. not (transaction s t).begun) 8) 19 _ (omega arith) b.1 in
    let d = unless-zero scripts 20 0 (omega arith) c.1 in record {
      lengths = lengths-in z a.0;
      ranges = b.0;
      idle = λ t l. not-true _ (below_at (λ t. not (transaction s t).begun) 8 t c.0 l);
      pass = d.0;
    }

pub record AdmittedFresh (z : Sizes) (xs : List ℕ) : Type 0 where
  pub lengths : Lengths z
  pub sixteen : length xs ≡ 16
  pub numbers : (d : ℕ) → d < descriptor_count → get_or xs d 0 ≤ last_file

pub admitted-fresh : (z : Sizes) (numbers : List ℕ) → admission_of_fresh z numbers ≡ 0 → AdmittedFresh z numbers
unfolding admission_of_fresh
admitted-fresh z numbers e = let a = unless-zero (sizes_in z && eqb (length numbers) 16) 1 _ (omega arith) e in
    let b = unless-zero (below (λ d. leb (get_or numbers d 0) last_file) descriptor_count) 14 0 (omega arith) a.1 in record {
      lengths = lengths-in z (and_left _ (eqb (length numbers) 16) a.0);
      sixteen = eqb-true _ _ (and_right (sizes_in z) _ a.0);
      numbers = λ d l. leb-true _ _ (below_at (λ d. leb (get_or numbers d 0) last_file) descriptor_count d b.0 l);
    }

-- "in each open transaction": what the ranges say of transaction x with number t, begun.
pub record TransactionInRange (x : Transaction) (journal : List ℕ) (t : ℕ) : Type 0 where
  pub standings : (d : ℕ) → d < descriptor_count → standing_in (standing_at x d) ≡ true
  pub records : x.used.records ≤ record_count
  pub bytes : x.used.bytes ≤ log_bytes
  pub total : lengths_before journal t x.used.records ≡ x.used.bytes
  pub writes : (k : ℕ) → k < x.used.records → record_in x (write_record_at journal t k) ≡ true

-- While a grant is held: its records, their places, and the offsets and lengths that it found.
pub record UndoInRange (u : Undo) (journal : List ℕ) : Type 0 where
  pub records : u.used.records ≤ record_count
  pub bytes : u.used.bytes ≤ log_bytes
  pub total : lengths_before journal last_grant u.used.records ≡ u.used.bytes
  pub writes : (k : ℕ) → k < u.used.records → landed_in (write_record_at journal last_grant k) ≡ true
  pub offsets : (d : ℕ) → d < descriptor_count → get_or u.offsets d 0 ≤ file_bytes
  pub lengths : (f : ℕ) → f < file_count → get_or u.lengths f 0 ≤ file_bytes

module _ (u : Undo) (journal : List ℕ) where
  pub undo-in : undo_in u journal ≡ true → u.valid ≡ true → UndoInRange u journal
  undo-in e b = unfold undo_in grant_passes in let n = u.used.records in
      let offsets = below (λ d. leb (get_or u.offsets d 0) file_bytes) descriptor_count in
      let lengths = below (λ f. leb (get_or u.lengths f 0) file_bytes) file_count in
      let writes = below (λ k. landed_in (write_record_at journal last_grant k)) n in
      let adds = eqb (lengths_before journal last_grant n) u.used.bytes in
      let first = leb n record_count && leb u.used.bytes log_bytes in
      let all = and-three (first && offsets) lengths (writes && adds)
      (or_right u.valid (first && offsets && lengths && (writes && adds)) b e) in
      let three = and-three (leb n record_count) (leb u.used.bytes log_bytes) offsets all.0 in record {
        records = leb-true _ _ three.0;
        bytes = leb-true _ _ three.1;
        total = eqb-true _ _ (and_right writes adds all.2);
        writes = λ k l. below_at (λ k. landed_in (write_record_at journal last_grant k)) n k (and_left writes adds all.2) l;
        offsets =
            λ d l. leb-true _ _ (below_at (λ d. leb (get_or u.offsets d 0) file_bytes) descriptor_count d three.2 l);
        lengths = λ f l. leb-true _ _ (below_at (λ f. leb (get_or u.lengths f 0) file_bytes) file_count f all.1 l);
      }

  pub undo-in-intro : (u.valid ≡ true → UndoInRange u journal) → undo_in u journal ≡ true
  unfolding undo_in grant_passes
  undo-in-intro h = or-intro u.valid _ (λ b. let r =
      h b in and_both _ _ (and_both _ _ (and_both _ _ (and_both _ _ (le-leb _ _ r.records) (le-leb _ _ r.bytes))
      (below_all (λ d. leb (get_or u.offsets d 0) file_bytes) descriptor_count (λ d l. le-leb _ _ (r.offsets d l))))
      (below_all (λ f. leb (get_or u.lengths f 0) file_bytes) file_count (λ f l. le-leb _ _ (r.lengths f l))))
      (and_both _ _ (below_all (λ k. landed_in (write_record_at journal last_grant k)) _ r.writes) (eq-eqb _ _ r.total)))

-- What the ranges say of the record.
pub record InRange (s : StoreMeaning) (journal : List ℕ) : Type 0 where
  pub files : (d : ℕ) → d < descriptor_count → get_or s.filenumbers d 0 ≤ last_file
  pub offsets : (d : ℕ) → d < descriptor_count → get_or s.offsets d 0 ≤ file_bytes
  pub lengths : (f : ℕ) → f < file_count → get_or s.lengths f 0 ≤ file_bytes
  pub windows : (f : ℕ) → f < file_count → window_in (window_at s f) ≡ true
  pub undo : s.undo.valid ≡ true → UndoInRange s.undo journal
  pub transactions : (t : ℕ) → t < transaction_count → (transaction s t).begun ≡ true
      → TransactionInRange (transaction s t) journal t

module _ (x : Transaction) (journal : List ℕ) (t : ℕ) where
  pub transaction-in : transaction_in x journal t ≡ true → x.begun ≡ true → TransactionInRange x journal t
  transaction-in e b = unfold transaction_in journal_in in let u = x.used in
      let both = or_right x.begun (below (λ d. standing_in (standing_at x d)) descriptor_count && journal_in x journal t) b
      e in let writes = below (λ k. record_in x (write_record_at journal t k)) u.records in
      let adds = eqb (lengths_before journal t u.records) u.bytes in
      let three = and-three (leb u.records record_count && writes) adds (leb u.bytes log_bytes)
      (and_right (below (λ d. standing_in (standing_at x d)) descriptor_count) _ both) in record {
        standings = λ d l. below_at (λ d. standing_in (standing_at x d)) descriptor_count d
            (and_left _ (journal_in x journal t) both) l;
        records = leb-true _ _ (and_left _ writes three.0);
        bytes = leb-true _ _ three.2;
        total = eqb-true _ _ three.1;
        writes = λ k l. below_at (λ k. record_in x (write_record_at journal t k)) u.records k
            (and_right (leb u.records record_count) _ three.0) l;
      }

  transaction-in-intro : (x.begun ≡ true → TransactionInRange x journal t) → transaction_in x journal t ≡ true
  transaction-in-intro h = unfold transaction_in journal_in in
      or-intro x.begun _ (λ b. let r = h b in and_both _ _ (below_all (λ d. standing_in (standing_at x d)) descriptor_count
      r.standings) (and_both _ _ (and_both _ _ (and_both _ _ (le-leb _ _ r.records) (below_all (λ k. record_in x
      (write_record_at journal t k)) _ r.writes)) (eq-eqb _ _ r.total)) (le-leb _ _ r.bytes)))

pub in-range : (s : StoreMeaning) (journal : List ℕ) → store_in s journal ≡ true → InRange s journal
unfolding store_in tables_in
in-range s journal e = let files = below (λ d. leb (get_or s.filenumbers d 0) last_file) descriptor_count in
    let offsets = below (λ d. leb (get_or s.offsets d 0) file_bytes) descriptor_count in
    let lengths = below (λ f. leb (get_or s.lengths f 0) file_bytes) file_count in
    let windows = below (λ f. window_in (window_at s f)) file_count in
    let last = and-three (files && offsets && lengths) windows (below (λ t. transaction_in (transaction s t) journal t) 8)
    (and_left (tables_in s journal) (undo_in s.undo journal) e) in let first = and-three files offsets lengths last.0 in
    record {
      files = λ d l. leb-true _ _ (below_at (λ d. leb (get_or s.filenumbers d 0) last_file) descriptor_count d first.0 l);
      offsets = λ d l. leb-true _ _ (below_at (λ d. leb (get_or s.offsets d 0) file_bytes) descriptor_count d first.1 l);
      lengths = λ f l. leb-true _ _ (below_at (λ f. leb (get_or s.lengths f 0) file_bytes) file_count f first.2 l);
      windows = λ f l. below_at (λ f. window_in (window_at s f)) file_count f last.1 l;
      undo = undo-in s.undo journal (and_right (tables_in s journal) (undo_in s.undo journal) e);
      transactions = λ t l b. transaction-in (transaction s t) journal t
          (below_at (λ t. transaction_in (transaction s t) journal t) 8 t last.2 l) b;
    }

pub in-range-intro : (s : StoreMeaning) (journal : List ℕ) → InRange s journal → store_in s journal ≡ true
in-range-intro s journal r = unfold store_in tables_in in
    and_both _ _ (and_both _ _ (and_both _ _ (and_both _ _ (and_both _ _ (below_all (λ d. leb (get_or s.filenumbers d 0)
    last_file) descriptor_count (λ d l. le-leb _ _ (r.files d l))) (below_all (λ d. leb (get_or s.offsets d 0) file_bytes)
    descriptor_count (λ d l. le-leb _ _ (r.offsets d l)))) (below_all (λ f. leb (get_or s.lengths f 0) file_bytes) file_count
    (λ f l. le-leb _ _ (r.lengths f l)))) (below_all (λ f. window_in (window_at s f)) file_count r.windows))
    (below_all (λ t. transaction_in (transaction s t) journal t) 8 (λ t l. transaction-in-intro (transaction s t) journal t
    (r.transactions t l)))) (undo-in-intro s.undo journal r.undo)

-- What the ranges say of a write record: its descriptor, and its place under that descriptor's standing.
pub record RecordInRange (x : Transaction) (w : WriteRecord) : Type 0 where
  pub descriptor : w.descriptor ≤ last_descriptor
  pub place : place_in (standing_at x w.descriptor) w.place w.length ≡ true

pub record-in : (x : Transaction) (w : WriteRecord) → record_in x w ≡ true → RecordInRange x w
unfolding record_in
record-in x w e = let d = w.descriptor in let within = place_in (standing_at x d) w.place w.length in record {
  descriptor = leb-true _ _ (and_left (leb d last_descriptor) within e);
  place = and_right (leb d last_descriptor) within e;
}

-- A standing is in range where the numbers that it carries are.
pub standing-numbers : (z : Standing) → standing_in z ≡ leb (advance z) file_bytes && leb (offset_of z) file_bytes
standing-numbers z = unfold standing_in in refl

-- A place in range ends at most at 4,096; without a place, also within the standing's advance.
pub place_end : (z : Standing) (q : Place) (n : ℕ) → place_in z q n ≡ true → place_number q + n ≤ file_bytes
unfolding place_in
place_end z (At p) n e = leb-true _ _ e
place_end z (After a) n e = leb-true _ _ (and_left (leb (a + n) file_bytes) (ends_within z (a + n)) e)

-- A record of the last grant in range: its descriptor, and where it ends.
pub landed-in : (w : WriteRecord) → landed_in w ≡ true → (w.descriptor ≤ last_descriptor)
    × (place_number w.place + w.length ≤ file_bytes)
landed-in w e = unfold landed_in in let r = record-in ended w e in
    (r.descriptor, place_end (standing_at ended w.descriptor) w.place w.length r.place)

pub landed-in-intro : (d p n : ℕ) → d ≤ last_descriptor → p + n ≤ file_bytes
    → landed_in (record { descriptor = d; place = At p; length = n }) ≡ true
landed-in-intro d p n l m = unfold landed_in record_in place_in in and_both _ _ (le-leb _ _ l) (le-leb _ _ m)

pub place-within : (z : Standing) (a n : ℕ) → place_in z (After a) n ≡ true → ends_within z (a + n) ≡ true
place-within z a n e = unfold place_in in and_right (leb (a + n) file_bytes) (ends_within z (a + n)) e

-- What the gates of src/lib.rt cite.
pub ruleset first = (first-lengths, first-ranges, first-later)

pub ruleset gates = (gate-before, gate-after)
