-- None of the first k records has a byte for a file of the octet.
use mathlib.Core.{Bool.{Bool, ◌&&◌}, List.List, Path.{◌≡◌, sym, ap, ◌∙◌}}
use lib.{Dec.ltb, ListN.get_or}
use Prim.Native.Nat.{ℕ, ◌<◌}
use native.Mathlib.Omega.{arith}
use Rattle.limits.specs.Limits.{descriptor_count, file_count, record_count}
use Rattle.counters.specs.declared.Used.{Used}
use Rattle.buffers.specs.Marks.{contains}
use Rattle.state.specs.{declared.journal.WriteRecord.WriteRecord, Journal.write_record_at, Layout.{transaction_of, store_of, journal_of}}
use Rattle.admission.{specs.FirstRefusal.some_below, proofs.Laws.{some-none, some_more, some-found}}
use Rattle.commit_windows.specs.WindowCheck.{OpenIn, record_has_byte_for, has_byte_for}
use Rattle.commit_windows.proofs.ClosingLaws.{few-closing, closing-descriptor-in, file-in}
use Rattle.commit_windows.proofs.has_byte_for.Goals as goal

-- Write record k of transaction t, as it is read.
module _ (state : List ℕ) (t : ℕ) (o : OpenIn state t) (used : Used) (is : used ≡ (transaction_of state t).used)
    (k : ℕ) (h : k < used.records) where
  counted : k < (transaction_of state t).used.records
  counted = rw (← ap (λ (u : Used). u.records) is) h

  few : k < record_count
  few = omega (arith, few-closing state t o, counted)

  module _ (w : WriteRecord) (e : w ≡ write_record_at (journal_of state) t k) where
    descriptor : w.descriptor < descriptor_count
    descriptor = rw e (closing-descriptor-in state t o k counted)

    file : get_or (store_of state).filenumbers w.descriptor 0 < file_count
    file = file-in state t o w.descriptor descriptor

-- Its file, and what is tested of it.
located : (files : List ℕ) (d e file f : ℕ) → d ≡ e → file ≡ get_or files d 0 → f ≡ file → f ≡ get_or files e 0
located files d e file f a b c = cc

tested : (state : List ℕ) (t octet k : ℕ) (w : WriteRecord) → w ≡ write_record_at (journal_of state) t k → (f : ℕ)
    → f ≡ get_or (store_of state).filenumbers w.descriptor 0 → (b : Bool) → b ≡ contains octet f
    → record_has_byte_for state t octet k ≡ ltb 0 w.length && b
unfolding record_has_byte_for
tested state t octet k w e f at b is = ap (λ (w : WriteRecord). ltb 0 w.length
    && contains octet (get_or (store_of state).filenumbers w.descriptor 0)) (sym e)
    ∙ ap (λ (b : Bool). ltb 0 w.length && b) (sym (is ∙ ap (contains octet) at))

pub loop-k-init : goal.loop-k-init
loop-k-init c = some-none _

pub record_at-write-requires : goal.record_at-write-requires
record_at-write-requires c = (
  omega (arith, c.requires.small),
  few _ _ c.requires _ c.used_at-k-end.ensures c.loop-k.k c.loop-k-test.true,
)

pub file_at-requires : goal.file_at-requires
file_at-requires c = rw c.from.ensures
    (descriptor _ _ c.requires _ c.used_at-k-end.ensures c.loop-k.k c.loop-k-test.true _ c.record_at-write.ensures)

pub contains-requires : goal.contains-requires
contains-requires c = let small = file _ _ c.requires _ c.used_at-k-end.ensures c.loop-k.k c.loop-k-test.true _
    c.record_at-write.ensures in omega (arith, small, located _ _ _ _ _ c.from.ensures c.file_at.ensures c.from-f.ensures)

pub returns-then-write-contains : goal.returns-then-write-contains
unfolding has_byte_for
returns-then-write-contains c = sym (some-found (record_has_byte_for c.args.state.now c.args.t c.args.octet) _ c.loop-k.k
    (counted _ _ c.requires _ c.used_at-k-end.ensures c.loop-k.k c.loop-k-test.true)
    (tested _ _ _ c.loop-k.k _ c.record_at-write.ensures _ (located _ _ _ _ _ c.from.ensures c.file_at.ensures c.from-f.ensures) _
    c.contains.ensures ∙ c.if-write-contains.true))

pub loop-k-preserved : goal.loop-k-preserved
loop-k-preserved c = some_more (record_has_byte_for c.args.state.now c.args.t c.args.octet) c.loop-k.k c.loop-k.invariant
    (tested _ _ _ c.loop-k.k _ c.record_at-write.ensures _ (located _ _ _ _ _ c.from.ensures c.file_at.ensures c.from-f.ensures) _
    c.contains.ensures ∙ c.if-write-contains.false)

pub returns : goal.returns
unfolding has_byte_for
returns c = let is = ap (λ (u : Used). u.records) c.used_at-k-end.ensures in
    let all : c.loop-k.k ≡ (transaction_of c.args.state.now c.args.t).used.records = omega (arith, is) in
    sym (ap (some_below (record_has_byte_for c.args.state.now c.args.t c.args.octet)) (sym all) ∙ c.loop-k.invariant)
