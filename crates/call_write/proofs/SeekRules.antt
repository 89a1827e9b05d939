-- The rule of Seek after each of its tests.
use Rattle.std.specs.declared.result.Result.TheVariants.{Ok}
use mathlib.Core.{Bool.true, List.{List, []}, Path.{◌≡◌, refl, sym, ap, ap₂, ◌∙◌}}
use borrow.Author.Tests.{le-leb, lt-leb}
use lib.{Dec.leb, ListN.{set, length}}
use native.Mathlib.Omega.{arith}
use Prim.Native.Nat.{ℕ, ◌≤◌, ◌<◌}
use Rattle.limits.specs.Limits.{file_bytes, last_descriptor}
use Rattle.state.specs.StoreMeaning.{transaction, standing_at, with_descriptors, with_transaction}
use Rattle.state.specs.{Layout.{transaction_of, store_of, journal_of, state_length}, Updates.{StandingFits, with_descriptor_at}}
use Rattle.state.proofs.LayoutLaws.{length-journal, transaction-of, store-with-descriptor, journal-with-descriptor}
use Rattle.state.specs.{Outcomes.{done_answer, said}, declared.{outcomes.Answer.TheVariants.{Done}, Descriptor.Descriptor}}
use Rattle.state.specs.declared.{Transaction.Transaction, StoreMeaning.StoreMeaning}
use Rattle.standings.specs.{declared.Standing.Standing, Table.after_seek}
use Rattle.admission.specs.Admission.{admission}
use Rattle.spec.specs.{Transactions.dirtied, Messages.{seek, buffer_of, on}, Steps.{step, seek_step, is_read_call, refuses_stale}}
use Rattle.spec.specs.{Machine.{Machine, lent, with_store, sizes, txn_of}, Calls.{Turn, refuse_turn, logged, call}}
use Rattle.spec.{proofs.Refinement.StandingRanges.seek-in, specs.Promises.{Meets, machine_of, LeftAsFound}}
use Rattle.refinement.proofs.{Shapes.shaped, Fitting.standing-fits, Decoded.{Opened, decoded-open}}
use Rattle.refinement.proofs.Encoded.{txn-dirtied, writes-same}
use Rattle.refinement.proofs.TurnLaws.{LetThrough, on-refused, on-accepted, check-held, check-failed, done-follows}

module _ (t d v : ℕ) (m : Machine) (passes : admission (sizes m) m.store m.journal t ≡ 0) where
  pub seek-no-descriptor : last_descriptor < d → call (on t (seek d v)) m ≡ refuse_turn 6 [] m
  unfolding step seek_step buffer_of
  seek-no-descriptor h = on-refused t (seek d v) m passes (unfold refuses_stale is_read_call in refl) 6
      (check-failed (leb d last_descriptor) 6 _ (lt-leb d last_descriptor h))

  pub seek-past-end : d ≤ last_descriptor → file_bytes < v → call (on t (seek d v)) m ≡ refuse_turn 8 [] m
  unfolding step seek_step buffer_of
  seek-past-end h g = on-refused t (seek d v) m passes (unfold refuses_stale is_read_call in refl) 8 (check-held
      (leb d last_descriptor) 6 _ (le-leb d last_descriptor h) ∙ check-failed (leb v file_bytes) 8 _ (lt-leb v file_bytes g))

  -- An accepted Seek sets the standing of d and makes d dirty, and nothing else.
  seek-meets : Opened m.store m.journal m.logs t → d ≤ last_descriptor → v ≤ file_bytes → let x =
      transaction m.store t in
      let after = with_transaction t
      (with_descriptors (set x.descriptors d (record { standing = after_seek v (standing_at x d); dirty = true })) x)
      m.store in Meets (call (on t (seek d v)) m) (Ok Done) (with_store after m) []
  unfolding step seek_step said txn_of logged
  seek-meets o h g = let z = after_seek v (standing_at (transaction m.store t) d) in
      let e = on-accepted t (seek d v) m passes (unfold refuses_stale is_read_call in refl)
      (dirtied d z (txn_of m.store m.journal m.logs t)) done_answer [] (check-held (leb d last_descriptor) 6 _
      (le-leb d last_descriptor h) ∙ check-held (leb v file_bytes) 8 _ (le-leb v file_bytes g)) in record {
        outcome = sym (ap (λ (w : Turn). w.reply.answer) e);
        machine = sym (ap (λ (w : Turn). w.after) e ∙ ap₂ (λ (s : StoreMeaning) (j : List ℕ). lent s j m.files
            m.logs m.marks m.undo) (txn-dirtied m.store m.journal m.logs t o d z (omega arith))
            (writes-same m.store m.journal m.logs t o));
        reader = sym (ap (λ (w : Turn). w.reply.buffer) e);
      }

-- The record with descriptor d put back, as the code puts it.
module _ (t d v : ℕ) (state files logs marks undo : List ℕ) (long : length state ≡ state_length) (few : d ≤ last_descriptor)
    (within : v ≤ file_bytes) where
  abbrev handed_over : Machine
  handed_over = machine_of state files logs marks undo

  open-here : LetThrough handed_over t → (transaction (store_of state) t).begun ≡ true
      → Opened (store_of state) (journal_of state) logs t
  open-here through begun = decoded-open handed_over t (shaped state) (length-journal state) through begun

  -- By check 2 and the test of v, the standing that is put has room in the record.
  pub seek-fits : LetThrough handed_over t → (transaction (store_of state) t).begun ≡ true
      → (z y : Standing) → z ≡ standing_at (transaction_of state t) d → y ≡ after_seek v z → StandingFits y
  seek-fits through begun z y is-z is_y = let own =
      ap (λ (u : Transaction). standing_at u d) (sym (transaction-of state t through.small)) in
      standing-fits y (rw (is_y, is-z, own) (seek-in v (standing_at (transaction (store_of state) t) d) within
      ((open-here through begun).ranges.standings d (omega arith))))

  pub seek-follows : admission (sizes handed_over) (store_of state) (journal_of state) t ≡ 0 → LetThrough handed_over t
      → (transaction (store_of state) t).begun ≡ true
      → (z y : Standing) → z ≡ standing_at (transaction_of state t) d → y ≡ after_seek v z
      → (after : List ℕ) → after ≡ with_descriptor_at state t d (record { standing = y; dirty = true })
      → Meets (call (on t (seek d v)) handed_over) (Ok Done) (machine_of after files logs marks undo) [] × LeftAsFound (Ok Done) state after
  seek-follows passes through begun z y is-z is_y after is-after = let small = through.small in
      let x = transaction (store_of state) t in let q : Descriptor = record { standing = y; dirty = true } in
      let o = open-here through begun in
      let e = ap store_of is-after ∙ store-with-descriptor state t d q long small (omega arith)
      ∙ ap (λ (w : Standing). with_transaction t
      (with_descriptors (set x.descriptors d (record { standing = w; dirty = true })) x) (store_of state)) (is_y
      ∙ ap (after_seek v) (is-z ∙ ap (λ (u : Transaction). standing_at u d) (sym (transaction-of state t small)))) in
      let f = ap journal_of is-after ∙ journal-with-descriptor state t d q long small (omega arith) in
      (rw (e, f) (seek-meets t d v handed_over passes o few within), done-follows state after)
