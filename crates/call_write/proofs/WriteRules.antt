-- The rule of Write after each of its tests.
use Rattle.std.specs.declared.result.Result.TheVariants.{Ok}
use mathlib.Core.{Bool.{Bool, true, false}, List.{List, []}, Path.{◌≡◌, refl, sym, ap, ap₂, ◌∙◌}}
use borrow.Author.Tests.{le-leb, lt-leb, leb-true}
use lib.{Dec.leb, ListN.{length, set}}
use native.Mathlib.Omega.{arith}
use Prim.Native.Nat.{ℕ, ◌+◌, ◌*◌, ◌≤◌, ◌<◌}
use Rattle.limits.specs.Limits.{file_bytes, descriptor_count, last_descriptor, transaction_count, record_count, log_bytes}
use Rattle.buffers.specs.Parts.{pasted}
use Rattle.counters.specs.declared.Used.{Used}
use Rattle.standings.specs.declared.{Place.Place, Standing.{Standing, TheVariants.{Untouched, Placed, Deferred, Moved, Known}}}
use Rattle.standings.specs.Table.{place_number, after_write, write_place}
use Rattle.state.specs.declared.{outcomes.{Refusal.Refusal, Answer.TheVariants.{Done}}, Descriptor.Descriptor}
use Rattle.state.specs.declared.{Transaction.Transaction, StoreMeaning.StoreMeaning, journal.WriteRecord.WriteRecord}
use Rattle.state.specs.{StoreMeaning.{transaction, standing_at, with_used, with_descriptors, with_transaction}, Journal.with_record_at}
use Rattle.state.specs.Layout.{transaction_of, store_of, journal_of, state_length}
use Rattle.state.specs.{Updates.{StandingFits, with_descriptor_at, with_used_at}, Outcomes.{done_answer, said, number}}
use Rattle.state.proofs.JournalLaws.{length-with-at}
use Rattle.state.proofs.LayoutLaws.{length-journal, transaction-of, store-with-record, journal-with-record, store-with-used}
use Rattle.state.proofs.LayoutLaws.{journal-with-used, length-with-used, store-with-descriptor, journal-with-descriptor}
use Rattle.admission.specs.{Admission.{admission, standing_in}, FirstRefusal.unless}
use Rattle.admission.proofs.Laws.{and_left, and_right, number-suc}
use Rattle.spec.specs.{Items.{Prog, done}, Messages.{write, buffer_of, on}}
use Rattle.spec.specs.Steps.{Stepped, refuse, accept, check, step, write_step, written, is_read_call, refuses_stale}
use Rattle.spec.specs.{Machine.{Machine, lent, sizes, file_of, txn_of, record_of}, Calls.{Turn, refuse_turn, logged, call}}
use Rattle.spec.{specs.Promises.{Meets, machine_of, LeftAsFound}, proofs.Refinement.Decode.{decoded-count, decoded-total}}
use Rattle.spec.proofs.Refinement.StandingRanges.{write-in}
use Rattle.refinement.proofs.{Shapes.{shaped, eight, shape-put-twice}, Fitting.standing-fits, Decoded.{Opened, decoded-open}}
use Rattle.refinement.proofs.Encoded.{txn-written, writes_more}
use Rattle.refinement.proofs.TurnLaws.{LetThrough, on-refused, on-accepted, check-held, check-failed, done-follows}
use Rattle.call_write.specs.Writes.{write_refusal, WriteRoom, store_written, journal_written}

-- ---- the room

-- Three tests in a row: the number of the first that fails, and the step that they guard.
module _ (i j k : ℕ) where
  three-refused : (a b c : Bool) (p : Prog Stepped) (r : Refusal) → number r ≡ unless a i (unless b j (unless c k 0))
      → check a i (check b j (check c k p)) ≡ done (refuse (number r))
  unfolding check unless
  three-refused false b c p r e = rw e
  three-refused true false c p r e = rw e
  three-refused true true false p r e = rw e
  three-refused true true true p r e = absurd (omega (arith, (number-suc r).1, e))

  three-held : (a b c : Bool) → 0 < i → 0 < j → 0 < k → unless a i (unless b j (unless c k 0)) ≡ 0 → (a ≡ true) × (b ≡ true)
      × (c ≡ true)
  unfolding unless
  three-held false b c hi hj hk e = absurd (let f : i ≡ 0 = e in omega arith)
  three-held true false c hi hj hk e = absurd (let f : j ≡ 0 = e in omega arith)
  three-held true true false hi hj hk e = absurd (let f : k ≡ 0 = e in omega arith)
  three-held true true true hi hj hk e = (refl, refl, refl)

pub room-left : (place : Place) (used : Used) (n : ℕ) → write_refusal place used n ≡ 0 → WriteRoom place used n
unfolding write_refusal
room-left place used n e = let three = three-held 9 10 11 (leb (place_number place + n) file_bytes)
    (leb (used.records + 1) record_count) (leb (used.bytes + n) log_bytes) (omega arith) (omega arith) (omega arith) e in
    let few = leb-true (used.records + 1) record_count three.1 in
    record { file = leb-true _ file_bytes three.0; records = omega arith; log = leb-true _ log_bytes three.2 }

-- A place in range.
place-within : (z : Standing) → standing_in z ≡ true → place_number (write_place z) ≤ file_bytes
unfolding standing_in write_place
place-within Untouched e = omega arith
place-within (Placed o) e = leb-true o file_bytes e
place-within (Deferred a) e = leb-true a file_bytes (and_left (leb a file_bytes) true e)
place-within (Moved a o) e = leb-true o file_bytes (and_right (leb a file_bytes) (leb o file_bytes) e)
place-within (Known o) e = leb-true o file_bytes e

-- ---- the record with one write more, as the code puts it

-- The standing that is put has room in the record.
pub write-fits : (n : ℕ) (z y : Standing) → standing_in z ≡ true → place_number (write_place z) + n ≤ file_bytes → y ≡ after_write n z
    → StandingFits y
write-fits n z y e h is_y = standing-fits y (rw is_y (write-in n z h e))

-- The two counters, from each of them.
both-counters : (u : Used) (r b : ℕ) → u.records ≡ r → u.bytes ≡ b → u ≡ record { records = r; bytes = b }
both-counters u r b e f = λ i. record { records = e i; bytes = f i }

module _ (t d n : ℕ) (z : Standing) (used : Used) (state : List ℕ) (long : length state ≡ state_length)
    (small : t < transaction_count) (few : d < descriptor_count) (room : used.records < record_count) where
  pub write-put : (p : Place) (u : Used) (y : Standing) (one two three : List ℕ) → p ≡ write_place z
      → one ≡ with_record_at state t used.records (record { descriptor = d; place = p; length = n })
      → u.records ≡ used.records + 1 → u.bytes ≡ used.bytes + n → two ≡ with_used_at one t u → y ≡ after_write n z
      → three ≡ with_descriptor_at two t d (record { standing = y; dirty = true }) → (store_of three ≡ store_written t d z used
      n (store_of state)) × (journal_of three ≡ journal_written t d z used n (journal_of state))
  write-put p u y one two three is-p is_one is-records is-bytes is-two is_y is-three = unfold store_written journal_written in
      let w : WriteRecord = record { descriptor = d; place = p; length = n } in
      let q : Descriptor = record { standing = y; dirty = true } in let x = transaction (store_of state) t in
      let described : Transaction → Transaction = λ v. with_descriptors (set v.descriptors d q) v in
      let long-one : length one ≡ state_length = ap length is_one ∙ length-with-at state t used.records w ∙ long in
      let long-two : length two ≡ state_length = ap length is-two ∙ length-with-used one t long-one small u ∙ long-one in
      let store_two : store_of two ≡ with_transaction t (with_used u x) (store_of state) = ap store_of is-two ∙ store-with-used
      one t long-one small u ∙ ap (λ (s : StoreMeaning). with_transaction t (with_used u (transaction s t)) s)
      (ap store_of is_one ∙ store-with-record state long t used.records w (omega (arith, small)) room) in (
        ap store_of is-three ∙ store-with-descriptor two t d q long-two small few ∙ ap (λ (s : StoreMeaning).
            with_transaction t (described (transaction s t)) s) store_two ∙ shape-put-twice (store_of state) t (with_used u x)
            described (eight state t small) ∙ ap₂ (λ (v : Used) (e : Standing). with_transaction t (with_used v
            (with_descriptors (set x.descriptors d (record { standing = e; dirty = true })) x)) (store_of state))
            (both-counters u _ _ is-records is-bytes) is_y,
        ap journal_of is-three ∙ journal-with-descriptor two t d q long-two small few ∙ ap journal_of is-two
            ∙ journal-with-used one t long-one small u ∙ ap journal_of is_one
            ∙ journal-with-record state long t used.records w (omega (arith, small)) room ∙ ap (λ (e : Place).
            with_record_at (journal_of state) t used.records (record { descriptor = d; place = e; length = n })) is-p,
      )

-- ---- the rule

module _ (t d : ℕ) (bytes : List ℕ) (m : Machine) (passes : admission (sizes m) m.store m.journal t ≡ 0) where
  pub write-no-descriptor : last_descriptor < d → call (on t (write d bytes)) m ≡ refuse_turn 6 [] m
  unfolding step write_step buffer_of
  write-no-descriptor h = on-refused t (write d bytes) m passes (unfold refuses_stale is_read_call in refl) 6
      (check-failed (leb d last_descriptor) 6 _ (lt-leb d last_descriptor h))

  module _ (o : Opened m.store m.journal m.logs t) (low : d ≤ last_descriptor) where
    abbrev place : Place
    place = write_place (standing_at (transaction m.store t) d)

    abbrev used : Used
    used = (transaction m.store t).used

    -- The step, with its tests on the record.
    stepped : step (file_of m.store) (write d bytes) (txn_of m.store m.journal m.logs t) ≡ check
        (leb (place_number place + length bytes) file_bytes) 9
        (check (leb (used.records + 1) record_count) 10 (check (leb (used.bytes + length bytes) log_bytes) 11
        (done (accept (written d bytes (txn_of m.store m.journal m.logs t)) done_answer []))))
    stepped = unfold step write_step txn_of in check-held (leb d last_descriptor) 6 _ (le-leb d last_descriptor low) ∙ rw (
      decoded-count m.store m.journal m.logs t o.size o.small o.ranges,
      decoded-total m.store m.journal m.logs t o.size o.small o.ranges,
    )

    write-refused : (r : Refusal) → number r ≡ write_refusal place used (length bytes) → call (on t (write d bytes)) m
        ≡ refuse_turn (number r) [] m
    unfolding buffer_of write_refusal
    write-refused r e = on-refused t (write d bytes) m passes (unfold refuses_stale is_read_call in refl) (number r) (stepped
        ∙ three-refused 9 10 11 _ _ _ _ r e)

    module _ (room : WriteRoom place used (length bytes)) where
      accepted : step (file_of m.store) (write d bytes) (txn_of m.store m.journal m.logs t)
          ≡ done (accept (written d bytes (txn_of m.store m.journal m.logs t)) done_answer [])
      accepted = stepped
          ∙ check-held (leb (place_number place + length bytes) file_bytes) 9 _ (le-leb _ file_bytes room.file) ∙ check-held
          (leb (used.records + 1) record_count) 10 _ (le-leb (used.records + 1) record_count (omega (arith, room.records)))
          ∙ check-held (leb (used.bytes + length bytes) log_bytes) 11 _ (le-leb _ log_bytes room.log)

      -- An accepted Write adds a record, moves the counters forward, sets the standing of d and makes d dirty, and puts its bytes
      -- in the log directly after the data used.
      write_meets : let z = standing_at (transaction m.store t) d in
          Meets (call (on t (write d bytes)) m) (Ok Done)
          (lent (store_written t d z used (length bytes) m.store) (journal_written t d z used (length bytes) m.journal)
          m.files (pasted m.logs (log_bytes * t + used.bytes) bytes) m.marks m.undo) []
      unfolding said logged written record_of txn_of store_written journal_written
      write_meets = let y = txn_of m.store m.journal m.logs t in
          let e = on-accepted t (write d bytes) m passes (unfold refuses_stale is_read_call in refl) (written d bytes y)
          done_answer [] accepted in record {
            outcome = sym (ap (λ (w : Turn). w.reply.answer) e);
            machine = sym (ap (λ (w : Turn). w.after) e ∙ ap₂ (λ (s : StoreMeaning) (j : List ℕ). lent s j m.files
                (pasted m.logs (log_bytes * t + used.bytes) bytes) m.marks m.undo) (txn-written m.store
                m.journal m.logs t o d bytes (omega arith)) (writes_more m.store m.journal m.logs t o _));
            reader = sym (ap (λ (w : Turn). w.reply.buffer) e);
          }

-- ---- with what the code reads

-- A Write that its first tests have let through, the standing of d and the counters as they were read.
pub record WriteReached (t d : ℕ) (state files logs marks undo : List ℕ) (z : Standing) (used : Used) : Type 0 where
  pub low : d ≤ last_descriptor
  pub passes : admission (sizes (machine_of state files logs marks undo)) (store_of state) (journal_of state) t ≡ 0
  pub through : LetThrough (machine_of state files logs marks undo) t
  pub begun : (transaction (store_of state) t).begun ≡ true
  pub reads-standing : z ≡ standing_at (transaction_of state t) d
  pub reads-used : used ≡ (transaction_of state t).used

module _ {t d : ℕ} {state files logs marks undo : List ℕ} {z : Standing} {used : Used}
    (a : WriteReached t d state files logs marks undo z used) where
  abbrev handed_over : Machine
  handed_over = machine_of state files logs marks undo

  open-here : Opened (store_of state) (journal_of state) logs t
  open-here = decoded-open handed_over t (shaped state) (length-journal state) a.through a.begun

  is-standing : z ≡ standing_at (transaction (store_of state) t) d
  is-standing = a.reads-standing ∙ ap (λ (x : Transaction). standing_at x d) (sym (transaction-of state t a.through.small))

  is-used : used ≡ (transaction (store_of state) t).used
  is-used = a.reads-used ∙ ap (λ (x : Transaction). x.used) (sym (transaction-of state t a.through.small))

  pub standing-within : standing_in z ≡ true
  standing-within = rw is-standing (open-here.ranges.standings d (omega (arith, a.low)))

  pub numbers-within : (place_number (write_place z) ≤ file_bytes) × (used.bytes ≤ log_bytes)
  numbers-within = (place-within z standing-within, rw is-used open-here.ranges.bytes)

  pub write-no-room : (bytes : List ℕ) (r : Refusal) → number r ≡ write_refusal (write_place z) used (length bytes)
      → call (on t (write d bytes)) handed_over ≡ refuse_turn (number r) [] handed_over
  write-no-room bytes r e = write-refused t d bytes handed_over a.passes open-here a.low r (e
      ∙ ap₂ (λ (y : Standing) (u : Used). write_refusal (write_place y) u (length bytes)) is-standing is-used)

  pub write-follows : (bytes : List ℕ) → WriteRoom (write_place z) used (length bytes) → (after filled : List ℕ)
      → filled ≡ pasted logs (log_bytes * t + used.bytes) bytes → store_of after ≡ store_written t d z used (length bytes)
      (store_of state) → journal_of after ≡ journal_written t d z used (length bytes) (journal_of state) → Meets (call
      (on t (write d bytes)) handed_over) (Ok Done) (machine_of after files filled marks undo) [] × LeftAsFound (Ok Done) state after
  write-follows bytes room after filled is-filled is_IsStore is-journal = (
    rw (is_IsStore, is-journal, is-filled, is-standing, is-used)
        (write_meets t d bytes handed_over a.passes open-here a.low (rw (is-standing, is-used) at room)),
    done-follows state after,
  )
