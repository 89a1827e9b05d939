-- The rule of Read after each of its tests.
use Rattle.std.specs.declared.result.Result.TheVariants.{Ok, Err}
use mathlib.Core.{Bool.{Bool, true, false, cond, not, ◌||◌}, List.{List, [], ◌∷◌, ◌++◌, append-nil}}
use mathlib.Core.Path.{◌≡◌, refl, sym, ap, ap₂, ◌∙◌}
use borrow.Author.Tests.{le-leb, leb-true}
use lib.{Dec.{leb, ltb, eqb}, ListN.{length, get_or, drop}}
use native.Mathlib.Omega.{arith}
use Prim.Native.Nat.{ℕ, ◌+◌, ◌-◌, ◌*◌, ◌≤◌, ◌<◌, min, max}
use Rattle.limits.specs.Limits.{file_bytes, last_descriptor, log_bytes}
use Rattle.buffers.{specs.{Bits.with_bit, Parts.file_part}, proofs.PartLaws.length_cut}
use Rattle.standings.specs.declared.{Standing.{Standing, TheVariants.{Untouched, Placed, Deferred, Moved, Known}}}
use Rattle.standings.specs.Table.{after_read, read_settles, offset_of, advance, settled}
use Rattle.state.specs.declared.outcomes.{Answer.TheVariants.{Given}, Refusal.{Refusal, TheVariants.AppendPastEnd}}
use Rattle.state.specs.declared.{Transaction.Transaction, StoreMeaning.StoreMeaning}
use Rattle.state.specs.{StoreMeaning.{transaction, standing_at, with_transaction}, Journal.write_record_at}
use Rattle.state.specs.{Layout.{transaction_of, store_of, journal_of, state_length}, Outcomes.{number, given, said}}
use Rattle.admission.specs.Admission.{admission, standing_in, lengths_before}
use Rattle.admission.proofs.Laws.{and_right, below_at, standing-numbers, in-range}
use Rattle.spec.specs.Items.{Item, file_length, Values, Prog, done, and_then, result, asked}
use Rattle.spec.specs.Transactions.{Txn, Write, dirtied, Settled, past, all, settling}
use Rattle.spec.specs.{Reading.{fetch, placed_end, own_end, length_for, gather}, Messages.{read, buffer_of, on}}
use Rattle.spec.specs.Steps.{Stepped, accept, check, or_given_back, step, read_step, read_settled, settled_by_read, descriptor_of_op}
use Rattle.spec.specs.Steps.{is_read_call}
use Rattle.spec.specs.Machine.{Machine, lent, with_store, with_journal, with_marking, sizes, file_of, values, txn_of, lengthmarked}
use Rattle.spec.specs.Machine.{sighting_lengths, with_txn, journalled, write_at, data_start}
use Rattle.spec.specs.{Calls.{Turn, refuse_turn, marked, logged, served, call}, Promises.{Meets, machine_of, LeftAsFound}}
use Rattle.spec.proofs.Abstract.{Programs.{result-and_then, asked-and_then, not-stale}, Gathers.{read-stops, length-gather}}
use Rattle.spec.proofs.Refinement.{Relation.TxnIn, Chosen.{DescriptorsIn, those-in}, Decode.decoded-in}
use Rattle.spec.proofs.Refinement.{StepPreserves.{pieces, settling-preserved}, WriteEnds.length-for, Accepted.length-in}
use Rattle.refinement.{specs.Settling.settle_all, proofs.{Shapes.shape-put-twice, Decoded.Opened}}
use Rattle.refinement.proofs.Settling.{marked-settling, lengths-settling}
use Rattle.refinement.proofs.TurnLaws.{LetThrough, program, on-stepped, check-held, check-failed}
use Rattle.std.specs.Prelude.{Result, Ok, Err, ⊤}
use Rattle.read_settle.specs.Choices.{chosen_by_read, settles_within, all_within, settled_transaction}
use Rattle.read_settle.proofs.Settled.{settled_txn, settled_journal, txn-settled-dirtied, journal-settled, descriptor-settled}
use Rattle.read_settle.proofs.Settled.{data-settled, writes-settled, standing-settled}
use Rattle.read_settle.proofs.{ChoiceLaws.{verdict-past, verdict-settled}, Chosen.settling_read}
use Rattle.read_lookup.specs.declared.Extent.{Extent}
use Rattle.read_lookup.specs.Lookup.{Recorded, recorded, recorded_in, extent, CountedRecords, record_end, reach}
use Rattle.read_lookup.proofs.RunLaws.{data-suc, data-upto, run-reach-is}
use Rattle.read_fetch.{specs.Fetch.{bytes_read, marks_after, log_part}, proofs.FetchLaws.{marked_append, lengths-fetch}}
use Rattle.read_fetch.proofs.MachineLaws.{bytes-are, marks-are}
use Rattle.call_read.specs.ReadCall.{places_from, after_giving, MovedOn, Readable, Served}
use Rattle.call_read.proofs.ReadTests.{read_refusal, read-test-refused, ReadAdmitted, turned_left, SettledAs}
use Rattle.call_read.proofs.ReadTests.{transaction-now}

-- ---- the offset of a standing in range, and of one that was settled

offset-low : (z : Standing) → standing_in z ≡ true → offset_of z ≤ file_bytes
offset-low z e = leb-true (offset_of z) file_bytes
    (and_right (leb (advance z) file_bytes) (leb (offset_of z) file_bytes) (sym (standing-numbers z) ∙ e))

settled-low : (c : ℕ) (z : Standing) → standing_in z ≡ true → c + advance z ≤ file_bytes → offset_of (settled c z) ≤ file_bytes
unfolding settled
settled-low c Untouched e h = omega arith
settled-low c (Placed o) e h = offset-low (Placed o) e
settled-low c (Deferred a) e h = h
settled-low c (Moved a o) e h = offset-low (Moved a o) e
settled-low c (Known o) e h = offset-low (Known o) e

chosen-low : (b : Bool) (c : ℕ) (z : Standing) → standing_in z ≡ true → not b || leb (c + advance z) file_bytes ≡ true
    → offset_of (cond b (settled c z) z) ≤ file_bytes
chosen-low true c z e h = settled-low c z e (leb-true (c + advance z) file_bytes h)
chosen-low false c z e h = offset-low z e

module _ (t d n : ℕ) (buffer : List ℕ) (m : Machine) (passes : admission (sizes m) m.store m.journal t ≡ 0) where
  pub read-refused : (r : Refusal) → number r ≡ read_refusal (transaction m.store t).stale d n (length buffer)
      → call (on t (read d n buffer)) m ≡ refuse_turn (number r) buffer m
  read-refused = unfold step read_step buffer_of descriptor_of_op is_read_call in
      read-test-refused t (read d n buffer) m passes d n (length buffer) refl refl (check-failed (leb d last_descriptor) 6 _)
      (λ low short. check-held (leb d last_descriptor) 6 _ low ∙ check-failed (leb n (length buffer)) 7 _ short)

  module _ (o : Opened m.store m.journal m.logs t) (fresh : (transaction m.store t).stale ≡ false)
      (low : d ≤ last_descriptor) (room : n ≤ length buffer) where
    -- Transaction t, the choice, the transaction afterwards, and its meaning.
    abbrev held : Transaction
    held = transaction m.store t

    abbrev choice : List Bool
    choice = chosen_by_read m.store.filenumbers held d

    abbrev afterwards : Transaction
    afterwards = settled_transaction choice m.store.offsets held

    abbrev meant : Txn
    meant = settled_txn m.store m.journal m.logs t choice

    abbrev v : Values
    v = values m.store m.files

    abbrev before : Txn
    before = txn_of m.store m.journal m.logs t

    abbrev settles : Prog Settled
    settles = settling (settled_by_read (file_of m.store) d before) before

    abbrev goes_on : Txn → Prog Stepped
    goes_on = read_settled (file_of m.store) d n buffer

    program-is : program t (read d n buffer) m passes ≡ and_then settles (or_given_back goes_on)
    unfolding step read_step
    program-is = check-held (leb d last_descriptor) 6
        (check (leb n (length buffer)) 7 (and_then settles (or_given_back goes_on))) (le-leb d last_descriptor low)
        ∙ check-held (leb n (length buffer)) 7 (and_then settles (or_given_back goes_on)) (le-leb n (length buffer) room)

    settles-to : (b : Bool) → all_within choice m.store.offsets held ≡ b → result v settles ≡ cond b (all meant) past
    settles-to b e = settling_read m.store m.journal m.files m.logs t d (omega arith)
        (o.shape.descriptors t o.small) ∙ ap (λ (b : Bool). cond b (all meant) past) e

    read_result : (b : Bool) → all_within choice m.store.offsets held ≡ b
        → result v (program t (read d n buffer) m passes) ≡ result v (or_given_back goes_on (cond b (all meant) past))
    read_result b e = ap (result v) program-is ∙ result-and_then v settles (or_given_back goes_on)
        ∙ ap (λ (s : Settled). result v (or_given_back goes_on s)) (settles-to b e)

    read_past : all_within choice m.store.offsets held ≡ false → call (on t (read d n buffer)) m ≡ refuse_turn 12 buffer m
    unfolding or_given_back result served buffer_of
    read_past e = on-stepped t (read d n buffer) m passes (not-stale held.stale (read d n buffer) fresh)
        ∙ ap (served t (read d n buffer) m (asked v (program t (read d n buffer) m passes))) (read_result false e)

    module _ (within : all_within choice m.store.offsets held ≡ true) (bounded : (g : ℕ) → v (file_length g) ≤ file_bytes) where
      -- The offset that is read from, how many bytes are given, by which file; and the transaction's meaning at the end.
      abbrev from : ℕ
      from = offset_of (meant.standing d)

      abbrev f : ℕ
      f = get_or m.store.filenumbers d 0

      abbrev end : ℕ
      end = length_for (file_of m.store) (file_of m.store d) meant.writes (v (file_length (file_of m.store d)))

      abbrev count : ℕ
      count = min n (end - from)

      abbrev gathers : Prog (List ℕ)
      gathers = gather (file_of m.store) meant.writes (file_of m.store d) from n

      abbrev fetches : Prog (List ℕ)
      fetches = fetch (file_of m.store) meant.writes (file_of m.store d) from count

      abbrev finally : Txn
      finally = dirtied d (after_read count (meant.standing d)) meant

      ends : List ℕ → Prog Stepped
      ends bytes = done (accept (dirtied d (after_read (length bytes) (meant.standing d)) meant) (given (length bytes))
          (bytes ++ drop (length bytes) buffer))

      reads_on : result v (goes_on meant) ≡ accept finally (given count) (result v fetches ++ drop count buffer)
      unfolding read_settled result ends
      reads_on = result-and_then v gathers ends
          ∙ ap₂ (λ (bytes : List ℕ) (k : ℕ). accept (dirtied d (after_read k (meant.standing d)) meant) (given k)
          (bytes ++ drop k buffer)) (read-stops (file_of m.store) meant.writes (file_of m.store d) from n v).bytes
          (length-gather (file_of m.store) meant.writes (file_of m.store d) from n v)

      -- "a Read that gave fewer bytes than wanted sights the length, listed after its bytes"
      abbrev last : List Item
      last = cond (ltb count n) (file_length (file_of m.store d) ∷ []) []

      asks-on : asked v (goes_on meant) ≡ asked v fetches ++ last
      unfolding read_settled asked ends
      asks-on = asked-and_then v gathers ends ∙ append-nil (asked v gathers)
          ∙ (read-stops (file_of m.store) meant.writes (file_of m.store d) from n v).sightings

      last-unmarked : (b : Bool) (marks : List ℕ) → marked t (cond b (file_length (file_of m.store d) ∷ []) []) marks ≡ marks
      unfolding marked
      last-unmarked true marks = refl
      last-unmarked false marks = refl

      last-length : (b : Bool) (k : ℕ) → lengthmarked (cond b (file_length (file_of m.store d) ∷ []) []) k
          ≡ cond b (with_bit (file_of m.store d) k) k
      unfolding lengthmarked
      last-length true k = refl
      last-length false k = refl

      -- Settling marks nothing.
      marks-on : marked t (asked v (program t (read d n buffer) m passes)) m.marks ≡ marked t (asked v fetches) m.marks
      unfolding or_given_back
      marks-on = ap (λ (p : Prog Stepped). marked t (asked v p) m.marks) program-is
          ∙ ap (λ (is : List Item). marked t is m.marks) (asked-and_then v settles (or_given_back goes_on)) ∙ marked-settling
          v t (settled_by_read (file_of m.store) d before) before (asked v (or_given_back goes_on (result v settles)))
          m.marks ∙ ap (λ (s : Settled). marked t (asked v (or_given_back goes_on s)) m.marks) (settles-to true within)
          ∙ ap (λ (is : List Item). marked t is m.marks) asks-on ∙ marked_append t (asked v fetches) last m.marks
          ∙ last-unmarked (ltb count n) (marked t (asked v fetches) m.marks)

      -- Settling and fetching sight no length.
      lengths-on : (k : ℕ) → lengthmarked (asked v (program t (read d n buffer) m passes)) k
          ≡ cond (ltb count n) (with_bit (file_of m.store d) k) k
      unfolding or_given_back
      lengths-on k = ap (λ (p : Prog Stepped). lengthmarked (asked v p) k) program-is
          ∙ ap (λ (is : List Item). lengthmarked is k) (asked-and_then v settles (or_given_back goes_on)) ∙ lengths-settling v
          (settled_by_read (file_of m.store) d before) before (asked v (or_given_back goes_on (result v settles))) k
          ∙ ap (λ (s : Settled). lengthmarked (asked v (or_given_back goes_on s)) k) (settles-to true within)
          ∙ ap (λ (is : List Item). lengthmarked is k) asks-on ∙ lengths-fetch v (file_of m.store) meant.writes
          (file_of m.store d) from count last k ∙ last-length (ltb count n) k

      abbrev sees : List Item
      sees = asked v (program t (read d n buffer) m passes)

      accepted : call (on t (read d n buffer)) m ≡ record {
        reply = record { answer = given count; buffer = result v fetches ++ drop count buffer };
        after = with_store (with_txn t finally sees m.store) (with_journal (journalled t meant.writes m.journal)
            (with_marking (marked t (asked v fetches) m.marks) m));
      }
      unfolding served logged or_given_back
      accepted = on-stepped t (read d n buffer) m passes (not-stale held.stale (read d n buffer) fresh)
          ∙ ap (served t (read d n buffer) m (asked v (program t (read d n buffer) m passes))) (read_result true within
          ∙ reads_on) ∙ ap turn marks-on
        where
          turn : List ℕ → Turn
          turn marks = record {
            reply = record { answer = given count; buffer = result v fetches ++ drop count buffer };
            after = with_store (with_txn t finally sees m.store)
                (with_journal (journalled t meant.writes m.journal) (with_marking marks m));
          }

      -- The transaction's length, in range.
      meant-in : TxnIn meant
      meant-in = (settling-preserved v (settled_by_read (file_of m.store) d before) before meant (pieces before.writes)
          (settled-are 16 (omega arith)) (record {
            ranges = decoded-in m.store m.journal m.logs t o.size o.small o.ranges
                (o.shape.descriptors t o.small);
            same = refl;
          }) (settles-to true within)).ranges
        where
          settled-are : (k : ℕ) → k ≤ 16 → DescriptorsIn (settled_by_read (file_of m.store) d before)
          settled-are k h = unfold settled_by_read in those-in
              (λ e. read_settles (eqb (file_of m.store e) (file_of m.store d)) (eqb e d) (before.standing e)) 16 (omega arith)

      end_low : end ≤ file_bytes
      end_low = length-for (file_of m.store) (file_of m.store d) meant (v (file_length (file_of m.store d)))
          (bounded (file_of m.store d)) meant-in

      from_low : from ≤ file_bytes
      unfolding all_within settles_within settle_all txn_of
      from_low = chosen-low (get_or choice d false) (get_or m.store.offsets d 0) (standing_at held d) (o.ranges.standings d
          (omega arith)) (below_at (settles_within choice m.store.offsets held) 16 d within (omega arith))

      -- The journal with the write records placed, and what is served from it.
      abbrev placed : Recorded
      placed = recorded (settled_journal m.store m.journal t choice) m.store.filenumbers

      inside : lengths_before placed.journal t held.used.records ≤ log_bytes
      inside = omega (
        arith,
        data-settled m.store m.journal m.logs t o choice held.used.records (omega arith),
        o.ranges.total,
        o.ranges.bytes,
      )

      read-bytes : bytes_read placed t held.used.records (log_part m.logs t) (file_part m.files f) (extent f from count)
          ≡ result v fetches
      unfolding file_of
      read-bytes = bytes-are placed m.logs t held.used.records inside v m.files (λ q. unfold values in refl)
          (extent f from count) (let l = from_low in let k = end_low in omega arith) ∙ ap (λ (ws : List Write). result v
          (fetch (file_of m.store) ws f from count)) (writes-settled m.store m.journal m.logs t o choice)

      read-marks : marks_after placed t held.used.records (log_part m.logs t) (file_part m.files f)
          (extent f from count) m.marks ≡ marked t (asked v fetches) m.marks
      unfolding file_of
      read-marks = marks-are placed m.logs t held.used.records inside v m.files (λ q. unfold values in refl)
          (extent f from count) m.marks ∙ ap (λ (ws : List Write). marked t (asked v (fetch (file_of m.store) ws f from
          count)) m.marks) (writes-settled m.store m.journal m.logs t o choice)

      -- The same in the code's terms: of the record after settling.
      module _ (now : List ℕ) (stands : transaction_of now t ≡ afterwards) (es : store_of now ≡ with_transaction t afterwards
          m.store) (ej : journal_of now ≡ settled_journal m.store m.journal t choice)
        where
          files-now : (store_of now).filenumbers ≡ m.store.filenumbers
          files-now = unfold with_transaction in ap (λ (s : StoreMeaning). s.filenumbers) es

          lengths-now : (store_of now).lengths ≡ m.store.lengths
          lengths-now = unfold with_transaction in ap (λ (s : StoreMeaning). s.lengths) es

          used-now : (transaction_of now t).used ≡ held.used
          used-now = unfold settled_transaction in ap (λ (x : Transaction). x.used) stands

          recorded-now : recorded_in now ≡ placed
          recorded-now = ap₂ recorded ej files-now

          standing-is : standing_at (transaction_of now t) d ≡ meant.standing d
          standing-is = ap (λ (x : Transaction). standing_at x d) stands
              ∙ standing-settled m.store m.journal m.logs t o choice d (omega arith)

          counted : CountedRecords (journal_of now) t (transaction_of now t).used
          counted = rw (ej, used-now) (record {
            small = o.small;
            records = o.ranges.records;
            adds = data-settled m.store m.journal m.logs t o choice held.used.records (omega arith)
                ∙ o.ranges.total;
            bytes = o.ranges.bytes;
            descriptors = descriptor-settled m.store m.journal m.logs t o choice;
          })

          data-upon : (k : ℕ) → k < held.used.records → lengths_before placed.journal t k
              + (write_record_at placed.journal t k).length ≤ log_bytes
          data-upon k h =
              omega (arith, data-suc placed.journal t k, data-upto placed.journal t k held.used.records h, inside)

          end_of : (k : ℕ) → k < held.used.records → let w = write_at placed.journal m.logs t k in
              record_end m.store.filenumbers f (write_record_at placed.journal t k)
              ≡ cond (eqb (get_or m.store.filenumbers w.descriptor 0) f) (placed_end w.place (length w.bytes)) 0
          end_of k h = unfold record_end write_at data_start in let w = write_record_at placed.journal t k in
              ap (λ (z : ℕ). cond (eqb (get_or m.store.filenumbers w.descriptor 0) f) (placed_end w.place z) 0)
              (sym (length_cut m.logs (log_bytes * t + lengths_before placed.journal t k) w.length
              (omega (arith, data-upon k h, o.size, o.small))))

          -- How far the file reaches for the transaction, as the code finds it.
          reached-is : reach placed t f (get_or m.store.lengths f 0) held.used.records ≡ end
          unfolding length_for file_of values
          reached-is = run-reach-is placed t f (get_or m.store.lengths f 0) (write_at placed.journal m.logs t)
              held.used.records end_of ∙ ap (λ (ws : List Write). max (get_or m.store.lengths f 0) (own_end (λ e. get_or
              m.store.filenumbers e 0) f ws)) (writes-settled m.store m.journal m.logs t o choice)

          places-are : places_from now t d n ≡ extent f from count
          places-are = rw (recorded-now, files-now, lengths-now, used-now, standing-is, reached-is)

          pub readable : length now ≡ state_length → LetThrough m t → Readable now m.files m.logs m.marks t d n buffer
          readable long through = record {
            long = long;
            few = omega arith;
            room = room;
            standing = rw standing-is (meant-in.standings d);
            counted = counted;
            handed = record {
              files_length = through.lengths.files;
              logs_length = through.lengths.logs;
              marks_length = through.lengths.marks;
              file_in = rw files-now
                  (let l = (in-range m.store m.journal through.ranges).files d (omega arith) in omega arith);
              places = omega (
                arith,
                from_low,
                end_low,
                ap (λ (e : Extent). e.place) places-are,
                ap (λ (e : Extent). e.length) places-are,
              );
            };
          }

          -- What was given, the marks, and the record at the end, are those of the rule.
          module _ (e : Extent) (ee : e ≡ extent f from count) where
            bytes-given : bytes_read (recorded_in now) t (transaction_of now t).used.records (log_part m.logs t)
                (file_part m.files e.file) e ++ drop e.length buffer ≡ result v fetches ++ drop count buffer
            bytes-given = rw (recorded-now, used-now, ee) (ap (λ (l : List ℕ). l ++ drop count buffer) read-bytes)

            marks-set : marks_after (recorded_in now) t (transaction_of now t).used.records (log_part m.logs t)
                (file_part m.files e.file) e m.marks ≡ marked t (asked v fetches) m.marks
            marks-set = rw (recorded-now, used-now, ee) read-marks

            store_is : with_transaction t (after_giving d n e (transaction_of now t)) (store_of now)
                ≡ with_txn t finally sees m.store
            store_is = ap₂ (λ (x : Transaction) (s : StoreMeaning). with_transaction t (after_giving d n e x) s) stands es
                ∙ shape-put-twice m.store t afterwards (λ _. after_giving d n e afterwards)
                (rw o.shape.transactions o.small)
                ∙ ap (λ (e : Extent). with_transaction t (after_giving d n e afterwards) m.store) ee ∙ finally-is
              where
                finally-is : with_transaction t (after_giving d n (extent f from count) afterwards) m.store
                    ≡ with_txn t finally sees m.store
                finally-is = unfold settled_transaction sighting_lengths file_of in rw (
                  standing-settled m.store m.journal m.logs t o choice d (omega arith),
                  sym (lengths-on held.lengthmarks),
                ) (sym (txn-settled-dirtied m.store m.journal m.logs t o choice sees d
                    (after_read count (meant.standing d)) (omega arith)))

          read_meets : (r : ℕ) (after marks_then reader : List ℕ) → r ≡ (places_from now t d n).length
              → MovedOn t d n (places_from now t d n) now after → Served t (places_from now t d n) now m.files m.logs
              m.marks buffer marks_then reader → Meets (call (on t (read d n buffer)) m) (Ok (Given r))
              (lent (store_of after) (journal_of after) m.files m.logs marks_then m.undo) reader
          read_meets r after marks_then reader er moved served = unfold said in let e = places_from now t d n in record {
            outcome = ap given (er ∙ ap (λ (e : Extent). e.length) places-are)
                ∙ sym (ap (λ (w : Turn). w.reply.answer) accepted);
            machine = ap (λ (s : StoreMeaning). lent s (journal_of after) m.files m.logs marks_then m.undo)
                (moved.store ∙ store_is e places-are)
                ∙ ap₂ (λ (j ms : List ℕ). lent (with_txn t finally sees m.store) j m.files m.logs ms m.undo)
                (moved.journal ∙ ej ∙ sym (journal-settled m.store m.journal m.logs t o choice)) (served.marking
                ∙ marks-set e places-are) ∙ sym (ap (λ (w : Turn). w.after) accepted);
            reader = served.bytes ∙ bytes-given e places-are ∙ sym (ap (λ (w : Turn). w.reply.buffer) accepted);
          }

-- The same of what the code has, once it may look: the record before settling and after.
module _ {state files logs marks undo : List ℕ} {t d n : ℕ} (buffer : List ℕ)
    (l : ReadAdmitted state files logs marks undo t d n (length buffer)) (now : List ℕ) where
  abbrev SettledTo : Result ⊤ Refusal → Type 0
  SettledTo = SettledAs (λ x. chosen_by_read (store_of state).filenumbers x d) t state now

  abbrev machine : Machine
  machine = machine_of state files logs marks undo

  abbrev answered : Turn
  answered = call (on t (read d n buffer)) machine

  pub past-follows : (r : Refusal) → SettledTo (Err r) → Meets answered (Err AppendPastEnd) (machine_of now files logs marks undo)
      buffer × LeftAsFound (Err AppendPastEnd) state now
  past-follows r s =
      turned_left AppendPastEnd buffer state files logs marks undo answered (read_past t d n buffer machine l.passes
      l.held l.may.fresh l.may.low l.may.roomy (verdict-past _ _ _ r (sym s.verdict))) now (s.refused r refl)

  module _ (s : SettledTo (Ok tt)) where
    -- "lengths, at most 4,096"
    limits : (g : ℕ) → values (store_of state) files (file_length g) ≤ file_bytes
    limits = length-in _ _ _ l.held.shape.lengths (in-range (store_of state) (journal_of state) l.through.ranges)

    stands-now : let x = transaction (store_of state) t in transaction_of now t
        ≡ settled_transaction (chosen_by_read (store_of state).filenumbers x d) (store_of state).offsets x
    stands-now = transaction-now (λ x. chosen_by_read (store_of state).filenumbers x d) s l.held.small

    pub handed-on : Readable now files logs marks t d n buffer
    handed-on = readable t d n buffer machine l.passes l.held l.may.fresh l.may.low l.may.roomy
        (verdict-settled _ _ _ (sym s.verdict)) limits now stands-now (s.store refl) (s.journal refl) s.long
        l.through

    pub read-follows : (r : ℕ) (after marks_then reader : List ℕ) → r ≡ (places_from now t d n).length → MovedOn t d n
        (places_from now t d n) now after → Served t (places_from now t d n) now files logs marks buffer marks_then reader
        → Meets answered (Ok (Given r)) (machine_of after files logs marks_then undo) reader × LeftAsFound (Ok (Given r)) state after
    read-follows r after marks_then reader er moved served = (
      read_meets t d n buffer machine l.passes l.held l.may.fresh l.may.low l.may.roomy
          (verdict-settled _ _ _ (sym s.verdict)) limits now stands-now (s.store refl) (s.journal refl)
          r after marks_then reader er moved served,
      λ q e k. cc,
    )
