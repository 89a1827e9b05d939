-- The rule of GetFilePointer after each of its tests.
use Rattle.std.specs.declared.result.Result.TheVariants.{Ok, Err}
use mathlib.Core.{Bool.{Bool, true, false, cond, true≢false}, List.{List, [], ◌∷◌}, Path.{◌≡◌, refl, sym, ap, ap₂, ◌∙◌}}
use borrow.Author.Tests.{le-leb}
use lib.Dec.{leb}
use native.Mathlib.Omega.{arith}
use Prim.Native.Nat.{ℕ, ◌≤◌}
use Rattle.limits.specs.Limits.{last_descriptor}
use Rattle.standings.specs.{declared.Standing.Standing, Table.{pointer_settles, offset_of}}
use Rattle.state.specs.declared.outcomes.{Answer.TheVariants.{Offset}, Refusal.{Refusal, TheVariants.AppendPastEnd}}
use Rattle.state.specs.declared.{Transaction.Transaction, StoreMeaning.StoreMeaning}
use Rattle.state.specs.{StoreMeaning.{transaction, standing_at, with_lengthmarks, with_transaction}, Layout.transaction_of}
use Rattle.state.specs.Outcomes.{number, pointer, said}
use Rattle.admission.specs.Admission.{admission}
use Rattle.spec.specs.{Items.{Item, Prog, done, and_then, result, asked}, Transactions.{Txn, Settled, past, all, settling}}
use Rattle.spec.specs.Messages.{get_file_pointer, buffer_of, on}
use Rattle.spec.specs.Steps.{Stepped, accept, or_given_back, step, pointer_step, descriptor_of_op, is_read_call}
use Rattle.spec.specs.Machine.{Machine, lent, with_store, with_journal, sizes, values, txn_of, lengthmarked, sighting_lengths}
use Rattle.spec.specs.{Calls.{Turn, refuse_turn, marked, logged, served, call}, Promises.{Meets, machine_of, LeftAsFound}}
use Rattle.spec.proofs.Abstract.Programs.{result-and_then, asked-and_then, not-stale}
use Rattle.refinement.proofs.{Decoded.Opened, Settling.{marked-settling, lengths-settling}}
use Rattle.refinement.proofs.TurnLaws.{program, on-stepped, check-held, check-failed}
use Rattle.std.specs.Prelude.{Result, Ok, Err, ⊤}
use Rattle.read_settle.specs.{Choices.{chosen_by_pointer, all_within, settled_transaction}}
use Rattle.read_settle.proofs.Settled.{settled_txn, settled_journal, txn-settled, journal-settled, standing-settled}
use Rattle.read_settle.proofs.{ChoiceLaws.{verdict-past, verdict-settled}, Chosen.settling-pointer}
use Rattle.call_read.proofs.ReadTests.{read_refusal, read-test-refused, ReadAdmitted, turned_left, SettledAs}
use Rattle.call_read.proofs.ReadTests.{transaction-now}

module _ (t d : ℕ) (m : Machine) (passes : admission (sizes m) m.store m.journal t ≡ 0) where
  pub pointer-refused : (r : Refusal) → number r ≡ read_refusal (transaction m.store t).stale d 0 0
      → call (on t (get_file_pointer d)) m ≡ refuse_turn (number r) [] m
  unfolding step pointer_step buffer_of descriptor_of_op is_read_call
  pointer-refused = read-test-refused t (get_file_pointer d) m passes d 0 0 refl refl (check-failed (leb d last_descriptor) 6 _)
      (λ l e. absurd (true≢false e))

  -- Transaction t, the choice, and the transaction afterwards.
  abbrev held : Transaction
  held = transaction m.store t

  abbrev pub choice : List Bool
  choice = chosen_by_pointer held d

  abbrev pub afterwards : Transaction
  afterwards = settled_transaction choice m.store.offsets held

  -- How the settled transaction goes on.
  expected : Txn → Prog Stepped
  expected y = done (accept y (pointer (offset_of (y.standing d))) [])

  pointer-result : (b : Bool) → d ≤ last_descriptor → all_within choice m.store.offsets held ≡ b → result
      (values m.store m.files) (program t (get_file_pointer d) m passes) ≡ result (values m.store m.files)
      (or_given_back expected (cond b (all (settled_txn m.store m.journal m.logs t choice)) past))
  unfolding step pointer_step expected
  pointer-result b h e = let v = values m.store m.files in let x = txn_of m.store m.journal m.logs t in
      let p = settling (cond (pointer_settles (x.standing d)) (d ∷ []) []) x in
      ap (result v) (check-held (leb d last_descriptor) 6 (and_then p (or_given_back expected)) (le-leb d last_descriptor h))
      ∙ result-and_then v p (or_given_back expected) ∙ ap (λ (s : Settled). result v (or_given_back expected s))
      (settling-pointer m.store m.journal m.files m.logs t d (omega arith)
      ∙ ap (λ (b : Bool). cond b (all (settled_txn m.store m.journal m.logs t choice)) past) e)

  pointer-past : held.stale ≡ false → d ≤ last_descriptor → all_within choice m.store.offsets held ≡ false
      → call (on t (get_file_pointer d)) m ≡ refuse_turn 12 [] m
  unfolding or_given_back result served buffer_of
  pointer-past f h e = on-stepped t (get_file_pointer d) m passes (not-stale held.stale (get_file_pointer d) f)
      ∙ ap (served t (get_file_pointer d) m (asked (values m.store m.files) (program t (get_file_pointer d) m passes)))
      (pointer-result false h e)

  -- Neither settling nor the answer marks anything.
  expected-marks : (s : Settled) → marked t (asked (values m.store m.files) (or_given_back expected s)) m.marks ≡ m.marks
  unfolding or_given_back asked expected marked
  expected-marks past = refl
  expected-marks (all y) = refl

  marks-preserved : d ≤ last_descriptor
      → marked t (asked (values m.store m.files) (program t (get_file_pointer d) m passes)) m.marks ≡ m.marks
  marks-preserved h = unfold step pointer_step expected in let v = values m.store m.files in
      let x = txn_of m.store m.journal m.logs t in let ds = cond (pointer_settles (x.standing d)) (d ∷ []) [] in
      ap (λ (p : Prog Stepped). marked t (asked v p) m.marks) (check-held (leb d last_descriptor) 6
      (and_then (settling ds x) (or_given_back expected)) (le-leb d last_descriptor h)) ∙ ap (λ (is : List Item). marked t is
      m.marks) (asked-and_then v (settling ds x) (or_given_back expected)) ∙ marked-settling v t ds x
      (asked v (or_given_back expected (result v (settling ds x)))) m.marks ∙ expected-marks (result v (settling ds x))

  -- Nor is a length sighted.
  expected-lengths : (s : Settled) (n : ℕ) → lengthmarked (asked (values m.store m.files) (or_given_back expected s)) n ≡ n
  unfolding or_given_back asked expected lengthmarked
  expected-lengths past n = refl
  expected-lengths (all y) n = refl

  lengths-preserved : d ≤ last_descriptor
      → sighting_lengths (asked (values m.store m.files) (program t (get_file_pointer d) m passes)) held ≡ held
  lengths-preserved h = unfold step pointer_step expected sighting_lengths in let v = values m.store m.files in
      let x = txn_of m.store m.journal m.logs t in let ds = cond (pointer_settles (x.standing d)) (d ∷ []) [] in
      ap (λ (n : ℕ). with_lengthmarks n held) (ap (λ (p : Prog Stepped). lengthmarked (asked v p) held.lengthmarks)
      (check-held (leb d last_descriptor) 6 (and_then (settling ds x) (or_given_back expected)) (le-leb d last_descriptor h))
      ∙ ap (λ (is : List Item). lengthmarked is held.lengthmarks) (asked-and_then v (settling ds x)
      (or_given_back expected)) ∙ lengths-settling v ds x (asked v (or_given_back expected (result v (settling ds x))))
      held.lengthmarks ∙ expected-lengths (result v (settling ds x)) held.lengthmarks)

  meets : Opened m.store m.journal m.logs t → held.stale ≡ false → d ≤ last_descriptor
      → all_within choice m.store.offsets held ≡ true → Meets (call (on t (get_file_pointer d)) m)
      (Ok (Offset (offset_of (standing_at afterwards d)))) (with_store (with_transaction t afterwards m.store)
      (with_journal (settled_journal m.store m.journal t choice) m)) []
  unfolding or_given_back result served said expected logged
  meets o f h e = let w = on-stepped t (get_file_pointer d) m passes (not-stale held.stale (get_file_pointer d) f)
      ∙ ap (served t (get_file_pointer d) m (asked (values m.store m.files) (program t (get_file_pointer d) m passes)))
      (pointer-result true h e) in record {
        outcome = ap (λ (z : Standing). pointer (offset_of z)) (standing-settled m.store m.journal m.logs t o
            choice d (omega arith)) ∙ sym (ap (λ (w : Turn). w.reply.answer) w);
        machine =
            sym (ap (λ (w : Turn). w.after) w ∙ ap₂ (λ (s : StoreMeaning) (j : List ℕ). lent s j m.files m.logs
            (marked t (asked (values m.store m.files) (program t (get_file_pointer d) m passes)) m.marks) m.undo)
            (txn-settled m.store m.journal m.logs t o choice _ (lengths-preserved h)) (journal-settled m.store
            m.journal m.logs t o choice) ∙ ap (λ (l : List ℕ). lent (with_transaction t afterwards m.store)
            (settled_journal m.store m.journal t choice) m.files m.logs l m.undo) (marks-preserved h));
        reader = sym (ap (λ (w : Turn). w.reply.buffer) w);
      }

-- The same of what the code has, once it may look: the record before settling and after.
module _ {state files logs marks undo : List ℕ} {t d : ℕ} (l : ReadAdmitted state files logs marks undo t d 0 0)
    (now : List ℕ) where
  abbrev SettledTo : Result ⊤ Refusal → Type 0
  SettledTo = SettledAs (λ x. chosen_by_pointer x d) t state now

  abbrev answered : Turn
  answered = call (on t (get_file_pointer d)) (machine_of state files logs marks undo)

  pub pointer-past-follows : (r : Refusal) → SettledTo (Err r) → Meets answered (Err AppendPastEnd)
      (machine_of now files logs marks undo) [] × LeftAsFound (Err AppendPastEnd) state now
  pointer-past-follows r s = turned_left AppendPastEnd [] state files logs marks undo answered
      (pointer-past t d (machine_of state files logs marks undo) l.passes l.may.fresh l.may.low
      (verdict-past _ _ _ r (sym s.verdict))) now (s.refused r refl)

  pub pointer-follows : SettledTo (Ok tt) → (a : ℕ) → a ≡ offset_of (standing_at (transaction_of now t) d)
      → Meets answered (Ok (Offset a)) (machine_of now files logs marks undo) [] × LeftAsFound (Ok (Offset a)) state now
  pointer-follows s a ea = (
    rw (ea, transaction-now (λ x. chosen_by_pointer x d) s l.held.small, s.store refl, s.journal refl)
        (meets t d (machine_of state files logs marks undo) l.passes l.held l.may.fresh l.may.low
        (verdict-settled _ _ _ (sym s.verdict))),
    λ r e n. cc,
  )
