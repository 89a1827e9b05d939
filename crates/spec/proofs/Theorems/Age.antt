-- "No condition reads the store's age": a store at rest stands for the same abstract store as a young one with its files,
-- offsets, lengths and windows, so both answer alike.
use mathlib.Core.{Bool.{Bool, true, false, cond, true≢false}, List.{List, [], ◌∷◌}}
use mathlib.Core.Path.{◌≡◌, refl, sym, ap, ap₂, ◌∙◌, fun_ext, subst⁻¹}
use lib.ListN.{length, get_or, set, replicate, length-replicate}
use Prim.Native.Nat.{ℕ, zero, suc, ◌≤◌}
use native.Mathlib.Omega.{arith}
use Rattle.limits.specs.Limits.{buffer_bytes, last_transaction}
use Rattle.windows.specs.{declared.Window.Window, Windows.fresh_window}
use Rattle.buffers.specs.{Parts.tabulate, Marks.without_marks}
use Rattle.state.specs.declared.Transaction.{Transaction}
use Rattle.state.specs.StoreMeaning.{transaction, window_at, ended, with_transaction, with_transactions}
use Rattle.state.specs.Journal.{last_grant, write_record_at, with_records, journal_length}
use Rattle.state.proofs.JournalLaws.{length-with, read-own}
use Rattle.admission.{specs.{FirstRefusal.is_none, Admission.admission}, proofs.Laws.{in-range, in-range-intro, landed-in}}
use Rattle.spec.specs.{Items.{Values, Item, byte, offset, file_length}, Messages.{Call, abort, after_all}}
use Rattle.spec.specs.Machine.{Machine, with_store, with_logs, with_marking, sizes, file_of, values}
use Rattle.spec.specs.{Undo.{landed_on, span_of_record, undone}, Plain.{Earlier, nothing, found, start_plain, plain_after}}
use Rattle.spec.specs.Calls.{answer_with, refuse_turn, passing, fresh_store, fresh_machine, reset, abort_turn, admitted, call}
use Rattle.spec.specs.{Calls.calls_after, Serializability.Holds, SerializabilityOfStore.the_store}
use Rattle.spec.specs.{Recovery.{all_ended, recovered, runs_after, abort_all, calls_of_runs}, UndoRestores.SameCommitted}
use Rattle.spec.specs.Age.{AtRest, rejuvenated, earlier_in, Alike, Recovers, NothingLost, AlwaysSurvives}
use Rattle.spec.specs.{Age.SerializabilityAtRest, Corollaries.{Ageless, Reloads}}
use Rattle.spec.proofs.Abstract.{PlainInvariant.GoodEarlier, SameReplies.back_of}
use Rattle.spec.proofs.Abstract.AbstractStore.{Saved, none, preserved, Abstract, start_abstract, abstract_after}
use Rattle.spec.proofs.{Abstract.AbstractStore.abstract_replies, Refinement.Relation.{back_values, back_in, view, Sound}}
use Rattle.spec.proofs.Refinement.UndoValues.{SameGrant, undo-values-same, back-same, back-values}
use Rattle.spec.proofs.Refinement.FreshView.{fresh-sound, closed_at}
use Rattle.spec.proofs.Theorems.Serializability.{calls-agree, fresh-facts, holds-from}
use Rattle.spec.proofs.Theorems.Recovery.{resting-view, recovered-closed, recovered-sound, calls-append, runs-from-fresh}
use Rattle.spec.proofs.Theorems.Recovery.{reached-sound, runs_closed}

pub at-rest-sound : (m : Machine) → AtRest m → Sound m
at-rest-sound m r = reached-sound m r.reached

-- Two sound stores that stand for the same abstract store answer alike.
pub alike : (m n : Machine) → Sound m → Sound n → view m ≡ view n → (cs : List Call) → Alike cs m n
alike m n s t e cs = unfold view in let a = calls-agree cs m s in let b = calls-agree cs n t in record {
  replies = a.replies ∙ ap (abstract_replies cs) e ∙ sym b.replies;
  left = ap (λ (x : Abstract). x.value) (a.state ∙ ap (abstract_after cs) e ∙ sym b.state);
}

pub recovers : Recovers
unfolding after_all
recovers numbers m₀ made rs = let w = runs-from-fresh numbers m₀ made rs in record {
  alike = alike (calls_after (calls_of_runs rs) m₀) (runs_after rs m₀) w.first w.second w.same;
  rests = record {
    reached = record { numbers = numbers; first = m₀; made = made; runs = rs; calls = []; by = refl };
    closed = runs_closed rs m₀ (fresh-facts numbers m₀ made).closed;
  };
}

-- With other transactions, logs and marks nothing is lost.
lent-preserved : (xs : List Transaction) (logs marks : List ℕ) (m : Machine)
    → NothingLost m (with_logs logs (with_marking marks (with_store (with_transactions xs m.store) m)))
unfolding earlier_in
lent-preserved xs logs marks m = record {
  committed = record { files = refl; offsets = refl; lengths = refl };
  windows = refl;
  earlier = ap (λ (v : Values). cond m.store.undo.valid (found (record { value = v; setter = λ i. 0 }) 0) nothing)
      (fun_ext each);
}
  where
    n : Machine
    n = undone (with_logs logs (with_marking marks (with_store (with_transactions xs m.store) m)))

    each : (i : Item) → values n.store n.files i ≡ values (undone m).store (undone m).files i
    each (byte q) = unfold values undone landed_on span_of_record file_of in refl
    each (offset d) = unfold values undone in refl
    each (file_length f) = unfold values undone in refl

lost-then : (m n k : Machine) → NothingLost m n → NothingLost n k → NothingLost m k
lost-then m n k a b = record {
  committed = record {
    files = b.committed.files ∙ a.committed.files;
    offsets = b.committed.offsets ∙ a.committed.offsets;
    lengths = b.committed.lengths ∙ a.committed.lengths;
  };
  windows = b.windows ∙ a.windows;
  earlier = b.earlier ∙ a.earlier;
}

abort-preserved : (t : ℕ) (m : Machine) → NothingLost m (call (abort t) m).after
unfolding call admitted passing
abort-preserved t m = pick (is_none (admission (sizes m) m.store m.journal t))
  where
    pick : (b : Bool) → NothingLost m (cond b (abort_turn t m)
        (refuse_turn (admission (sizes m) m.store m.journal t) [] m)).after
    pick true = unfold abort_turn answer_with reset with_transaction in lent-preserved (set m.store.transactions t ended)
        m.logs (without_marks t m.marks) m
    pick false = unfold refuse_turn in lent-preserved m.store.transactions m.logs m.marks m

aborts-preserved : (n : ℕ) (m : Machine) → NothingLost m (calls_after (tabulate abort n) m)
unfolding tabulate after_all
aborts-preserved zero m = lent-preserved m.store.transactions m.logs m.marks m
aborts-preserved (suc n) m = let k = calls_after (tabulate abort n) m in
    subst⁻¹ (λ (x : Machine). NothingLost m x) (calls-append (tabulate abort n) (abort n ∷ []) m)
    (lost-then m k (call (abort n) k).after (aborts-preserved n m) (abort-preserved n k))

pub survives : AlwaysSurvives
unfolding abort_all
survives m logs marks = record {
  recovering = unfold recovered all_ended in lent-preserved (replicate 8 ended) logs marks m;
  aborting = aborts-preserved 8 m;
}

-- What an undo restores where the reference model starts.
pub earlier-good : (m : Machine) → GoodEarlier (earlier_in m)
unfolding earlier_in
earlier-good m = pick m.store.undo.valid
  where
    pick : (b : Bool) → GoodEarlier (cond b (found
        (record { value = values (undone m).store (undone m).files; setter = λ i. 0 }) 0) nothing)
    pick true = λ i. omega arith
    pick false = tt

earlier-back : (m : Machine) → back_in m ≡ back_of (earlier_in m)
unfolding earlier_in back_in back_of
earlier-back m = pick m.store.undo.valid
  where
    pick : (b : Bool) → cond b (preserved (back_values m)) none ≡ back_of
        (cond b (found (record { value = values (undone m).store (undone m).files; setter = λ i. 0 }) 0) nothing)
    pick true = ap preserved (sym (back-values m))
    pick false = refl

-- It goes by what the store would go back to alone.
earlier_of : Saved → Earlier
earlier_of none = nothing
earlier_of (preserved v) = found (record { value = v; setter = λ i. 0 }) 0

earlier-of : (m : Machine) → earlier_in m ≡ earlier_of (back_in m)
unfolding earlier_in back_in earlier_of
earlier-of m = pick m.store.undo.valid
  where
    pick : (b : Bool) → cond b (found (record { value = values (undone m).store (undone m).files; setter = λ i. 0 }) 0)
        nothing ≡ earlier_of (cond b (preserved (back_values m)) none)
    pick true = ap (λ (v : Values). found (record { value = v; setter = λ i. 0 }) 0) (back-values m)
    pick false = refl

-- Serializability from a sound store with nothing open.
module _ (m : Machine) (sound : Sound m) (closed : (t : ℕ) → t ≤ last_transaction → (transaction m.store t).begun ≡ false) where
  pub resting-start :
      view m ≡ start_abstract (file_of m.store) (values m.store m.files) (window_at m.store) (back_of (earlier_in m))
  resting-start = resting-view m closed ∙ ap (λ (b : Saved). start_abstract (file_of m.store)
      (values m.store m.files) (window_at m.store) b) (earlier-back m)

  pub resting-holds : (cs : List Call) → let p = start_plain (file_of m.store) (values m.store m.files)
      (window_at m.store) (earlier_in m) in Holds the_store m p cs (calls_after cs m) (plain_after cs p)
  resting-holds cs = holds-from (file_of m.store) (values m.store m.files) (window_at m.store) (earlier_in m)
      (earlier-good m) m sound resting-start cs

pub serializability-at-rest : SerializabilityAtRest
serializability-at-rest m rest = resting-holds m (at-rest-sound m rest) rest.closed

-- ---- age

same-values : (m n : Machine) → SameCommitted m n → values n.store n.files ≡ values m.store m.files
same-values m n e = fun_ext each
  where
    each : (i : Item) → values n.store n.files i ≡ values m.store m.files i
    each (byte q) = unfold values in ap (λ (l : List ℕ). get_or l q 0) e.files
    each (offset d) = unfold values in ap (λ (l : List ℕ). get_or l d 0) e.offsets
    each (file_length f) = unfold values in ap (λ (l : List ℕ). get_or l f 0) e.lengths

-- A sound store with nothing open.
pub record IdleMachine (m : Machine) : Type 0 where
  pub sound : Sound m
  pub closed : (t : ℕ) → t ≤ last_transaction → (transaction m.store t).begun ≡ false

-- Two such stores with the same committed state stand for the same abstract store.
pub idle-alike : (m n : Machine) → IdleMachine m → IdleMachine n → n.store.filenumbers ≡ m.store.filenumbers → NothingLost m n
    → (cs : List Call) → Alike cs m n
idle-alike m n a b files lost = unfold file_of in let v = same-values m n lost.committed in
    alike m n a.sound b.sound (resting-start m a.sound a.closed ∙ sym (resting-start n b.sound b.closed
    ∙ ap₂ (λ (l : List ℕ) (w : Values). start_abstract (λ d. get_or l d 0) w (window_at n.store) (back_of (earlier_in n)))
    files v ∙ ap₂ (λ (ws : List Window) (x : Earlier). start_abstract (file_of m.store) (values m.store m.files)
    (λ f. get_or ws f fresh_window) (back_of x)) lost.windows lost.earlier))

at-rest-idle : (m : Machine) → AtRest m → IdleMachine m
at-rest-idle m rest = record { sound = at-rest-sound m rest; closed = rest.closed }

-- The young store is sound too, has nothing open and the same committed values.
module _ (m : Machine) (s : Sound m) (logs : List ℕ) (size : length logs ≡ buffer_bytes) where
  abbrev records : ℕ
  records = m.store.undo.used.records

  abbrev young-journal : List ℕ
  young-journal = with_records (replicate journal_length 0) last_grant (write_record_at m.journal last_grant) records

  -- Its journal holds the same of the last grant.
  young-grant : SameGrant m.store.undo young-journal m.journal
  young-grant h k l = let r = (in-range m.store m.journal s.in_range).undo h in
      let w = landed-in (write_record_at m.journal last_grant k) (r.writes k l) in
      read-own (replicate journal_length 0) last_grant (write_record_at m.journal last_grant)
      (length-replicate journal_length zero) (omega arith) records k r.records l (omega (arith, w.0))

  young-long : length young-journal ≡ journal_length
  young-long = length-with (replicate journal_length 0) last_grant (write_record_at m.journal last_grant) records
      ∙ length-replicate journal_length zero

  pub young-sound : Sound (rejuvenated m logs)
  young-sound = unfold rejuvenated fresh_machine fresh_store in let r = in-range m.store m.journal s.in_range in
      let f = fresh-sound m.store.filenumbers logs m.undo s.shaped.files r.files size s.undo in record {
        shaped = record {
          files = s.shaped.files;
          offsets = s.shaped.offsets;
          lengths = s.shaped.lengths;
          windows = s.shaped.windows;
          found_offsets = s.shaped.found_offsets;
          found_lengths = s.shaped.found_lengths;
          transactions = f.shaped.transactions;
          descriptors = f.shaped.descriptors;
        };
        journal = young-long;
        files = s.files;
        logs = size;
        marks = f.marks;
        undo = s.undo;
        in_range = in-range-intro (rejuvenated m logs).store (rejuvenated m logs).journal (record {
          files = r.files;
          offsets = r.offsets;
          lengths = r.lengths;
          windows = r.windows;
          undo = λ h. undo-values-same m.store.undo young-journal m.journal young-grant h (r.undo h);
          transactions = λ u l b. absurd (true≢false (sym b ∙ closed_at m.store.filenumbers logs m.undo u l));
        });
      }

  young-closed : (t : ℕ) → t ≤ last_transaction → (transaction (rejuvenated m logs).store t).begun ≡ false
  young-closed t l = unfold rejuvenated fresh_machine in closed_at m.store.filenumbers logs m.undo t (omega arith)

  same_back : back_in (rejuvenated m logs) ≡ back_in m
  same_back = unfold rejuvenated fresh_store fresh_machine in back-same m (rejuvenated m logs) young-grant refl refl refl refl

  same_start : start_abstract (file_of m.store) (values m.store m.files) (window_at m.store) (back_in m)
      ≡ start_abstract (file_of (rejuvenated m logs).store) (values (rejuvenated m logs).store (rejuvenated m logs).files)
      (window_at (rejuvenated m logs).store) (back_in (rejuvenated m logs))
  unfolding rejuvenated fresh_store fresh_machine file_of
  same_start = ap₂ (λ (v : Values) (b : Saved). start_abstract (file_of m.store) v (window_at m.store) b) (fun_ext each)
      (sym same_back)
    where
      each : (i : Item) → values m.store m.files i ≡ values (rejuvenated m logs).store (rejuvenated m logs).files i
      each (byte q) = unfold values in refl
      each (offset d) = unfold values in refl
      each (file_length f) = unfold values in refl

  -- It stands for the same abstract store as a store that has gone down.
  pub young-view : view (rejuvenated m logs)
      ≡ start_abstract (file_of m.store) (values m.store m.files) (window_at m.store) (back_in m)
  young-view = resting-view (rejuvenated m logs) young-closed ∙ sym same_start

  young-preserved : NothingLost m (rejuvenated m logs)
  young-preserved = unfold rejuvenated fresh_store fresh_machine in record {
    committed = record { files = refl; offsets = refl; lengths = refl };
    windows = refl;
    earlier = earlier-of (rejuvenated m logs) ∙ ap earlier_of same_back ∙ sym (earlier-of m);
  }

pub ageless : Ageless
unfolding rejuvenated fresh_store fresh_machine
ageless m rest logs size = let s = at-rest-sound m rest in
    idle-alike m (rejuvenated m logs) (at-rest-idle m rest)
    (record { sound = young-sound m s logs size; closed = young-closed m s logs size }) refl (young-preserved m s logs size)

-- With nothing open no call reads logs, marks and what is left of ended transactions.
pub reloads : Reloads
reloads m rest logs marks size wide cs = let s = at-rest-sound m rest in record {
  ended = idle-alike m (recovered logs marks m) (at-rest-idle m rest)
      (record { sound = recovered-sound logs marks m s size wide; closed = recovered-closed logs marks m })
      (unfold recovered all_ended in refl) (survives m logs marks).recovering cs;
  as_it_lies = idle-alike m (with_logs logs (with_marking marks m)) (at-rest-idle m rest) (record {
    sound = record {
      shaped = s.shaped;
      journal = s.journal;
      files = s.files;
      logs = size;
      marks = wide;
      undo = s.undo;
      in_range = s.in_range;
    };
    closed = rest.closed;
  }) refl (lent-preserved m.store.transactions logs marks m) cs;
}
