-- A store that went down and came back stands for the same abstract store as one on which every transaction was aborted.
use mathlib.Core.{Bool.{Bool, true, false, cond, true≢false}, List.{List, [], ◌∷◌, ◌++◌}, Logic.{◌⊎◌, inl, inr}}
use mathlib.Core.Path.{◌≡◌, refl, sym, ap, ap₂, ◌∙◌, fun_ext, subst⁻¹}
use borrow.Author.Tests.{le-leb, eqb-true, eqb-false}
use lib.{Dec.eqb, ListN.{length, length-replicate, get_or-replicate}}
use Prim.Native.Nat.{ℕ, zero, suc, ◌≤◌, ◌<◌}
use native.Mathlib.{Nat.not-suc-le-zero, Omega.arith}
use Rattle.limits.specs.Limits.{buffer_bytes, transaction_count, last_transaction}
use Rattle.buffers.{specs.Parts.tabulate, proofs.PartLaws.le-or-lt}
use Rattle.state.specs.declared.{StoreMeaning.StoreMeaning, Transaction.Transaction}
use Rattle.state.specs.StoreMeaning.{transaction, no_transaction, no_descriptor, ended, window_at}
use Rattle.admission.proofs.Laws.{in-range, in-range-intro}
use Rattle.spec.specs.{Items.{Values, Item, byte, offset, file_length}, Transactions.put, Messages.{Call, abort, after_all}}
use Rattle.spec.specs.{Machine.{Machine, lent, file_of, values}, Calls.{calls_after, call}, Corollaries.RecoversByCode}
use Rattle.spec.specs.Recovery.{all_ended, recovered, ProgramRun, runs_after, Reached, abort_all, calls_of_runs}
use Rattle.spec.specs.SerializabilityOfStore.{FreshlyMade}
use Rattle.spec.proofs.Abstract.AbstractStore.{Seat, vacant, occupied, Saved, Abstract, start_abstract, with_seat}
use Rattle.spec.proofs.Abstract.AbstractStore.{abstract_answer, abstract_refuse, seated, abstract_abort, abstract_call}
use Rattle.spec.proofs.{Abstract.AbstractStore.abstract_after, Refinement.Relation.{open_txn_in, seat, back_in, view, Sound}}
use Rattle.spec.proofs.Refinement.{UndoValues.back-same, AfterReset.{seat-in, seat-out}}
use Rattle.spec.proofs.Theorems.Serializability.{calls-agree, fresh-facts}

-- What a store with nothing open stands for.
module _ (m : Machine) (closed : (t : ℕ) → t ≤ last_transaction → (transaction m.store t).begun ≡ false) where
  no-seat : (u : ℕ) → (transaction_count ≤ u) ⊎ (u < transaction_count) → seat m u ≡ vacant
  no-seat u (inl l) = seat-out m u l
  no-seat u (inr l) = seat-in m u false (open_txn_in m u) l (closed u (omega arith)) refl

  pub resting-view : view m ≡ start_abstract (file_of m.store) (values m.store m.files) (window_at m.store) (back_in m)
  resting-view = unfold view start_abstract in
      let e : ◌≡◌ {A = ℕ → Seat} (seat m) (λ u. vacant) = fun_ext (λ u. no-seat u (le-or-lt 8 u)) in λ i. record {
        file_of = file_of m.store;
        value = values m.store m.files;
        windows = window_at m.store;
        back = back_in m;
        seats = e i;
      }

-- ---- the store that comes back

module _ (logs marks : List ℕ) (m : Machine) where
  ended_at : (u : ℕ) → u < transaction_count → transaction (all_ended m.store) u ≡ ended
  ended_at u l = unfold all_ended in get_or-replicate 8 u ended no_transaction l

  pub recovered-closed : (t : ℕ) → t ≤ last_transaction → (transaction (recovered logs marks m).store t).begun ≡ false
  recovered-closed t l = unfold recovered ended in ap (λ (x : Transaction). x.begun) (ended_at t (omega arith))

  pub recovered-sound : Sound m → length logs ≡ buffer_bytes → length marks ≡ buffer_bytes → Sound (recovered logs marks m)
  unfolding recovered all_ended ended
  recovered-sound s size wide = let r = in-range m.store m.journal s.in_range in record {
    shaped = record {
      files = s.shaped.files;
      offsets = s.shaped.offsets;
      lengths = s.shaped.lengths;
      windows = s.shaped.windows;
      found_offsets = s.shaped.found_offsets;
      found_lengths = s.shaped.found_lengths;
      transactions = length-replicate 8 ended;
      descriptors = λ u l. ap (λ (x : Transaction). length x.descriptors) (ended_at u l)
          ∙ length-replicate 16 no_descriptor;
    };
    journal = s.journal;
    files = s.files;
    logs = size;
    marks = wide;
    undo = s.undo;
    in_range = in-range-intro (all_ended m.store) m.journal (record {
      files = r.files;
      offsets = r.offsets;
      lengths = r.lengths;
      windows = r.windows;
      undo = r.undo;
      transactions = λ u l b. absurd (true≢false (sym b ∙ recovered-closed u (omega arith)));
    });
  }

  pub recovered-view : view (recovered logs marks m)
      ≡ start_abstract (file_of m.store) (values m.store m.files) (window_at m.store) (back_in m)
  unfolding recovered all_ended file_of
  recovered-view = let n = recovered logs marks m in
      resting-view n recovered-closed ∙ ap₂ (λ (v : Values) (b : Saved). start_abstract (file_of m.store) v
      (window_at m.store) b) (fun_ext each) (back-same m n (λ h k l. refl) refl refl refl refl)
    where
      each : (i : Item) → values (recovered logs marks m).store m.files i ≡ values m.store m.files i
      each (byte q) = unfold values in refl
      each (offset d) = unfold values in refl
      each (file_length f) = unfold values in refl

pub recovers-by-code : RecoversByCode
unfolding recovered
recovers-by-code before after files logs marks undo new_logs new_marks e =
    ap₂ (λ (s : StoreMeaning) (journal : List ℕ). lent s journal files new_logs new_marks undo) e.0 e.1

-- ---- Aborts without buffers

-- With the first n seats vacant.
unfoldable vacated : ℕ → Abstract → Abstract
vacated zero s = s
vacated (suc n) s = with_seat n vacant (vacated n s)

module _ (s : Abstract) where
  vacated-below : (n u : ℕ) → u < n → (vacated n s).seats u ≡ vacant
  unfolding vacated with_seat put
  vacated-below zero u l = absurd (not-suc-le-zero l)
  vacated-below (suc n) u l = pick (eqb u n) refl (vacated-below n u)
    where
      pick : (b : Bool) → eqb u n ≡ b → (u < n → (vacated n s).seats u ≡ vacant) → cond b vacant ((vacated n s).seats u) ≡ vacant
      pick true e f = refl
      pick false e f = f (let q = eqb-false u n e in omega (arith, q))

  vacated-past : (n u : ℕ) → n ≤ u → (vacated n s).seats u ≡ s.seats u
  unfolding vacated with_seat put
  vacated-past zero u l = refl
  vacated-past (suc n) u l = pick (eqb u n) refl (vacated-past n u (omega arith))
    where
      pick : (b : Bool) → eqb u n ≡ b → (vacated n s).seats u ≡ s.seats u → cond b vacant ((vacated n s).seats u) ≡ s.seats u
      pick true e f = absurd (let q = eqb-true u n e in omega arith)
      pick false e f = f

-- An Abort leaves the seat vacant, whether it was so before or not.
seat-aborted : (t : ℕ) (x : Seat) (s : Abstract) → s.seats t ≡ x → (abstract_abort t x s).after ≡ with_seat t vacant s
unfolding abstract_abort abstract_refuse abstract_answer with_seat put
seat-aborted t vacant s e = let f : ◌≡◌ {A = ℕ → Seat} s.seats (put t vacant s.seats) = fun_ext (λ u. pick u (eqb u t)
    refl) in λ i. record { file_of = s.file_of; value = s.value; windows = s.windows; back = s.back; seats = f i }
  where
    pick : (u : ℕ) (b : Bool) → eqb u t ≡ b → s.seats u ≡ cond b vacant (s.seats u)
    pick u true q = ap s.seats (eqb-true u t q) ∙ e
    pick u false q = refl
seat-aborted t (occupied h) s e = refl

call-aborted : (t : ℕ) (s : Abstract) → t ≤ last_transaction → (abstract_call (abort t) s).after ≡ with_seat t vacant s
call-aborted t s l = unfold abstract_call seated in rw (le-leb t last_transaction l) (seat-aborted t (s.seats t) s refl)

sighted-append : (cs ds : List Call) (s : Abstract) → abstract_after (cs ++ ds) s ≡ abstract_after ds (abstract_after cs s)
unfolding abstract_after
sighted-append [] ds s = refl
sighted-append (c ∷ cs) ds s = sighted-append cs ds (abstract_call c s).after

aborted : (n : ℕ) (s : Abstract) → n ≤ 8 → abstract_after (tabulate abort n) s ≡ vacated n s
unfolding tabulate abstract_after vacated
aborted zero s l = refl
aborted (suc n) s l = sighted-append (tabulate abort n) (abort n ∷ []) s
    ∙ call-aborted n (abstract_after (tabulate abort n) s) (omega arith) ∙ ap (with_seat n vacant) (aborted n s (omega arith))

module _ (m : Machine) where
  none_left : (u : ℕ) → (transaction_count ≤ u) ⊎ (u < transaction_count) → (vacated transaction_count (view m)).seats u ≡ vacant
  unfolding view
  none_left u (inl l) = vacated-past (view m) 8 u l ∙ seat-out m u l
  none_left u (inr l) = vacated-below (view m) 8 u l

  all-vacated : vacated transaction_count (view m) ≡ start_abstract (file_of m.store) (values m.store m.files)
      (window_at m.store) (back_in m)
  unfolding vacated with_seat view start_abstract
  all-vacated = let e : ◌≡◌ {A = ℕ → Seat} (vacated 8 (view m)).seats (λ u. vacant) =
      fun_ext (λ u. none_left u (le-or-lt 8 u)) in λ i. record {
        file_of = file_of m.store;
        value = values m.store m.files;
        windows = window_at m.store;
        back = back_in m;
        seats = e i;
      }

  all-aborted : abstract_after abort_all (view m) ≡ start_abstract (file_of m.store) (values m.store m.files)
      (window_at m.store) (back_in m)
  all-aborted = unfold abort_all in aborted 8 (view m) (omega arith) ∙ all-vacated

-- ---- runs

-- Two sound stores that stand for the same abstract store.
pub record Twins (m n : Machine) : Type 0 where
  pub first : Sound m
  pub second : Sound n
  pub same : view m ≡ view n

pub calls-append : (cs ds : List Call) (m : Machine) → calls_after (cs ++ ds) m ≡ calls_after ds (calls_after cs m)
unfolding after_all
calls-append [] ds m = refl
calls-append (c ∷ cs) ds m = calls-append cs ds (call c m).after

-- The first goes on with every transaction aborted, the second comes back.
pub run-twins : (r : ProgramRun) (m n : Machine) → Twins m n
    → Twins (calls_after abort_all (calls_after r.calls m)) (recovered r.logs r.marks (calls_after r.calls n))
run-twins r m n w = let a = calls-agree r.calls m w.first in let b = calls-agree r.calls n w.second in
    let k = calls_after r.calls n in let c = calls-agree abort_all (calls_after r.calls m) a.sound in record {
      first = c.sound;
      second = recovered-sound r.logs r.marks k b.sound r.logs_length r.marks_length;
      same = c.state ∙ ap (abstract_after abort_all) (a.state ∙ ap (abstract_after r.calls) w.same ∙ sym b.state)
          ∙ all-aborted k ∙ sym (recovered-view r.logs r.marks k);
    }

pub runs-twins : (rs : List ProgramRun) (m n : Machine) → Twins m n → Twins (calls_after (calls_of_runs rs) m) (runs_after rs n)
unfolding calls_of_runs runs_after after_all
runs-twins [] m n w = w
runs-twins (r ∷ rs) m n w = let k = calls_after r.calls m in
    let e : calls_after (r.calls ++ (abort_all ++ calls_of_runs rs)) m ≡ calls_after (calls_of_runs rs) (calls_after abort_all k) =
    calls-append r.calls (abort_all ++ calls_of_runs rs) m ∙ calls-append abort_all (calls_of_runs rs) k in
    let l = recovered r.logs r.marks (calls_after r.calls n) in
    subst⁻¹ (λ (x : Machine). Twins x (runs_after rs l)) e (runs-twins rs (calls_after abort_all k) l (run-twins r m n w))

-- A fresh store after runs, and after their calls.
pub runs-from-fresh : (numbers : List ℕ) (m₀ : Machine) → FreshlyMade numbers m₀ → (rs : List ProgramRun)
    → Twins (calls_after (calls_of_runs rs) m₀) (runs_after rs m₀)
runs-from-fresh numbers m₀ made rs = let s = (fresh-facts numbers m₀ made).sound in
    runs-twins rs m₀ m₀ (record { first = s; second = s; same = refl })

pub reached-sound : (m : Machine) → Reached m → Sound m
reached-sound m r = subst⁻¹ (λ (x : Machine). Sound x) r.by (calls-agree r.calls (runs_after r.runs r.first)
    (runs-from-fresh r.numbers r.first r.made r.runs).second).sound

-- Nothing is open after runs where nothing was before.
pub runs_closed : (rs : List ProgramRun) (m : Machine) → ((t : ℕ) → t ≤ last_transaction → (transaction m.store t).begun ≡ false)
    → (t : ℕ) → t ≤ last_transaction → (transaction (runs_after rs m).store t).begun ≡ false
unfolding runs_after
runs_closed [] m closed = closed
runs_closed (r ∷ rs) m closed = let k = calls_after r.calls m in
    runs_closed rs (recovered r.logs r.marks k) (recovered-closed r.logs r.marks k)
