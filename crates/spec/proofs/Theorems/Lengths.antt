-- Lengths of every store reached from Fresh: they never shrink, are at most 4,096, and beyond them every byte is 0.
use mathlib.Core.{Bool.{Bool, true, false, cond, ◌&&◌, true≢false}, List.{List, [], ◌∷◌}}
use mathlib.Core.Path.{◌≡◌, refl, sym, ap, ◌∙◌, subst, subst⁻¹}
use borrow.Author.Tests.{leb-true}
use lib.Dec.{leb}
use native.Mathlib.Omega.{arith}
use Prim.Native.Nat.{ℕ, zero, suc, ◌≤◌, ◌<◌}
use Rattle.limits.specs.Limits.{file_bytes, transaction_count, last_transaction}
use Rattle.windows.specs.Windows.{minute_in}
use Rattle.state.specs.{Outcomes.done_answer, StoreMeaning.transaction}
use Rattle.admission.specs.{FirstRefusal.{guarded, is_none}, Admission.{window_refusal, admission_of_undo}}
use Rattle.admission.proofs.Laws.{admitted-undo, in-range, and_right}
use Rattle.spec.specs.{Windows.for_closed, Items.{file_length, Values, result, asked}}
use Rattle.spec.specs.Messages.{Op, buffer_of, Call, begin, on, commit, abort, places, set_window, undo_commit, best_order}
use Rattle.spec.specs.{Messages.after_all, Steps.{Stepped, refuse, accept, step, refused_stale}}
use Rattle.spec.specs.{Commits.{settings, fits, landed, commit_refusal}, Machine.{Machine, sizes, file_of, txn_of}}
use Rattle.spec.specs.{Undo.undone, Calls.{refuse_turn, passing, undo_turn, call, calls_after}}
use Rattle.spec.specs.Recovery.{recovered, ProgramRun, runs_after}
use Rattle.spec.specs.Lengths.{ZeroBeyond, Longer, committed_in, LengthsHold, LengthsAlwaysHold}
use Rattle.spec.specs.Counterexamples.{first_beyond, LengthsTell}
use Rattle.spec.proofs.Abstract.AbstractStore.{OpenTxn, Seat, vacant, occupied, Saved, none, preserved, none_occupied}
use Rattle.spec.proofs.Abstract.AbstractStore.{returned, abstract_return, abstract_undo, Abstract, start_abstract}
use Rattle.spec.proofs.Abstract.AbstractStore.{abstract_refuse, AbstractTurn, with_seat, abstract_answer, abstract_begin}
use Rattle.spec.proofs.Abstract.AbstractStore.{abstract_stepped, abstract_on, granting, abstract_committed, abstract_commit}
use Rattle.spec.proofs.Abstract.AbstractStore.{abstract_abort, abstract_places, windowed, abstract_window, seated}
use Rattle.spec.proofs.Abstract.{AbstractStore.{abstract_call, abstract_best_order}, Lengths.commit-longer}
use Rattle.spec.proofs.Refinement.{Relation.{open_txn_in, seat, back_values, back_in, view, Sound}, UndoValues.back-values}
use Rattle.spec.proofs.Refinement.{Decode.decoded-in, Accepted.length-in, Zeros.zero-granted}
use Rattle.spec.proofs.Theorems.Serializability.{call-turn, calls-agree, fresh-facts}
use Rattle.spec.proofs.Theorems.Recovery.{recovered-sound, recovered-view, runs-from-fresh}

-- What holds of the committed values, and of those that a granted Commit leaves, holds after every call.
module _ (P : Values → Saved → Type 0) (s : Abstract) (now : P s.value s.back) (grantable backable : Bool)
    (then : grantable ≡ true → (t : ℕ) (h : OpenTxn) → leb t last_transaction ≡ true → s.seats t ≡ occupied h → fits
    s.value h.txn ≡ true → P (landed (settings s.file_of s.value h.txn) s.value) (preserved s.value))
    (back : backable ≡ true → (v : Values) → s.back ≡ preserved v → P v none) where
  -- Of a store.
  abbrev At : Abstract → Type 0
  At z = P z.value z.back

  preserved-begin : (t : ℕ) (x : Seat) → At (abstract_begin t x s).after
  unfolding abstract_begin abstract_answer with_seat abstract_refuse
  preserved-begin t vacant = now
  preserved-begin t (occupied h) = now

  preserved-stepped : (t : ℕ) (o : Op) (h : OpenTxn) (z : Stepped)
      → At (abstract_stepped t o h (asked s.value (step s.file_of o h.txn)) s z).after
  unfolding abstract_stepped with_seat abstract_refuse
  preserved-stepped t o h (refuse n) = now
  preserved-stepped t o h (accept y a b) = now

  preserved-on : (t : ℕ) (o : Op) (x : Seat) → At (abstract_on t o x s).after
  unfolding abstract_on abstract_refuse
  preserved-on t o vacant = now
  preserved-on t o (occupied h) = preserved-stepped t o h
      (refused_stale h.stale o (result s.value (step s.file_of o h.txn)))

  preserved-committed : (t : ℕ) (h : OpenTxn) → leb t last_transaction ≡ true → s.seats t ≡ occupied h
      → (daily stale shut placed : Bool) → fits s.value h.txn ≡ placed → grantable ≡ true
      → At (abstract_committed t h s (commit_refusal daily stale shut placed)).after
  unfolding abstract_committed commit_refusal granting with_seat
  preserved-committed t h l o false stale shut placed e g = now
  preserved-committed t h l o true true shut placed e g = now
  preserved-committed t h l o true false true placed e g = now
  preserved-committed t h l o true false false true e g = then g t h l o e
  preserved-committed t h l o true false false false e g = now

  preserved-commit : grantable ≡ true → (t minute : ℕ) → leb t last_transaction ≡ true → (x : Seat) → s.seats t ≡ x
      → At (abstract_commit t minute x s).after
  unfolding abstract_commit abstract_refuse
  preserved-commit g t minute l vacant o = now
  preserved-commit g t minute l (occupied h) o = preserved-committed t h l o (minute_in minute) h.stale
      (for_closed s.file_of s.windows minute h.txn.writes) (fits s.value h.txn) refl g

  preserved-abort : (t : ℕ) (x : Seat) → At (abstract_abort t x s).after
  unfolding abstract_abort abstract_answer with_seat abstract_refuse
  preserved-abort t vacant = now
  preserved-abort t (occupied h) = now

  preserved-places : (f : ℕ) (out : List ℕ) (x : Seat) → At (abstract_places f out x s).after
  unfolding abstract_places abstract_refuse
  preserved-places f out vacant = now
  preserved-places f out (occupied h) = now

  preserved-window : (f start end : ℕ) → At (abstract_window f start end s).after
  unfolding abstract_window abstract_refuse abstract_answer windowed
  preserved-window f start end = pick (window_refusal f start end)
    where
      pick : (n : ℕ) → At (guarded (λ k. abstract_refuse k [] s) (is_none n) n
          (abstract_answer done_answer (windowed f start end s))).after
      pick zero = now
      pick (suc n) = now

  preserved-return : backable ≡ true → (b : Saved) → s.back ≡ b → At (abstract_return b s).after
  unfolding abstract_return abstract_refuse abstract_answer returned
  preserved-return g none e = now
  preserved-return g (preserved v) e = back g v e

  preserved-back : backable ≡ true → At (abstract_undo s).after
  unfolding abstract_undo abstract_refuse
  preserved-back g = pick (none_occupied s)
    where
      pick : (b : Bool) → At (guarded (λ k. abstract_refuse k [] s) b 23 (abstract_return s.back s)).after
      pick true = preserved-return g s.back refl
      pick false = now

  preserved-seated : (t : ℕ) (buffer : List ℕ) (next : Seat → Abstract → AbstractTurn)
      → (leb t last_transaction ≡ true → At (next (s.seats t) s).after) → At (seated t buffer next s).after
  unfolding seated abstract_refuse
  preserved-seated t buffer next h = pick (leb t last_transaction) h
    where
      pick : (b : Bool) → (b ≡ true → At (next (s.seats t) s).after)
          → At (cond b (next (s.seats t) s) (abstract_refuse 3 buffer s)).after
      pick true k = k refl
      pick false k = now

  pub preserved-call : (c : Call) → ((t minute : ℕ) → c ≡ commit t minute → grantable ≡ true) → (c ≡ undo_commit → backable ≡ true)
      → At (abstract_call c s).after
  unfolding abstract_call
  preserved-call (begin t) gr bk = preserved-seated t [] (abstract_begin t) (λ l. preserved-begin t (s.seats t))
  preserved-call (on t o) gr bk = preserved-seated t (buffer_of o) (abstract_on t o) (λ l. preserved-on t o (s.seats t))
  preserved-call (commit t minute) gr bk = preserved-seated t [] (abstract_commit t minute)
      (λ l. preserved-commit (gr t minute refl) t minute l (s.seats t) refl)
  preserved-call (abort t) gr bk = preserved-seated t [] (abstract_abort t) (λ l. preserved-abort t (s.seats t))
  preserved-call (places t f out) gr bk = preserved-seated t out (abstract_places f out) (λ l. preserved-places f out (s.seats t))
  preserved-call (set_window f start end) gr bk = preserved-window f start end
  preserved-call undo_commit gr bk = preserved-back (bk refl)
  preserved-call (best_order ts minute budget) gr bk = unfold abstract_best_order in now

-- Zeros beyond the lengths of what the store would go back to.
abbrev pub ZeroBack : Saved → Type 0
ZeroBack none = Unit {0}
ZeroBack (preserved v) = ZeroBeyond v

-- What is held in a seat of a store.
unfoldable occupant_or : Seat → OpenTxn → OpenTxn
occupant_or vacant z = z
occupant_or (occupied h) z = h

seat-occupied : (b : Bool) (g h : OpenTxn) → cond b (occupied g) vacant ≡ occupied h → (b ≡ true) × (h ≡ g)
unfolding occupant_or
seat-occupied true g h e = (refl, sym (ap (λ (x : Seat). occupant_or x g) e))
seat-occupied false g h e = let z : ◌≡◌ {A = ℕ} 0 1 = cc in absurd (omega arith)

module _ (m : Machine) (sound : Sound m) where
  -- After a call.
  after_call : (P : Values → Saved → Type 0) → P (committed_in m) (back_in m) → (backable : Bool) → ((t : ℕ) (h : OpenTxn)
      → leb t last_transaction ≡ true → (view m).seats t ≡ occupied h → fits (committed_in m) h.txn ≡ true
      → P (landed (settings (file_of m.store) (committed_in m) h.txn) (committed_in m)) (preserved (committed_in m)))
      → (backable ≡ true → (v : Values) → back_in m ≡ preserved v → P v none) → (c : Call)
      → (c ≡ undo_commit → backable ≡ true) → P (committed_in (call c m).after) (back_in (call c m).after)
  unfolding view
  after_call P now backable then back c g = subst⁻¹ (λ (z : Abstract). P z.value z.back) (call-turn c m sound).1
      (preserved-call P (view m) now true backable (λ e. then) back c (λ u n e. refl) g)

  pub grows-call : (c : Call) → (c ≡ undo_commit → ⊥) → Longer (committed_in m) (committed_in (call c m).after)
  grows-call c e = after_call (λ v b. Longer (committed_in m) v) (λ f. omega arith) false (λ t h l o e. commit-longer
      (file_of m.store) (committed_in m) h.txn) (λ b. absurd (true≢false (sym b))) c (λ b. absurd (e b))

  -- While somebody is open, nothing goes back.
  opened-call : (t : ℕ) → t ≤ last_transaction → (transaction m.store t).begun ≡ true → (call undo_commit m).after ≡ m
  unfolding call
  opened-call t l b = pick (admission_of_undo (sizes m) m.store m.journal) refl
    where
      pick : (n : ℕ) → admission_of_undo (sizes m) m.store m.journal ≡ n → (passing n [] m (undo_turn m)).after ≡ m
      pick zero e = let a = admitted-undo (sizes m) m.store m.journal e in
          absurd (true≢false (sym b ∙ a.idle t (omega arith)))
      pick (suc n) e = unfold passing refuse_turn in refl

  pub zeros-call : ZeroBeyond (committed_in m) → ZeroBack (back_in m) → (c : Call)
      → ZeroBeyond (committed_in (call c m).after) × ZeroBack (back_in (call c m).after)
  unfolding view seat open_txn_in file_of
  zeros-call zeros backs c = after_call (λ v b. ZeroBeyond v × ZeroBack b) (zeros, backs) true (λ t h l o fit. let k =
      leb-true t last_transaction l in let z = seat-occupied (leb t last_transaction && (transaction m.store t).begun)
      (open_txn_in m t) h o in let r = in-range m.store m.journal sound.in_range in let y : h.txn ≡ txn_of m.store
      m.journal m.logs t = ap (λ (g : OpenTxn). g.txn) z.1 in let small : t < transaction_count =
      omega arith in let ranges = decoded-in m.store m.journal m.logs t sound.logs small
      (r.transactions t small (and_right (leb t last_transaction) _ z.0)) (sound.shaped.descriptors t small) in
      (zero-granted (file_of m.store) (committed_in m) h.txn r.files (rw y ranges) fit zeros, zeros))
      (λ b v e. (subst ZeroBack e backs, tt)) c (λ e. refl)

  pub limit-now : (f : ℕ) → committed_in m (file_length f) ≤ file_bytes
  limit-now = length-in m.store m.journal m.files sound.shaped.lengths
      (in-range m.store m.journal sound.in_range)

  zeros-undone : ZeroBack (back_in m) → m.store.undo.valid ≡ true → ZeroBeyond (committed_in (undone m))
  zeros-undone backs h = unfold back_in in
      subst⁻¹ ZeroBeyond (back-values m) (subst (λ (b : Bool). ZeroBack (cond b (preserved (back_values m)) none)) h backs)

  hold-now : ZeroBeyond (committed_in m) → ZeroBack (back_in m) → LengthsHold m
  hold-now zeros backs = record
      { zeros = zeros; zeros_undone = zeros-undone backs; limit = limit-now; grows = grows-call; opened = opened-call }

hold-after : (cs : List Call) (m : Machine) → Sound m → ZeroBeyond (committed_in m) → ZeroBack (back_in m)
    → LengthsHold (calls_after cs m)
unfolding after_all
hold-after [] m sound zeros backs = hold-now m sound zeros backs
hold-after (c ∷ cs) m sound zeros backs = let z = zeros-call m sound zeros backs c in
    hold-after cs (call c m).after (call-turn c m sound).2 z.0 z.1

-- Over calls and over runs.
abbrev Zeros : Machine → Type 0
Zeros m = ZeroBeyond (committed_in m) × ZeroBack (back_in m)

calls-zeros : (cs : List Call) (m : Machine) → Sound m → Zeros m → Zeros (calls_after cs m)
unfolding after_all
calls-zeros [] m sound z = z
calls-zeros (c ∷ cs) m sound z = calls-zeros cs (call c m).after (call-turn c m sound).2 (zeros-call m sound z.0 z.1 c)

recovered-zeros : (logs marks : List ℕ) (m : Machine) → Zeros m → Zeros (recovered logs marks m)
recovered-zeros logs marks m z = unfold view start_abstract in
    subst⁻¹ (λ (s : Abstract). ZeroBeyond s.value × ZeroBack s.back) (recovered-view logs marks m) z

runs-zeros : (rs : List ProgramRun) (m : Machine) → Sound m → Zeros m → Zeros (runs_after rs m)
unfolding runs_after
runs-zeros [] m sound z = z
runs-zeros (r ∷ rs) m sound z = let k = calls_after r.calls m in
    runs-zeros rs (recovered r.logs r.marks k)
    (recovered-sound r.logs r.marks k (calls-agree r.calls m sound).sound r.logs_length r.marks_length)
    (recovered-zeros r.logs r.marks k (calls-zeros r.calls m sound z))

pub lengths-always-hold : LengthsAlwaysHold
unfolding view start_abstract
lengths-always-hold m r = let f = fresh-facts r.numbers r.first r.made in
    let z = runs-zeros r.runs r.first f.sound (
      subst⁻¹ ZeroBeyond (ap (λ (s : Abstract). s.value) f.same) (λ g p l e k. refl),
      subst⁻¹ ZeroBack (ap (λ (s : Abstract). s.back) f.same) tt,
    ) in
    subst⁻¹ LengthsHold r.by (hold-after r.calls (runs_after r.runs r.first)
    (runs-from-fresh r.numbers r.first r.made r.runs).second z.0 z.1)

pub lengths-tell : LengthsTell
lengths-tell = unfold first_beyond in record {
  beyond = λ h. let z : ◌≡◌ {A = ℕ} 1 0 = h 0 3 (omega arith) (omega arith) (omega arith) in absurd (omega arith);
  shorter = λ h. let z = h 0 in absurd (omega arith);
}
